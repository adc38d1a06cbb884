-- Each year gave its heading.
use Rattle.std.proofs.Common.{◌≡◌, ◌-◌, [], rules, refl}
use Rattle.columns.specs.Layouts.{recent_heading}
use Rattle.columns.proofs.Filling.{from_fn_holds}
use Rattle.columns.proofs.year_scheme.recent_headings.Goals as goal

pub returns : goal.returns
returns c =
    from_fn_holds _ (λ k. recent_heading (c.args.year - k)) (λ f. f.0.now ≡ c.args.year) (λ p x y q s k. search rules) [] _ _ _ c.from_fn.ensures.items refl
