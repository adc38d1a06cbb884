-- Each name gave its heading.
use Rattle.std.proofs.Common.{◌≡◌, [], rules, refl}
use Rattle.columns.specs.Calendar.{digits}
use Rattle.columns.specs.Layouts.{month_heading}
use Rattle.columns.proofs.Filling.{map_holds}
use Rattle.columns.proofs.month_scheme.month_headings.Goals as goal

pub returns : goal.returns
returns c =
    map_holds _ (month_heading c.args.year) (λ f. f.0.now ≡ digits c.args.year) (λ p x y q s k. search rules) [] _ _ _ _ c.map.ensures.items c.year_digits-digits.ensures refl
