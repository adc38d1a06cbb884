-- What a scheme lends is its heading there, and nothing past the last.
use Rattle.std.proofs.Common.{◌≡◌, ℕ, List, [], Bor, Some, None, Option, unwrap_or, refl, ap, ◌∙◌}
use Rattle.std.proofs.lemmas.Option.{unwrap_or-slice_get}
use Rattle.columns.specs.Layouts.{lent}
use Rattle.reports.proofs.line.heading_or_blank.Goals as goal

lent_or : (o : Option (Bor (List ℕ))) (other : Bor (List ℕ)) → (unwrap_or o other).now ≡ unwrap_or (lent o) other.now
lent_or None other = refl
lent_or (Some r) other = refl

pub returns : goal.returns
returns g c =
    ap (λ (r : Bor (List ℕ)). r.now) c.unwrap_or.ensures ∙ lent_or c.heading.result _ ∙ ap (λ o. unwrap_or o []) c.heading.ensures ∙ unwrap_or-slice_get (g.S.ColumnScheme.layout c.args.scheme.now).headings c.args.column []
