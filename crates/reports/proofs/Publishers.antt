-- The publisher that all titles share.
use Rattle.std.proofs.Common.{◌≡◌, cond, List, [], ◌∷◌, map, ap, ◌∙◌}
use Rattle.std.proofs.lemmas.List.Folds.{list_all-map}
use Rattle.std.specs.List.{list_all}
use Rattle.std.specs.Str.{bytes_eq}
use Rattle.titles.specs.declared.title.Title.{Title}
use Rattle.reports.specs.Reports.{shared}

-- the first publisher is that of all if the others have it
pub shared_by : (ts : List Title) (first : Title) (others : List Title) → ts ≡ first ∷ others → shared (map (λ t. t.publisher.now) ts) ≡ cond (list_all (λ t. bytes_eq first.publisher.now t.publisher.now) others) first.publisher.now []
shared_by ts first others is =
    ap (λ l. shared (map (λ (t : Title). t.publisher.now) l)) is ∙ ap (λ b. cond b first.publisher.now []) (list_all-map (bytes_eq first.publisher.now) (λ (t : Title). t.publisher.now) others)
