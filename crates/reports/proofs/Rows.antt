-- A text for each element of a row, one after another.
use Rattle.std.proofs.Common.{ℕ, ◌+◌, ◌<◌, ◌≤◌, List, [], ◌++◌, length, get_or, take, sym, ap, ◌∙◌, subst, append_assoc}
use Rattle.std.specs.List.{flat_map}
use Rattle.std.proofs.lemmas.Grind.{flat_map-append}
use Rattle.std.proofs.lemmas.List.{flat_map_more, take_all, take_more}
use Rattle.reports.specs.declared.page.Page.{Page}
use Rattle.reports.specs.Puts.{Put}
use Rattle.reports.specs.Written.{line_end, line_text, next_cell}
use Rattle.reports.proofs.Steps.{next}

module _ {X : Type 0} (f : X → List ℕ) (xs : List X) (i : ℕ) (old new : Page) where
  pub row_more : (mid : Page) (d : X) → i < length xs → Put old (flat_map f (take i xs)) mid → Put mid (f (get_or xs i d)) new → Put old (flat_map f (take (i + 1) xs)) new
  row_more mid d h p q =
      subst (λ text. Put old text new) (flat_map_more f [] (take i xs) (get_or xs i d) ∙ ap (flat_map f) (sym (take_more xs i d h))) (next old mid new (flat_map f (take i xs)) (f (get_or xs i d)) p q)

  pub row_all : length xs ≤ i → Put old (flat_map f (take i xs)) new → Put old (flat_map f xs) new
  row_all h p = subst (λ l. Put old (flat_map f l) new) (take_all i xs h) p

-- a line whose cells are written in three parts
pub line_put : (old a b c new : Page) (first : List ℕ) (xs ys zs : List (List ℕ)) → Put old (first ++ flat_map next_cell xs) a → Put a (flat_map next_cell ys) b → Put b (flat_map next_cell zs) c → Put c line_end new → Put old (line_text first (xs ++ (ys ++ zs))) new
line_put old a b c new first xs ys zs p q r s =
    simp (flat_map-append, append_assoc) (simp append_assoc at (next old a new (first ++ flat_map next_cell xs) (flat_map next_cell ys ++ (flat_map next_cell zs ++ line_end)) p (next a b new (flat_map next_cell ys) (flat_map next_cell zs ++ line_end) q (next b c new (flat_map next_cell zs) line_end r s))))
