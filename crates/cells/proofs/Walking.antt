-- The walk over a file: where it ends, and how the end of a cell is found.
use Rattle.std.proofs.Common.{◌≡◌, ℕ, ◌+◌, ◌-◌, ◌<◌, ◌≤◌, Bool, true, false, List, [], ◌∷◌, ◌++◌, length, get_or, take, drop, Some, None, Option, sym, refl, ap, ◌∙◌, arith}
use Rattle.std.proofs.lemmas.List.{at_drop_more, drop-drop, take_more}
use Rattle.std.proofs.lemmas.Bool.Decides.{nat_tests}
use Rattle.std.proofs.lemmas.Grind.{common_steps}
use Rattle.cells.specs.Cells.{Cut, begins_with, cut, end_here, end_text, new_cut, widened}

-- all that is left, as so many bytes of it
pub left_whole : (bs : List ℕ) (i : ℕ) → take (length bs - i) (drop i bs) ≡ drop i bs
left_whole bs i = grind (arith, common_steps)

-- bytes before bytes before a cut
widened_twice : (xs ys : List ℕ) (c : Option Cut) → widened xs (widened ys c) ≡ widened (xs ++ ys) c
widened_twice xs ys c = grind (arith, common_steps)

-- where a cell ends, its end stands
line_feed : (bs : List ℕ) → begins_with 10 bs ≡ true → bs ≡ 10 ∷ drop 1 bs
line_feed [] e = cc
line_feed (b ∷ bs) e = grind (arith, nat_tests)

pub end_stands : (bs : List ℕ) (last : Bool) → end_here bs ≡ Some last → bs ≡ end_text last ++ drop (length (end_text last)) bs
end_stands [] last e = cc
end_stands (b ∷ bs) true e = let feed = line_feed bs in grind (arith, nat_tests)
end_stands (b ∷ bs) false e = grind (arith, nat_tests)

-- the cut by what stands at the front
pub ended_with : (last : Bool) (rest : List ℕ) → cut (end_text last ++ rest) ≡ Some (new_cut [] last rest)
ended_with false rest = refl
ended_with true rest = refl

pub ended_later : (b : ℕ) (bs : List ℕ) → end_here (b ∷ bs) ≡ None → cut (b ∷ bs) ≡ widened (b ∷ []) (cut bs)
ended_later b bs e = grind (arith, nat_tests)

-- the search for the end: the first i bytes belong to the cell, which ends in what is left
module _ (bs : List ℕ) (i : ℕ) (so_far : cut bs ≡ widened (take i bs) (cut (drop i bs))) where
  pub end_nowhere : length bs ≤ i → cut bs ≡ None
  end_nowhere past = grind (arith, common_steps)

  pub end_later : i < length bs → end_here (drop i bs) ≡ None → cut bs ≡ widened (take (i + 1) bs) (cut (drop (i + 1) bs))
  end_later before e =
      so_far ∙ ap (widened (take i bs)) (at_drop_more cut bs i 0 before ∙ ended_later (get_or bs i 0) (drop (i + 1) bs) (sym (at_drop_more end_here bs i 0 before) ∙ e)) ∙ widened_twice (take i bs) (get_or bs i 0 ∷ []) (cut (drop (i + 1) bs)) ∙ ap (λ front. widened front (cut (drop (i + 1) bs))) (sym (take_more bs i 0 before))

  module _ (last : Bool) (e : end_here (drop i bs) ≡ Some last) where
    abbrev size : ℕ
    size = length (end_text last)

    stands : drop i bs ≡ end_text last ++ drop (i + size) bs
    stands = end_stands (drop i bs) last e ∙ ap (λ rest. end_text last ++ rest) (drop-drop size i bs)

    pub end_found : cut bs ≡ Some (new_cut (take i bs) last (drop (i + size) bs))
    end_found = let ends = stands in grind (arith, common_steps, ended_with)

    pub end_fits : i ≤ length bs → i + size ≤ length bs
    end_fits within = let ends = stands in grind (arith, common_steps)
