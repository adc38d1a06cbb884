-- The turns of the loop over the numbers of a line.
use Rattle.std.proofs.Common.{◌≡◌, ℕ, suc, ◌+◌, ◌-◌, ◌<◌, ◌≤◌, Bool, ◌&&◌, eqb, List, [], ◌∷◌, ◌++◌, length, take, set, Ok, Err, Result, sym, refl, ap, ◌∙◌, ⊎_elim, arith}
use Rattle.std.proofs.lemmas.List.{append_assoc, append-nil, take_all, take_more_set}
use Rattle.std.proofs.lemmas.Bool.{cases_eq, eq-eqb, ne_eqb}
use Rattle.cells.specs.declared.fault.LineFault.{LineFault}
use Rattle.cells.specs.Judged.{number_at}
use Rattle.cells.specs.Places.{Place, and_then}
use Rattle.grammar.specs.Lines.{numbers_at}

-- what is read, behind what was read before
abbrev pub onto : List ℕ → List ℕ × Place → Result (List ℕ × Place) LineFault
onto xs y = Ok (xs ++ y.0, y.1)

-- readings one after another, grouped either way
pub then_assoc : {A B C E : Type 0} (r : Result A E) (f : A → Result B E) (g : B → Result C E) → and_then (and_then r f) g ≡ and_then r (λ x. and_then (f x) g)
then_assoc (Ok x) f g = refl
then_assoc (Err e) f g = refl

-- the next of k numbers is the last where no other is left
pub none_left : (k i : ℕ) → i < k → eqb (k - (i + 1)) 0 ≡ eqb (i + 1) k
none_left k i h =
    ⊎_elim
    (λ e. eq-eqb (k - (i + 1)) 0 (omega arith) ∙ sym (eq-eqb (i + 1) k e))
    (λ e. let n : k - (i + 1) ≡ 0 → ⊥ = λ z. e (omega arith) in ne_eqb (k - (i + 1)) 0 n ∙ sym (ne_eqb (i + 1) k e))
    (cases_eq (i + 1) k)

module _ (ends : Bool) (k i : ℕ) (h : i < k) (p : Place) (xs : List ℕ) where
  turn : and_then (numbers_at ends (k - i) p) (onto xs) ≡ and_then (number_at (ends && eqb (i + 1) k) p) (λ x. and_then (numbers_at ends (k - (i + 1)) x.1) (onto (xs ++ (x.0 ∷ []))))
  turn =
      let less : k - i ≡ suc (k - (i + 1)) = omega arith in
      ap (λ m. and_then (numbers_at ends m p) (onto xs)) less
      ∙ then_assoc (number_at (ends && eqb (k - (i + 1)) 0) p) (λ x. and_then (numbers_at ends (k - (i + 1)) x.1) (λ y. Ok (x.0 ∷ y.0, y.1))) (onto xs)
      ∙ (λ j. and_then (number_at (ends && none_left k i h j) p) (λ x. then_assoc (numbers_at ends (k - (i + 1)) x.1) (λ y. Ok (x.0 ∷ y.0, y.1)) (onto xs) j))
      ∙ (λ j. and_then (number_at (ends && eqb (i + 1) k) p) (λ x. and_then (numbers_at ends (k - (i + 1)) x.1) (λ y. Ok (sym (append_assoc xs (x.0 ∷ []) y.0) j, y.1))))

  pub numbers_stop : (e : LineFault) → number_at (ends && eqb (i + 1) k) p ≡ Err e → and_then (numbers_at ends (k - i) p) (onto xs) ≡ Err e
  numbers_stop e z = turn ∙ ap (λ r. and_then r (λ x. and_then (numbers_at ends (k - (i + 1)) x.1) (onto (xs ++ (x.0 ∷ []))))) z

  then : (q : Place) (n : ℕ) → number_at (ends && eqb (i + 1) k) p ≡ Ok (n, q) → and_then (numbers_at ends (k - i) p) (onto xs) ≡ and_then (numbers_at ends (k - (i + 1)) q) (onto (xs ++ (n ∷ [])))
  then q n z = turn ∙ ap (λ r. and_then r (λ x. and_then (numbers_at ends (k - (i + 1)) x.1) (onto (xs ++ (x.0 ∷ []))))) z

pub numbers_more : (ends : Bool) (k i : ℕ) → i < k → (p q : Place) (row : List ℕ) (n : ℕ) → i < length row → number_at (ends && eqb (i + 1) k) p ≡ Ok (n, q) → and_then (numbers_at ends (k - (i + 1)) q) (onto (take (i + 1) (set row i n))) ≡ and_then (numbers_at ends (k - i) p) (onto (take i row))
numbers_more ends k i h p q row n l z = sym (then ends k i h p (take i row) q n z ∙ ap (λ xs. and_then (numbers_at ends (k - (i + 1)) q) (onto xs)) (sym (take_more_set row i n l)))

pub numbers_end : (ends : Bool) (k i : ℕ) (p : Place) (row : List ℕ) → k ≤ i → length row ≡ k → and_then (numbers_at ends (k - i) p) (onto (take i row)) ≡ Ok (row, p)
numbers_end ends k i p row h l =
    let z : k - i ≡ 0 = omega arith in
    ap (λ m. and_then (numbers_at ends m p) (onto (take i row))) z ∙ ap (λ xs. Ok (xs, p)) (append-nil (take i row) ∙ take_all i row (omega arith))
