-- What an array holds that calls of a closure filled.
use Rattle.std.proofs.Common.{◌≡◌, ℕ, zero, suc, ◌+◌, ◌<◌, ◌≤◌, List, map, length, get_or, ⊎_elim, sym, ap, ◌∙◌, arith}
use Rattle.std.proofs.lemmas.Bool.{cases_lt}
use Rattle.std.proofs.lemmas.List.{same_lists, length-map, get_or-map}
use Rattle.std.proofs.lemmas.List.FromFn.{fill_by_all}
use Rattle.std.specs.Array.{IsFromFnResult, IsFromFnResultFrom, IsMapOf, MapsFrom}
use Rattle.std.specs.List.{range_with_len}
use denote.Param.Members.{Mut, Called}

-- each call gives the value of its argument, where the closure is one of those that are kept
module _ {F A B : Type 0} (g : Mut F (A × Unit {0}) B) (value : A → B) (kept : F → Type 0) (gives : (p : F) (x : A) (y : B) (q : F) → kept p → Called g p (x, tt) y q → (y ≡ value x) × kept q) where
  mapped : (f : F) (xs : List A) (ys : List B) (i n : ℕ) → kept f → MapsFrom g f xs ys i n → (k : ℕ) (d : A) (e : B) → i ≤ k → k < i + n → get_or ys k e ≡ value (get_or xs k d)
  mapped f xs ys i zero s m k d e low high = absurd (omega arith)
  mapped f xs ys i (suc n) s m k d e low high =
      let r = gives f m.1 m.2 m.0 s m.5 in
      ⊎_elim (λ l. mapped m.0 xs ys (i + 1) n r.1 m.6 k d e (omega arith) (omega arith))
      (λ l. let h : i ≡ k = omega arith in rw (← h) (m.4.1 e ∙ r.0 ∙ ap value (sym (m.3.1 d))))
      (cases_lt i k)

  -- the array holds the values of the elements
  pub map_holds : (d : A) (f : F) (xs : List A) (ys : List B) (n : ℕ) → IsMapOf g f xs ys n → kept f → length xs ≡ n → ys ≡ map value xs
  map_holds d f xs ys n m s l =
      same_lists ys (map value xs) (m.long ∙ sym l ∙ sym (length-map xs value)) (λ k e h.
      let i : k < n = omega (arith, m.long) in
      mapped f xs ys 0 n s m.each k d e (omega arith) (omega arith) ∙ sym (get_or-map value xs k d e (omega arith)))

module _ {F B : Type 0} (g : Mut F (ℕ × Unit {0}) B) (value : ℕ → B) (kept : F → Type 0) (gives : (p : F) (x : ℕ) (y : B) (q : F) → kept p → Called g p (x, tt) y q → (y ≡ value x) × kept q) where
  filled : (f : F) (ys : List B) (i n : ℕ) → kept f → IsFromFnResultFrom g f ys i n → (k : ℕ) (e : B) → i ≤ k → k < i + n → get_or ys k e ≡ value k
  filled f ys i zero s m k e low high = absurd (omega arith)
  filled f ys i (suc n) s m k e low high =
      let r = gives f i m.1 m.0 s m.3 in
      ⊎_elim (λ l. filled m.0 ys (i + 1) n r.1 m.4 k e (omega arith) (omega arith))
      (λ l. let h : i ≡ k = omega arith in rw (← h) (m.2.1 e ∙ r.0))
      (cases_lt i k)

  -- the array holds the values of the numbers below its length
  pub from_fn_holds : (e : B) (f : F) (ys : List B) (n : ℕ) → IsFromFnResult g f ys n → kept f → ys ≡ map value (range_with_len 0 n)
  from_fn_holds e f ys n m s = fill_by_all value ys n e m.long (λ k l. filled f ys 0 n s m.each k e (omega arith) (omega arith))
