-- Sums that are kept title by title.
use Rattle.std.proofs.Common.{◌≡◌, ℕ, zero, suc, ◌+◌, ◌*◌, ◌<◌, ◌≤◌, ◌≢◌, sum, suc-mul, List, [], ◌∷◌, ◌++◌, length, get_or, take, set, replicate, sym, refl, ap, ◌∙◌, subst, ⊎_elim, arith, length-set, get_or-set_other, get_or-set_same}
use Rattle.std.proofs.lemmas.List.{length-take-le, take_all, take-replicate, take_more, take_more_set}
use Rattle.std.proofs.lemmas.List.Sums.{sum_by-cons}
use Rattle.std.proofs.lemmas.Bool.{cases_eq}
use Rattle.readback.specs.Passes.{add_each}

-- so many zeros
abbrev pub zeros : List ℕ
zeros = 0 ∷ 0 ∷ 0 ∷ 0 ∷ 0 ∷ 0 ∷ 0 ∷ 0 ∷ 0 ∷ 0 ∷ 0 ∷ 0 ∷ []

pub take_zeros : (n : ℕ) → n ≤ 12 → take n zeros ≡ replicate n 0
take_zeros n h = take-replicate n 12 0 h

pub added_push : (xs ns : List ℕ) (x n : ℕ) → length xs ≡ length ns → add_each (xs ++ (x ∷ [])) (ns ++ (n ∷ [])) ≡ add_each xs ns ++ ((x + n) ∷ [])
added_push [] [] x n e = refl
added_push [] (m ∷ ns) x n e = absurd (omega arith)
added_push (y ∷ xs) [] x n e = absurd (omega arith)
added_push (y ∷ xs) (m ∷ ns) x n e = ap (λ zs. (y + m) ∷ zs) (added_push xs ns x n (omega arith))

-- the sums cs once the first i of the numbers ns are added to them
pub record AddedTo (cs ns : List ℕ) (i : ℕ) (new : List ℕ) : Type 0 where
  pub long : length new ≡ length cs
  pub front : take i new ≡ add_each (take i cs) (take i ns)
  pub back : (j : ℕ) → i ≤ j → get_or new j 0 ≡ get_or cs j 0
  pub low : (j : ℕ) → get_or new j 0 ≤ get_or cs j 0 + 4294967296

module _ (cs ns new : List ℕ) (i : ℕ) (c : i < length cs) (n : i < length ns) (m : get_or ns i 0 < 4294967296) (h : AddedTo cs ns i new) where
  sum_here : get_or new i 0 + get_or ns i 0 ≡ get_or cs i 0 + get_or ns i 0
  sum_here = ap (λ x. x + get_or ns i 0) (h.back i (omega arith))

  within : i < length new
  within = omega (arith, h.long)

  pub one_more_added : AddedTo cs ns (i + 1) (set new i (get_or new i 0 + get_or ns i 0))
  one_more_added = record {
    long = length-set new i (get_or new i 0 + get_or ns i 0) ∙ h.long;
    front =
        take_more_set new i (get_or new i 0 + get_or ns i 0) within
        ∙ (λ k. h.front k ++ (sum_here k ∷ []))
        ∙ sym (added_push (take i cs) (take i ns) (get_or cs i 0) (get_or ns i 0) (length-take-le i cs (omega arith) ∙ sym (length-take-le i ns (omega arith))))
        ∙ (λ k. add_each (sym (take_more cs i 0 c) k) (sym (take_more ns i 0 n) k));
    back = λ j l. let ne : j ≢ i = omega arith in get_or-set_other new i j (get_or new i 0 + get_or ns i 0) 0 ne ∙ h.back j (omega arith);
    low = λ j. ⊎_elim
        (λ (e : j ≡ i). let g = get_or-set_same new i (get_or new i 0 + get_or ns i 0) 0 within in let z = h.back i (omega arith) in subst (λ (k : ℕ). get_or (set new i (get_or new i 0 + get_or ns i 0)) k 0 ≤ get_or cs k 0 + 4294967296) (sym e) (omega (arith, g, z)))
        (λ (e : j ≡ i → ⊥). let g = get_or-set_other new i j (get_or new i 0 + get_or ns i 0) 0 e in omega (arith, g, h.low j))
        (cases_eq j i);
  }

-- the sum of the first n numbers, none of which is over b
pub sum_low : (b n : ℕ) (xs : List ℕ) → ((i : ℕ) → get_or xs i 0 ≤ b) → sum (take n xs) ≤ n * b
sum_low b zero xs low = omega arith
sum_low b (suc n) [] low = omega arith
sum_low b (suc n) (x ∷ xs) low =
    let rest = sum_low b n xs (λ i. low (suc i)) in
    let here = low 0 in
    let all = sum_by-cons (λ k. k) x (take n xs) in
    let more = suc-mul n b in
    omega arith
