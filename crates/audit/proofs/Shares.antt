-- Counts that are parted: what each element adds to one of several counts, it adds to the count of all.
use Rattle.std.proofs.Common.{◌≡◌, ℕ, zero, suc, ◌+◌, ◌<◌, ◌≤◌, Bool, true, false, cond, ◌&&◌, eqb, List, [], ◌∷◌, length, sum_by, sum, count_by, sym, refl, ap, ◌∙◌, ⊎_elim, arith}
use Rattle.std.specs.List.{range_with_len, AllByRecursion}
use Rattle.std.proofs.lemmas.List.Sums.{length-filter, sum-map, sum_by-cons}
use Rattle.std.proofs.lemmas.Bool.{cases_eq, eq-eqb, ne_eqb}
use Rattle.runs.proofs.Filters.{kept_all}
use Rattle.reports.proofs.Sums.{map_counting_same, sum_by_plus, sum_by_swap}

sum_by_all : {X : Type 0} (f g : X → ℕ) (xs : List X) → AllByRecursion (λ x. f x ≡ g x) xs → sum_by f xs ≡ sum_by g xs
sum_by_all f g [] h = refl
sum_by_all f g (x ∷ xs) h =
    let a = sum_by-cons f x xs in
    let b = sum_by-cons g x xs in
    let e = h.0 in
    let ih = sum_by_all f g xs h.1 in
    omega arith

-- functions that agree below n
pub sum_by_counting_same : (f g : ℕ → ℕ) (n : ℕ) → ((k : ℕ) → k < n → f k ≡ g k) → sum_by f (range_with_len 0 n) ≡ sum_by g (range_with_len 0 n)
sum_by_counting_same f g n h =
    let a = sum-map f (range_with_len 0 n) in
    let b = sum-map g (range_with_len 0 n) in
    let e = ap sum (map_counting_same f g n h) in
    omega arith

-- a function that is 0 but at j: its sum is 0 past j, and else what it is there
module _ (f : ℕ → ℕ) (j : ℕ) (h : (k : ℕ) → (j ≡ k → ⊥) → f k ≡ 0) where
  beyond : (a m : ℕ) → j < a → sum_by f (range_with_len a m) ≡ 0
  beyond a zero lt = refl
  beyond a (suc m) lt =
      let c = sum_by-cons f a (range_with_len (a + 1) m) in
      let z = h a (λ e. omega arith) in
      let ih = beyond (a + 1) m (omega arith) in
      omega arith

  sum_at_lem : (a m : ℕ) → a ≤ j → j < a + m → sum_by f (range_with_len a m) ≡ f j
  sum_at_lem a zero le lt = absurd (omega arith)
  sum_at_lem a (suc m) le lt =
      let c = sum_by-cons f a (range_with_len (a + 1) m) in
      ⊎_elim
      (λ e. let z = beyond (a + 1) m (omega arith) in let s = ap f e in omega arith)
      (λ ne. let z = h a ne in let ih = sum_at_lem (a + 1) m (omega arith) (omega arith) in omega arith)
      (cases_eq j a)

-- of the numbers below m one is j
pub once : (h : Bool → Bool) → h false ≡ false → (j m : ℕ) → j < m → sum_by (λ k. cond (h (eqb j k)) 1 0) (range_with_len 0 m) ≡ cond (h true) 1 0
once h off j m lt =
    sum_at_lem (λ k. cond (h (eqb j k)) 1 0) j (λ k ne. ap (λ b. cond (h b) 1 0) (ne_eqb j k ne) ∙ ap (λ b. cond b 1 0) off) 0 m (omega arith) (omega arith)
    ∙ ap (λ b. cond (h b) 1 0) (eq-eqb j j refl)

-- one of two formats
pub either : (a b : Bool) (f : ℕ) → 1 ≤ f → f ≤ 2 → cond (a && (b && eqb f 1)) 1 0 + cond (a && (b && eqb f 2)) 1 0 ≡ cond (a && b) 1 0
either false b f l h = refl
either true false f l h = refl
either true true f l h =
    ⊎_elim
    (λ e. ap (λ n. cond (eqb n 1) 1 0 + cond (eqb n 2) 1 0) e)
    (λ ne. let two : f ≡ 2 = omega arith in ap (λ n. cond (eqb n 1) 1 0 + cond (eqb n 2) 1 0) two)
    (cases_eq f 1)

-- counts into which the count by p is parted: m of them, or two
module _ {X : Type 0} (p : X → Bool) (xs : List X) where
  pub parted : (f : ℕ → X → Bool) (m : ℕ) → AllByRecursion (λ x. sum_by (λ k. cond (f k x) 1 0) (range_with_len 0 m) ≡ cond (p x) 1 0) xs → sum_by (λ k. count_by (f k) xs) (range_with_len 0 m) ≡ count_by p xs
  parted f m h =
      sum_by_swap (λ k x. cond (f k x) 1 0) (range_with_len 0 m) xs ∙ sum_by_all (λ x. sum_by (λ k. cond (f k x) 1 0) (range_with_len 0 m)) (λ x. cond (p x) 1 0) xs h

  pub halved : (f g : X → Bool) → AllByRecursion (λ x. cond (f x) 1 0 + cond (g x) 1 0 ≡ cond (p x) 1 0) xs → count_by f xs + count_by g xs ≡ count_by p xs
  halved f g h =
      sym (sum_by_plus (λ x. cond (f x) 1 0) (λ x. cond (g x) 1 0) xs) ∙ sum_by_all (λ x. cond (f x) 1 0 + cond (g x) 1 0) (λ x. cond (p x) 1 0) xs h

pub count_all : {X : Type 0} (xs : List X) → count_by (λ _. true) xs ≡ length xs
count_all xs = sym (length-filter (λ _. true) xs) ∙ ap length (kept_all xs)
