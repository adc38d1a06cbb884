-- Sums over a row, and over the numbers from 0 on; the front of a row.
use Rattle.std.proofs.Common.{◌≡◌, ℕ, ◌+◌, ◌<◌, List, [], ◌∷◌, ◌++◌, map, sum_by, sym, refl, ap, ◌∙◌, arith}
use Rattle.std.specs.List.{range_with_len}
use Rattle.std.proofs.lemmas.Grind.{common_steps}
use Rattle.std.proofs.lemmas.List.FromFn.{get_or-map-range_with_len, length-map-range_with_len, map-range_with_len_more}
use Rattle.std.proofs.lemmas.List.{map-id, same_lists}
use Rattle.std.proofs.lemmas.List.Sums.{sum_by-cons, sum_by_push}

counting_more : (n : ℕ) → range_with_len 0 (n + 1) ≡ range_with_len 0 n ++ n ∷ []
counting_more n =
    sym (map-id (range_with_len 0 (n + 1))) ∙ map-range_with_len_more (λ (x : ℕ). x) 0 n n (omega arith) ∙ ap (λ l. l ++ n ∷ []) (map-id (range_with_len 0 n))

pub sum_by_counting_more : (f : ℕ → ℕ) (n : ℕ) → sum_by f (range_with_len 0 (n + 1)) ≡ sum_by f (range_with_len 0 n) + f n
sum_by_counting_more f n = ap (sum_by f) (counting_more n) ∙ sum_by_push f (range_with_len 0 n) n

pub sum_by_plus : {X : Type 0} (f g : X → ℕ) (xs : List X) → sum_by (λ x. f x + g x) xs ≡ sum_by f xs + sum_by g xs
sum_by_plus f g [] = refl
sum_by_plus f g (x ∷ xs) = grind (arith, common_steps, sum_by-cons, sum_by_plus f g xs)

sum_by_zero : {X : Type 0} (xs : List X) → sum_by (λ x. 0) xs ≡ 0
sum_by_zero [] = refl
sum_by_zero (x ∷ xs) = grind (arith, common_steps, sum_by-cons, sum_by_zero xs)

-- the sum of a table by rows is its sum by columns
pub sum_by_swap : {X Y : Type 0} (f : X → Y → ℕ) (xs : List X) (ys : List Y) → sum_by (λ x. sum_by (f x) ys) xs ≡ sum_by (λ y. sum_by (λ x. f x y) xs) ys
sum_by_swap f [] ys = sym (sum_by_zero ys)
sum_by_swap f (x ∷ xs) ys =
    sum_by-cons (λ z. sum_by (f z) ys) x xs ∙ ap (λ n. sum_by (f x) ys + n) (sum_by_swap f xs ys) ∙ sym ((λ i. sum_by (λ y. sum_by-cons (λ z. f z y) x xs i) ys) ∙ sum_by_plus (f x) (λ y. sum_by (λ z. f z y) xs) ys)

pub map_counting_same : {X : Type 0} (f g : ℕ → X) (n : ℕ) → ((c : ℕ) → c < n → f c ≡ g c) → map f (range_with_len 0 n) ≡ map g (range_with_len 0 n)
map_counting_same f g n h =
    let a = length-map-range_with_len f 0 n in
    let b = length-map-range_with_len g 0 n in
    same_lists (map f (range_with_len 0 n)) (map g (range_with_len 0 n)) (omega arith) (λ k d l. get_or-map-range_with_len f 0 n k k d (omega arith) (omega arith) ∙ h k (omega arith) ∙ sym (get_or-map-range_with_len g 0 n k k d (omega arith) (omega arith)))
