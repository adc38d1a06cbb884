-- What requests add to their cells.
use Rattle.std.proofs.Common.{◌≡◌, ℕ, ◌+◌, ◌-◌, ◌*◌, ◌/◌, ◌%◌, ◌<◌, ◌≤◌, min, Bool, true, false, cond, ◌&&◌, eqb, ltb, List, [], ◌∷◌, length, get_or, Some, None, count_by, Option, sym, refl, ap, ◌∙◌, arith}
use Rattle.std.proofs.lemmas.Nat.{div-mul-add, mod-mul-add, mul-add-lt}
use Rattle.std.proofs.lemmas.List.{length-set}
use Rattle.std.proofs.lemmas.List.Sums.{sum_by-cons}
use Rattle.std.proofs.lemmas.Grind.{common_steps}
use Rattle.std.proofs.lemmas.Bool.{and_from, cond-true, lt-ltb}
use Rattle.std.proofs.lemmas.Bool.Decides.{Decides-and, Decides-eqb, Decides-like, same_from_decides}
use Rattle.std.specs.List.{AllByRecursion}
use Rattle.records.specs.declared.request.Request.{Request}
use Rattle.records.specs.Requests.{in_range, within}
use Rattle.runs.specs.Rules.{Setup, cell_count, in_cell, is_column, cell_at, cell_of, placed}
use Rattle.runs.specs.Books.{add_at, added}
use Rattle.runs.specs.Law.{Acceptable}

-- cells stand apart: no two have one place
pub cells_apart : (w t c k t' c' k' : ℕ) → c < w → c' < w → 1 ≤ k → k ≤ 2 → 1 ≤ k' → k' ≤ 2 → (t * w + c) * 2 + k - 1 ≡ (t' * w + c') * 2 + k' - 1 → (t ≡ t') × (c ≡ c') × (k ≡ k')
cells_apart w t c k t' c' k' h h' k₁ k₂ k₁' k₂' e =
    let row : t * w + c ≡ t' * w + c' = omega arith in
    let a : t ≡ t' = sym (div-mul-add t w c h) ∙ ap (λ n. n / w) row ∙ div-mul-add t' w c' h' in
    let b : c ≡ c' = sym (mod-mul-add t w c h) ∙ ap (λ n. n % w) row ∙ mod-mul-add t' w c' h' in
    (a, b, omega arith)

pub cell_within : (u : Setup) (t c k : ℕ) → t < u.titles → c < u.columns → 1 ≤ k → k ≤ 2 → cell_at u t c k < cell_count u
cell_within u t c k h h' k₁ k₂ = let m = mul-add-lt t u.columns c u.titles h h' in omega arith

length_add_at : (cs : List ℕ) (o : Option ℕ) → length (add_at cs o) ≡ length cs
length_add_at cs None = refl
length_add_at cs (Some i) = length-set cs i (min (get_or cs i 0 + 1) 4294967295)

pub length_added : (u : Setup) (cs : List ℕ) (rs : List Request) → length (added u cs rs) ≡ length cs
length_added u cs [] = refl
length_added u cs (r ∷ rs) = length_added u (add_at cs (cell_of u r)) rs ∙ length_add_at cs (cell_of u r)

get_d_add_at : (cs : List ℕ) (j i : ℕ) → i < length cs → get_or cs i 0 < 4294967295 → get_or (add_at cs (Some j)) i 0 ≡ get_or cs i 0 + cond (eqb j i) 1 0
get_d_add_at cs j i lt small = grind (arith, common_steps)

-- an accepted request is HTML or PDF
format_of : (r : Request) → in_range r ≡ true → within 1 2 r.format ≡ true
format_of r e = grind (arith, common_steps)

module _ (u : Setup) (n : ℕ) (r : Request) (a : Acceptable u n r) where
  pub format_low : 1 ≤ r.format
  format_low = let e = format_of r a.proper in grind (arith, common_steps)

  pub format_high : r.format ≤ 2
  format_high = let e = format_of r a.proper in grind (arith, common_steps)

  -- an accepted request has a cell
  pub cell_is : cell_of u r ≡ Some (cell_at u r.journal a.column r.format)
  cell_is =
      ap (placed u r) a.place
      ∙ cond-true (ltb r.journal u.titles && within 1 2 r.format) (Some (cell_at u r.journal a.column r.format)) None (and_from (ltb r.journal u.titles) (within 1 2 r.format) (lt-ltb r.journal u.titles a.title) (format_of r a.proper))

  -- which is that of t, c and k just where the request belongs there
  cell_test : (t c k : ℕ) → c < u.columns → 1 ≤ k → k ≤ 2 → eqb (cell_at u r.journal a.column r.format) (cell_at u t c k) ≡ in_cell u t c k r
  cell_test t c k c-in k₁ k₂ =
      let i = cell_at u r.journal a.column r.format in
      let j = cell_at u t c k in
      let P : Type 0 = (r.journal ≡ t) × ((a.column ≡ c) × (r.format ≡ k)) in
      let to : i ≡ j → P = λ e. let m = cells_apart u.columns r.journal a.column r.format t c k a.within c-in format_low format_high k₁ k₂ e in (m.0, (m.1, m.2)) in
      let from : P → i ≡ j = λ m. let x = m.0 in let y = m.1.0 in let z = m.1.1 in cc in
      same_from_decides {P = P} (eqb i j) (eqb r.journal t && (eqb a.column c && eqb r.format k)) (Decides-like (eqb i j) to from (Decides-eqb i j)) (Decides-and (eqb r.journal t) (eqb a.column c && eqb r.format k) (Decides-eqb r.journal t) (Decides-and (eqb a.column c) (eqb r.format k) (Decides-eqb a.column c) (Decides-eqb r.format k)))
      ∙ ap (λ o. eqb r.journal t && (is_column c o && eqb r.format k)) (sym a.place)

cond_most : (b : Bool) → cond b 1 0 ≤ 1
cond_most true = omega arith
cond_most false = omega arith

-- accepted requests add themselves to the cell of t, c and k, where no cell is near its largest number
pub get_d_added : (u : Setup) (n t c k : ℕ) → t < u.titles → c < u.columns → 1 ≤ k → k ≤ 2 → (cs : List ℕ) (rs : List Request) → length cs ≡ cell_count u → AllByRecursion (Acceptable u n) rs → get_or cs (cell_at u t c k) 0 + length rs < 4294967296 → get_or (added u cs rs) (cell_at u t c k) 0 ≡ get_or cs (cell_at u t c k) 0 + count_by (in_cell u t c k) rs
get_d_added u n t c k t-in c-in k₁ k₂ cs [] size h small = omega arith
get_d_added u n t c k t-in c-in k₁ k₂ cs (r ∷ rs) size h small =
    let i = cell_at u t c k in
    let j = cell_at u r.journal h.0.column r.format in
    let lt : i < length cs = omega (arith, size, cell_within u t c k t-in c-in k₁ k₂) in
    let one : get_or (add_at cs (cell_of u r)) i 0 ≡ get_or cs i 0 + cond (in_cell u t c k r) 1 0 =
    ap (λ o. get_or (add_at cs o) i 0) (cell_is u n r h.0) ∙ get_d_add_at cs j i lt (omega arith) ∙ ap (λ b. get_or cs i 0 + cond b 1 0) (cell_test u n r h.0 t c k c-in k₁ k₂) in
    let most = cond_most (in_cell u t c k r) in
    let ih = get_d_added u n t c k t-in c-in k₁ k₂ (add_at cs (cell_of u r)) rs (length_add_at cs (cell_of u r) ∙ size) h.1 (omega arith) in
    omega (arith, ih, one, sum_by-cons (λ q. cond (in_cell u t c k q) 1 0) r rs)
