-- The headings of a year scheme.
use Rattle.std.specs.Prelude.{◌≡◌, ℕ, ◌+◌, ◌-◌, ◌*◌, ◌/◌, ◌<◌, ◌≤◌, true, List, [], ◌∷◌, map, length, get_or, drop, slice_index, slice_index_or, refl}
use Rattle.std.proofs.Common.{⊎_elim, sym, ap, ◌∙◌, arith}
use Rattle.std.proofs.lemmas.List.FromFn.{length-map-range_with_len, get_or-map-range_with_len}
use Rattle.std.proofs.lemmas.List.{length-append, get_or_append_left, get_or-append_right}
use Rattle.std.proofs.lemmas.Bool.{cases_lt}
use Rattle.std.specs.List.{range_with_len}
use Rattle.texts.specs.Texts.{is_text}
use Rattle.columns.specs.Calendar.{digits}
use Rattle.columns.specs.Layouts.{Sound, recent_heading, earlier_heading, year_layout}
use Rattle.columns.specs.Months.{fit_digits}

-- the number that four digits write
value : List ℕ → ℕ
value d = (slice_index d 0 - 48) * 1000 + (slice_index d 1 - 48) * 100 + (slice_index d 2 - 48) * 10 + (slice_index d 3 - 48)

value_digits : (n : ℕ) → n < 10000 → value (digits n) ≡ n
unfolding value
value_digits n h =
    let a : n / 10 / 10 ≡ n / 100 = omega arith in
    let b : n / 100 / 10 ≡ n / 1000 = omega arith in
    let c : n / 1000 / 10 ≡ 0 = omega arith in
    omega arith

module _ (y p : ℕ) where
  abbrev headings : List (List ℕ)
  headings = (year_layout y p).headings

  abbrev recents : List (List ℕ)
  recents = map (λ k. recent_heading (y - k)) (range_with_len 0 (y - p + 1))

  recents_length : length recents ≡ y - p + 1
  recents_length = length-map-range_with_len (λ k. recent_heading (y - k)) 0 (y - p + 1)

  pub year_length : length headings ≡ y - p + 2
  year_length = length-append recents (earlier_heading p ∷ []) ∙ omega (arith, recents_length)

  pub recent_at : (k : ℕ) → k ≤ y - p → slice_index_or headings k [] ≡ recent_heading (y - k)
  recent_at k h =
      let l : k < y - p + 1 = omega arith in
      get_or_append_left recents (earlier_heading p ∷ []) [] k (rw recents_length l)
      ∙ get_or-map-range_with_len (λ k. recent_heading (y - k)) 0 (y - p + 1) k k [] l (omega arith)

  pub earlier_at : (k : ℕ) → k ≡ y - p + 1 → slice_index_or headings k [] ≡ earlier_heading p
  earlier_at k h =
      let e : k - (y - p + 1) ≡ 0 = omega arith in
      get_or-append_right recents (earlier_heading p ∷ []) (y - p + 1) k [] recents_length (omega arith)
      ∙ ap (λ i. get_or (earlier_heading p ∷ []) i []) e

  texts : (k : ℕ) → k < y - p + 2 → is_text (slice_index_or headings k []) ≡ true
  texts k h =
      ⊎_elim (λ l. ap is_text (recent_at k (omega arith)) ∙ fit_digits (y - k)) (λ l. ap is_text (earlier_at k (omega arith)) ∙ fit_digits p)
      (cases_lt k (y - p + 1))

  differ : (i j : ℕ) → y < 10000 → p ≤ y → i < y - p + 2 → j < y - p + 2 → slice_index_or headings i [] ≡ slice_index_or headings j [] → i ≡ j
  differ i j b q h k e =
      ⊎_elim
      (λ l. ⊎_elim
      (λ m. let s = ap (λ t. value (drop 4 t)) (sym (recent_at i (omega arith)) ∙ e ∙ recent_at j (omega arith)) in
      let u = value_digits (y - i) (omega arith) in
      let v = value_digits (y - j) (omega arith) in
      omega (arith, s, u, v))
      (λ m. let n : 8 ≡ 12 = ap length (sym (recent_at i (omega arith)) ∙ e ∙ earlier_at j (omega arith)) in absurd (omega arith))
      (cases_lt j (y - p + 1)))
      (λ l. ⊎_elim
      (λ m. let n : 12 ≡ 8 = ap length (sym (earlier_at i (omega arith)) ∙ e ∙ recent_at j (omega arith)) in absurd (omega arith))
      (λ m. omega arith)
      (cases_lt j (y - p + 1)))
      (cases_lt i (y - p + 1))

  pub year_sound : y < 10000 → p ≤ y → y ≤ p + 10 → Sound (year_layout y p)
  year_sound b q s = record {
    some = rw year_length (omega arith);
    few = rw year_length (omega arith);
    texts = λ i l. texts i (rw year_length at l);
    differ = λ i j l o e. differ i j b q (rw year_length at l) (rw year_length at o) e;
    report = refl;
    description = refl;
  }
