-- Line 6 against the titles' lines.
use Rattle.std.proofs.Common.{◌≡◌, ℕ, ◌+◌, Bool, true, false, cond, ◌⊎◌, List, [], ◌∷◌, map, length, Ok, sym, refl, ◌∙◌, inl, arith}
use Rattle.std.proofs.lemmas.Grind.{common_steps}
use Rattle.std.proofs.lemmas.Bool.Decides.{nat_tests}
use Rattle.std.proofs.lemmas.List.FromFn.{length-map-range_with_len}
use Rattle.std.proofs.lemmas.Slice.Eq.{bytes_eq-Decides}
use Rattle.std.specs.List.{list_all, AllByRecursion}
use Rattle.std.specs.Str.{bytes_eq}
use Rattle.texts.specs.Texts.{is_text}
use Rattle.columns.specs.Layouts.{Layout}
use Rattle.reports.specs.Reports.{Line, column_sum, shared_publisher, shown_numbers, totals}
use Rattle.grammar.specs.Files.{column_count, sums_against, totals_against}
use Rattle.grammar.specs.Lines.{Shown, figure_count}
use Rattle.grammar.specs.Sound.{SoundLine}

sums_sound : (c : ℕ) (ns ms : List ℕ) → length ns ≡ length ms → sums_against c ns ms ≡ Ok tt → ns ≡ ms
sums_sound c [] [] long h = refl
sums_sound c [] (m ∷ ms) long h = cc
sums_sound c (n ∷ ns) [] long h = cc
sums_sound c (n ∷ ns) (m ∷ ms) long h = grind (arith, nat_tests, sums_sound (c + 1) ns ms)

sums_complete : (c : ℕ) (ns : List ℕ) → sums_against c ns ns ≡ Ok tt
sums_complete c [] = refl
sums_complete c (n ∷ ns) = grind (arith, nat_tests, sums_complete (c + 1) ns)

-- the sums shown are as many as the cells for them
pub length_sums : (ytd : Bool) (n : ℕ) (ls : List Line) → length (shown_numbers ytd (totals n ls)) ≡ figure_count ytd n
length_sums true n ls = let own = length-map-range_with_len (column_sum ls) 0 n in grind (arith, common_steps)
length_sums false n ls = let own = length-map-range_with_len (column_sum ls) 0 n in grind (arith, common_steps)

-- a line 6 that agrees shows the publisher that all share, and the sums
module _ (l : Layout) (s : Shown) (ls : List Line) where
  pub totals_sound : length s.figures ≡ figure_count l.ytd (column_count l) → totals_against l s ls ≡ Ok tt → (s.publisher ≡ shared_publisher ls) × (s.figures ≡ shown_numbers l.ytd (totals (column_count l) ls))
  totals_sound long h =
      let sums = shown_numbers l.ytd (totals (column_count l) ls) in
      let figures : sums_against 6 s.figures sums ≡ Ok tt = grind arith in
      (grind (arith, bytes_eq-Decides), sums_sound 6 s.figures sums (long ∙ sym (length_sums l.ytd (column_count l) ls)) figures)

-- the line 6 that belongs to the lines
abbrev pub shown_for : Layout → List ℕ → List Line → Shown
shown_for l platform ls = record { publisher = shared_publisher ls; platform = platform; figures = shown_numbers l.ytd (totals (column_count l) ls) }

pub totals_complete : (l : Layout) (platform : List ℕ) (ls : List Line) → totals_against l (shown_for l platform ls) ls ≡ Ok tt
totals_complete l platform ls = grind (arith, bytes_eq-Decides, sums_complete)

blank_or : (t : Bool) (p : List ℕ) → is_text p ≡ true → (cond t p [] ≡ []) ⊎ (is_text (cond t p []) ≡ true)
blank_or t p text = grind arith

pub publisher_good : (ytd : Bool) (n : ℕ) (ls : List Line) → AllByRecursion (SoundLine ytd n) ls → (shared_publisher ls ≡ []) ⊎ (is_text (shared_publisher ls) ≡ true)
publisher_good ytd n [] sound = inl refl
publisher_good ytd n (l ∷ ls) sound =
    blank_or (list_all (bytes_eq l.publisher) (map (λ (l : Line). l.publisher) ls)) l.publisher sound.0.publisher
