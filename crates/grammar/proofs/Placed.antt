-- A count table from the numbers that a report shows: each column's number is placed under HTML until the year to date by
-- HTML is made up, and then under PDF.
use Rattle.std.proofs.Common.{◌≡◌, ℕ, zero, suc, ◌+◌, ◌-◌, ◌*◌, ◌^◌, ◌<◌, ◌≤◌, true, List, [], ◌∷◌, ◌++◌, map, length, get_or, drop, sum_by, sum, sym, refl, ap, ◌∙◌, arith}
use Rattle.std.proofs.lemmas.Grind.{common_steps}
use Rattle.std.proofs.lemmas.Bool.Decides.{nat_tests}
use mathlib.Core.List.{map-map}
use Rattle.std.proofs.lemmas.List.FromFn.{fill_by_all}
use Rattle.std.proofs.lemmas.List.{get_or_append_left, get_or-drop}
use Rattle.std.specs.List.{range_with_len, flat_map, list_all, AllByRecursion}
use Rattle.reports.specs.Reports.{Usage, is_low}
use Rattle.reports.specs.Tables.{html_at, pdf_at, usage_by}

-- the requests of one title in one column
pub record Formats : Type 0 where
  pub html : ℕ
  pub pdf : ℕ

abbrev pub pair : Formats → List ℕ
pair f = f.html ∷ f.pdf ∷ []

abbrev pub nothing : Formats
nothing = record { html = 0; pdf = 0 }

-- the columns' numbers by format, where so much is still to be placed under HTML: there goes what of it a column can
-- take, and the rest of the column goes under PDF
abbrev pub placed : ℕ → List ℕ → List Formats
placed h [] = []
placed h (c ∷ cs) = record { html = c - (c - h); pdf = c - h } ∷ placed (h - c) cs

-- the numbers of a line, from its columns by format
abbrev pub usage_in : List Formats → Usage
usage_in fs = record {
  columns = map (λ f. f.html + f.pdf) fs;
  html = sum_by (λ f. f.html) fs;
  pdf = sum_by (λ f. f.pdf) fs;
}

pub length_placed : (h : ℕ) (cs : List ℕ) → length (placed h cs) ≡ length cs
length_placed h [] = refl
length_placed h (c ∷ cs) = grind (arith, length_placed (h - c) cs)

pub columns_placed : (h : ℕ) (cs : List ℕ) → (usage_in (placed h cs)).columns ≡ cs
columns_placed h [] = refl
columns_placed h (c ∷ cs) = grind (arith, columns_placed (h - c) cs)

-- all is placed, where the columns make up no less
pub html_placed : (h : ℕ) (cs : List ℕ) → h ≤ sum cs → (usage_in (placed h cs)).html ≡ h
html_placed h [] most = omega arith
html_placed h (c ∷ cs) most = grind (arith, common_steps, html_placed (h - c) cs)

pub pdf_placed : (h p : ℕ) (cs : List ℕ) → h + p ≡ sum cs → (usage_in (placed h cs)).pdf ≡ p
pdf_placed h p [] all = omega arith
pdf_placed h p (c ∷ cs) all = grind (arith, common_steps, pdf_placed (h - c) (p - (c - h)) cs)

abbrev pub Small : Formats → Type 0
Small f = (f.html < 2 ^ 32) × (f.pdf < 2 ^ 32)

-- a number that may be shown fits a cell
pub small_placed : (h : ℕ) (cs : List ℕ) → list_all is_low cs ≡ true → AllByRecursion Small (placed h cs)
small_placed h [] low = tt
small_placed h (c ∷ cs) low = ((grind (arith, nat_tests), grind (arith, nat_tests)), small_placed (h - c) cs (grind (arith, nat_tests)))

pub small_cells : (fs : List Formats) → AllByRecursion Small fs → AllByRecursion (λ c. c < 2 ^ 32) (flat_map pair fs)
small_cells [] small = tt
small_cells (f ∷ fs) small = (small.0.0, (small.0.1, small_cells fs small.1))

pub length_cells : (fs : List Formats) → length (flat_map pair fs) ≡ length fs * 2
length_cells [] = refl
length_cells (f ∷ fs) = grind (arith, length_cells fs)

-- the cells of a table, two by two
html_cell : (fs : List Formats) (i : ℕ) → get_or (flat_map pair fs) (i * 2) 0 ≡ (get_or fs i nothing).html
html_cell [] i = refl
html_cell (f ∷ fs) zero = refl
html_cell (f ∷ fs) (suc i) = grind (arith, html_cell fs i)

pdf_cell : (fs : List Formats) (i : ℕ) → get_or (flat_map pair fs) (i * 2 + 1) 0 ≡ (get_or fs i nothing).pdf
pdf_cell [] i = refl
pdf_cell (f ∷ fs) zero = refl
pdf_cell (f ∷ fs) (suc i) = grind (arith, pdf_cell fs i)

sum_by_map : {X Y : Type 0} (g : Y → ℕ) (f : X → Y) (xs : List X) → sum_by g (map f xs) ≡ sum_by (λ x. g (f x)) xs
sum_by_map g f xs = grind (arith, common_steps)

-- what a table says of title t, whose n columns stand in it at their place
module _ (fs : List Formats) (n t : ℕ) (row rest : List Formats) (long : length row ≡ n) (stands : drop (t * n) fs ≡ row ++ rest) where
  abbrev said : ℕ → Formats
  said c = record { html = html_at (flat_map pair fs) n t c; pdf = pdf_at (flat_map pair fs) n t c }

  column : (c : ℕ) → c < n → get_or row c nothing ≡ said c
  column c h =
      let html = html_cell fs (t * n + c) in
      let pdf = pdf_cell fs (t * n + c) in
      let here = get_or_append_left row rest nothing c (omega arith) in
      let there = get_or-drop (t * n) fs c nothing in
      grind arith

  pub usage_placed : usage_by (html_at (flat_map pair fs) n t) (pdf_at (flat_map pair fs) n t) n ≡ usage_in row
  usage_placed =
      let all = sym (fill_by_all said row n nothing long column) in
      let columns = sym (map-map (λ f. f.html + f.pdf) said (range_with_len 0 n)) in
      let html = sym (sum_by_map (λ f. f.html) said (range_with_len 0 n)) in
      let pdf = sym (sum_by_map (λ f. f.pdf) said (range_with_len 0 n)) in
      (λ i. record { columns = columns i; html = html i; pdf = pdf i }) ∙ ap usage_in all
