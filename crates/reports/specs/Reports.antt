-- A report as a value: what it shows, and what of that follows from the rest.
use Rattle.std.specs.Prelude.{ℕ, Bool, true, false, cond, List, [], ◌∷◌, ◌++◌, map, sum_by, sum, nat_le, slice_index}
use Rattle.std.specs.List.{range_with_len, flat_map, list_all}
use Rattle.std.specs.Str.{bytes_eq}

-- the numbers of a line: one to each column, and the year to date by format
pub record Usage : Type 0 where
  pub columns : List ℕ
  pub html : ℕ
  pub pdf : ℕ

-- a title's line; a blank ISSN has no bytes
pub record Line : Type 0 where
  pub name : List ℕ
  pub publisher : List ℕ
  pub print : List ℕ
  pub online : List ℕ
  pub usage : Usage

-- what stands above the table, and the platform
pub record Head : Type 0 where
  pub criteria : List ℕ
  pub year : ℕ
  pub month : ℕ
  pub day : ℕ
  pub platform : List ℕ

pub record Report : Type 0 where
  pub head : Head
  pub lines : List Line

-- the numbers of the year-to-date columns, if they follow: the sum of all columns, and each format's
abbrev pub ytd_numbers : Bool → Usage → List ℕ
ytd_numbers true u = sum u.columns ∷ u.html ∷ u.pdf ∷ []
ytd_numbers false u = []

-- the numbers that a line shows
abbrev pub shown_numbers : Bool → Usage → List ℕ
shown_numbers ytd u = u.columns ++ ytd_numbers ytd u

-- the sum of a column over all journals
abbrev pub column_sum : List Line → ℕ → ℕ
column_sum ls c = sum_by (λ l. slice_index l.usage.columns c) ls

-- the numbers of the line for all journals, in n columns
abbrev pub totals : ℕ → List Line → Usage
totals n ls = record {
  columns = map (column_sum ls) (range_with_len 0 n);
  html = sum_by (λ l. l.usage.html) ls;
  pdf = sum_by (λ l. l.usage.pdf) ls;
}

-- the publisher that all share, else blank
abbrev pub shared : List (List ℕ) → List ℕ
shared [] = []
shared (p ∷ ps) = cond (list_all (bytes_eq p) ps) p []

abbrev pub shared_publisher : List Line → List ℕ
shared_publisher ls = shared (map (λ l. l.publisher) ls)

-- a number that may be shown
abbrev pub is_low : ℕ → Bool
is_low n = nat_le n 1000000000

-- all numbers that the table shows, in n columns
abbrev pub table_numbers : Bool → ℕ → List Line → List ℕ
table_numbers ytd n ls = shown_numbers ytd (totals n ls) ++ flat_map (λ l. shown_numbers ytd l.usage) ls
