-- What the writer keeps while it counts.
use Rattle.std.specs.Prelude.{◌≡◌, ℕ, ◌+◌, ◌<◌, List, [], ◌∷◌, ◌++◌, map, take, sum_by}
use Rattle.std.specs.List.{range_with_len}
use Rattle.reports.specs.declared.counts.Counts.{Counts}
use Rattle.reports.specs.declared.counts.Formats.{Formats}
use Rattle.reports.specs.declared.table.Table.{Table}
use Rattle.reports.specs.Reports.{Line, Usage}
use Rattle.reports.specs.Tables.{html_at, lines_from, pdf_at}
use Rattle.titles.specs.Titles.{entry_of}

-- the columns and the sums
abbrev pub usage_of : Counts → Usage
usage_of c = record { columns = take c.columns c.numbers; html = c.sums.html; pdf = c.sums.pdf }

-- with one more column
abbrev pub with_column : Usage → Formats ℕ → Usage
with_column u f = record { columns = u.columns ++ (f.html + f.pdf) ∷ []; html = u.html + f.html; pdf = u.pdf + f.pdf }

-- what is given for each of n columns are these numbers, by format
abbrev pub Gives : (ℕ → Formats ℕ → Type 0) → ℕ → (ℕ → ℕ) → (ℕ → ℕ) → Type 0
Gives given n html pdf = (c : ℕ) (f : Formats ℕ) → c < n → given c f → f ≡ record { html = html c; pdf = pdf c }

-- a column's requests over the first m titles, by format
abbrev pub html_sum : List ℕ → ℕ → ℕ → ℕ → ℕ
html_sum cells n m c = sum_by (λ t. html_at cells n t c) (range_with_len 0 m)

abbrev pub pdf_sum : List ℕ → ℕ → ℕ → ℕ → ℕ
pdf_sum cells n m c = sum_by (λ t. pdf_at cells n t c) (range_with_len 0 m)

-- a line to each title of a table
abbrev pub lines_of : Table → List Line
lines_of t = lines_from t.cells.now t.columns 0 (map entry_of t.titles.now)
