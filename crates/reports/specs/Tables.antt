-- The report of a count table: what its cells come to, title by title.
use Rattle.std.specs.Prelude.{ℕ, ◌+◌, ◌*◌, List, [], ◌∷◌, map, sum_by, slice_index}
use Rattle.std.specs.List.{range_with_len}
use Rattle.titles.specs.Titles.{Entry, issn_bytes}
use Rattle.reports.specs.Reports.{Head, Line, Report, Usage}

-- the requests of title t in column c, of n columns, by format
-- by name, and not by a format, since other crates cite each of the two
abbrev pub html_at : List ℕ → ℕ → ℕ → ℕ → ℕ
html_at cells n t c = slice_index cells ((t * n + c) * 2)

abbrev pub pdf_at : List ℕ → ℕ → ℕ → ℕ → ℕ
pdf_at cells n t c = slice_index cells ((t * n + c) * 2 + 1)

-- the numbers of a line, from those of each column by format: both in the column, and each summed over all columns
abbrev pub usage_by : (ℕ → ℕ) → (ℕ → ℕ) → ℕ → Usage
usage_by html pdf n = record {
  columns = map (λ c. html c + pdf c) (range_with_len 0 n);
  html = sum_by html (range_with_len 0 n);
  pdf = sum_by pdf (range_with_len 0 n);
}

-- a title's line with its numbers
abbrev pub line_with : Entry → Usage → Line
line_with e u = record {
  name = e.name;
  publisher = e.publisher;
  print = issn_bytes e.print;
  online = issn_bytes e.online;
  usage = u;
}

abbrev pub line_of : List ℕ → ℕ → ℕ → Entry → Line
line_of cells n t e = line_with e (usage_by (html_at cells n t) (pdf_at cells n t) n)

-- a line to each title, the first of which is title t
abbrev pub lines_from : List ℕ → ℕ → ℕ → List Entry → List Line
lines_from cells n t [] = []
lines_from cells n t (e ∷ es) = line_of cells n t e ∷ lines_from cells n (t + 1) es

abbrev pub report_of : Head → List ℕ → ℕ → List Entry → Report
report_of head cells n entries = record { head = head; lines = lines_from cells n 0 entries }
