-- What a report's file says, or its first fault.
use Rattle.std.specs.Prelude.{ℕ, zero, suc, ◌+◌, cond, List, [], ◌∷◌, map, length, Ok, Err, Result, ◌==◌}
use Rattle.std.specs.Str.{bytes_eq}
use Rattle.columns.specs.Layouts.{Layout}
use Rattle.reports.specs.Reports.{Head, Line, Report, shared_publisher, shown_numbers, totals}
use Rattle.reports.specs.Tables.{line_with}
use Rattle.cells.specs.declared.fault.Cause.TheVariants.{WrongText, WrongSum}
use Rattle.cells.specs.declared.fault.LineFault.{LineFault}
use Rattle.cells.specs.Cells.{is_nil}
use Rattle.cells.specs.Faults.{fault_here, new_fault}
use Rattle.cells.specs.Places.{Place, and_then, start}
use Rattle.grammar.specs.Lines.{Occasion, Reads, Row, Shown, heading_words, kind_at, occasion_at, row_at, totals_at, words_at}

-- what lines 1 to 6 say
pub record Top : Type 0 where
  pub occasion : Occasion
  pub shown : Shown

abbrev pub column_count : Layout → ℕ
column_count l = length l.headings

abbrev pub top_at : Layout → Reads Top
top_at l p =
    and_then (kind_at l p) (λ k. and_then (occasion_at k.1) (λ o. and_then (words_at (heading_words l) o.1) (λ h. and_then (totals_at l.ytd (column_count l) h.1) (λ t. Ok (record { occasion = o.0; shown = t.0 }, t.1)))))

-- the titles' lines to the end of the file: at least one, and so many at most
abbrev pub rows_at : ℕ → Layout → List ℕ → Place → Result (List Row) LineFault
rows_at zero l platform p = Err (fault_here p WrongText)
rows_at (suc room) l platform p =
    and_then (row_at l.ytd (column_count l) platform p) (λ x. cond (is_nil x.1.rest) (Ok (x.0 ∷ [])) (and_then (rows_at room l platform x.1) (λ rows. Ok (x.0 ∷ rows))))

-- what a file says
pub record Reading : Type 0 where
  pub head : Head
  pub rows : List Row

abbrev pub head_of : Top → Head
head_of t = record {
  criteria = t.occasion.criteria;
  year = t.occasion.date.year;
  month = t.occasion.date.month;
  day = t.occasion.date.day;
  platform = t.shown.platform;
}

abbrev pub line_of : Row → Line
line_of r = line_with r.entry r.usage

-- the report that a file shows
abbrev pub reported : Reading → Report
reported rd = record { head = rd.head; lines = map line_of rd.rows }

-- the first of the numbers shown from column c on that is not the true one
abbrev pub sums_against : ℕ → List ℕ → List ℕ → Result (Unit {0}) LineFault
sums_against c [] ms = Ok tt
sums_against c (n ∷ ns) [] = Ok tt
sums_against c (n ∷ ns) (m ∷ ms) = cond (n == m) (sums_against (c + 1) ns ms) (Err (new_fault 6 c WrongSum))

-- line 6 against the titles' lines: first the publisher, then the sums from the left
abbrev pub totals_against : Layout → Shown → List Line → Result (Unit {0}) LineFault
totals_against l s ls =
    cond (bytes_eq s.publisher (shared_publisher ls)) (sums_against 6 s.figures (shown_numbers l.ytd (totals (column_count l) ls))) (Err (new_fault 6 2 WrongText))

-- the whole file: the first fault in it counts, but line 6's publisher and sums are judged last
abbrev pub read_file : Layout → List ℕ → Result Reading LineFault
read_file l file =
    and_then (top_at l (start file)) (λ t. and_then (rows_at 512 l t.0.shown.platform t.1) (λ rows. and_then (totals_against l t.0.shown (map line_of rows)) (λ _. Ok (record { head = head_of t.0; rows = rows }))))
