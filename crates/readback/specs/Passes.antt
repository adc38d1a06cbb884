-- What the two passes over the titles' lines keep.
use Rattle.std.specs.Prelude.{ℕ, ◌+◌, ◌*◌, Bool, true, false, cond, List, [], ◌∷◌, ◌++◌, length, take, drop, replicate, Some, None, Ok, Err, fold, Option, Result, ◌==◌, slice_set}
use Rattle.std.specs.Str.{bytes_eq}
use Rattle.columns.specs.Layouts.{Layout}
use Rattle.titles.specs.Titles.{entry_of}
use Rattle.reports.specs.Answers as writing
use Rattle.reports.specs.Reports.{Head, Usage, shown_numbers}
use Rattle.cells.specs.declared.fault.Cause.TheVariants.{WrongText}
use Rattle.cells.specs.declared.fault.LineFault.{LineFault}
use Rattle.cells.specs.Faults.{new_fault}
use Rattle.cells.specs.Places.{Place, and_then, start}
use Rattle.readback.specs.declared.answer.ReadOut.{ReadOut}
use Rattle.readback.specs.declared.tally.Judged.{Judged}
use Rattle.readback.specs.declared.tally.Sums.{Sums}
use Rattle.readback.specs.declared.line.TitleLine.{TitleLine}
use Rattle.reports.specs.declared.counts.Formats.{Formats}
use Rattle.grammar.specs.Lines.{Row}
use Rattle.grammar.specs.Files.{column_count, head_of, rows_at, sums_against, top_at}
use Rattle.readback.specs.Answers.{Tables}

-- a title's numbers; a year to date that is not shown counts as 0
abbrev pub html_of : Option (Formats ℕ) → ℕ
html_of (Some y) = y.html
html_of None = 0

abbrev pub pdf_of : Option (Formats ℕ) → ℕ
pdf_of (Some y) = y.pdf
pdf_of None = 0

abbrev pub usage_with : List ℕ → Option (Formats ℕ) → Usage
usage_with columns y = record { columns = columns; html = html_of y; pdf = pdf_of y }

-- a title's line that was read, with the numbers of its columns
abbrev pub row_with : List ℕ → TitleLine → Row
row_with columns t = record { entry = entry_of t.title; usage = usage_with columns t.year }

-- what f makes of the titles' lines, one after another
abbrev pub over : {S : Type 0} → (S → Row → S) → ℕ → Layout → List ℕ → Place → S → Result S LineFault
over f room l platform p s = and_then (rows_at room l platform p) (λ rows. Ok (fold f s rows))

-- numbers added column by column
abbrev pub add_each : List ℕ → List ℕ → List ℕ
add_each [] ns = []
add_each (x ∷ xs) [] = x ∷ xs
add_each (x ∷ xs) (n ∷ ns) = (x + n) ∷ add_each xs ns

-- what the first pass keeps: how many titles there are, their sums, and the publisher that all share, else blank
pub record Tally : Type 0 where
  pub titles : ℕ
  pub sums : Usage
  pub publisher : List ℕ

abbrev pub sums_of : ℕ → Sums → Usage
sums_of n s = record { columns = take n s.columns; html = s.html; pdf = s.pdf }

abbrev pub tally_of : ℕ → Judged → Tally
tally_of n j = record { titles = j.titles; sums = sums_of n j.sums; publisher = j.publisher.now }

abbrev pub added : Usage → Usage → Usage
added s u = record { columns = add_each s.columns u.columns; html = s.html + u.html; pdf = s.pdf + u.pdf }

-- the publisher of the first title, until another differs from it
abbrev pub still_shared : ℕ → List ℕ → List ℕ → List ℕ
still_shared titles shared next = cond (titles == 0) next (cond (bytes_eq shared next) shared [])

abbrev pub tallied : Tally → Row → Tally
tallied t r = record {
  titles = t.titles + 1;
  sums = added t.sums r.usage;
  publisher = still_shared t.titles t.publisher r.entry.publisher;
}

-- before the first title
abbrev pub no_tally : ℕ → Tally
no_tally n = record { titles = 0; sums = record { columns = replicate n 0; html = 0; pdf = 0 }; publisher = [] }

-- line 6 against a tally: first the publisher, then the sums from the left
abbrev pub against : Bool → List ℕ → List ℕ → Tally → Result (Unit {0}) LineFault
against ytd publisher figures t =
    cond (bytes_eq publisher t.publisher) (sums_against 6 figures (shown_numbers ytd t.sums)) (Err (new_fault 6 2 WrongText))

-- the first pass
abbrev pub judged_at : Layout → List ℕ → Result (Unit {0}) LineFault
judged_at l file =
    and_then (top_at l (start file)) (λ t. and_then (over tallied 512 l t.0.shown.platform t.1 (no_tally (column_count l))) (λ j. against l.ytd t.0.shown.publisher t.0.shown.figures j))

-- what the second pass leaves: how many titles are in the tables, and these
pub record Filling : Type 0 where
  pub count : ℕ
  pub tables : Tables

abbrev pub new_filling : Tables → Filling
new_filling t = record { count = 0; tables = t }

-- a part of a list written over from a place on
abbrev pub put_at : ℕ → List ℕ → List ℕ → List ℕ
put_at at xs old = take at old ++ (xs ++ drop (at + length xs) old)

abbrev pub put_ytd : Bool → ℕ → Usage → List ℕ → List ℕ
put_ytd true t u old = slice_set (slice_set old (t * 2) u.html) (t * 2 + 1) u.pdf
put_ytd false t u old = old

-- the same by what a title's line says of its year to date
abbrev pub put_year : Option (Formats ℕ) → ℕ → List ℕ → List ℕ
put_year (Some y) t old = slice_set (slice_set old (t * 2) y.html) (t * 2 + 1) y.pdf
put_year None t old = old

abbrev pub filled_row : Layout → Filling → Row → Filling
filled_row l s r = record {
  count = s.count + 1;
  tables = record {
    titles = slice_set s.tables.titles s.count r.entry;
    numbers = put_at (s.count * column_count l) r.usage.columns s.tables.numbers;
    ytd = put_ytd l.ytd s.count r.usage s.tables.ytd;
  };
}

abbrev pub filling : Tables → Result ℕ LineFault → Result Filling LineFault
filling t (Ok n) = Ok (record { count = n; tables = t })
filling t (Err e) = Err e

-- the second pass: the head, and what is filled
abbrev pub filled_at : Layout → List ℕ → Tables → Result (Head × Filling) LineFault
filled_at l file t =
    and_then (top_at l (start file)) (λ x. and_then (over (filled_row l) 512 l x.0.shown.platform x.1 (new_filling t)) (λ s. Ok (head_of x.0, s)))

abbrev pub out_filled : Tables → Result ReadOut LineFault → Result (Head × Filling) LineFault
out_filled t (Ok out) = Ok (writing.head_of out.header, record { count = out.titles; tables = t })
out_filled t (Err e) = Err e
