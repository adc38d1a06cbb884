-- What a reading answers, and what the lent tables then hold.
use Rattle.std.specs.Prelude.{◌≡◌, ℕ, zero, suc, ◌*◌, Bool, true, false, cond, not, ◌&&◌, ◌||◌, List, [], ◌∷◌, ◌++◌, map, length, take, drop, Ok, Err, Result, ◌≢◌, nat_le, slice_index}
use Rattle.std.specs.List.{flat_map}
use Rattle.columns.specs.Layouts.{Layout}
use Rattle.titles.specs.Titles.{Entry, entry_of}
use Rattle.titles.specs.declared.title.Title.{Title}
use Rattle.reports.specs.Answers as writing
use Rattle.reports.specs.Reports.{Head, Line, Report, Usage}
use Rattle.reports.specs.Tables.{line_with}
use Rattle.reports.specs.Written.{report_text}
use Rattle.cells.specs.declared.fault.LineFault.{LineFault}
use Rattle.readback.specs.declared.answer.ReadOut.{ReadOut}
use Rattle.readback.specs.declared.answer.ReadRefusal.{ReadRefusal}
use Rattle.readback.specs.declared.answer.ReadRefusal.TheVariants.{ShortTables, Faulty}
use Rattle.readback.specs.declared.tables.LentTables.{LentTables}
use Rattle.grammar.specs.Lines.{Row}
use Rattle.grammar.specs.Files.{Reading, column_count, read_file}
use Rattle.grammar.specs.Sound.{SoundReport}

-- the number of each refusal
abbrev pub refusal_number : ReadRefusal → ℕ
refusal_number ShortTables = 11
refusal_number (Faulty fault) = 12

-- what the lent tables say: the titles, a number to each title and column, and the two sums of each title's year to date
pub record Tables : Type 0 where
  pub titles : List Entry
  pub numbers : List ℕ
  pub ytd : List ℕ

abbrev pub new_tables : List Title → List ℕ → List ℕ → Tables
new_tables titles numbers ytd = record { titles = map entry_of titles; numbers = numbers; ytd = ytd }

abbrev pub held_by : LentTables → Tables
held_by t = new_tables t.titles.now t.numbers.now t.ytd.now

-- the tables have room for 512 titles; where the year to date is not shown, none is wanted for it
abbrev pub roomy : Layout → Tables → Bool
roomy l t = nat_le 512 (length t.titles) && (nat_le (512 * column_count l) (length t.numbers) && (not l.ytd || nat_le 1024 (length t.ytd)))

-- the head of a report that was read, and how many titles it has
pub record Summary : Type 0 where
  pub head : Head
  pub titles : ℕ

abbrev pub summary_of : ReadOut → Summary
summary_of out = record { head = writing.head_of out.header; titles = out.titles }

abbrev pub summary : Reading → Summary
summary rd = record { head = rd.head; titles = length rd.rows }

abbrev pub map_both : {A B E F : Type 0} → (A → B) → (E → F) → Result A E → Result B F
map_both f g (Ok x) = Ok (f x)
map_both f g (Err e) = Err (g e)

-- short tables are refused before the file is looked at
abbrev pub answer : Layout → Tables → List ℕ → Result Summary ReadRefusal
answer l t file = cond (roomy l t) (map_both summary Faulty (read_file l file)) (Err ShortTables)

abbrev pub year_to_dates : Bool → List Row → List ℕ → List ℕ
year_to_dates true rows old = flat_map (λ r. r.usage.html ∷ r.usage.pdf ∷ []) rows ++ drop (length rows * 2) old
year_to_dates false rows old = old

-- the rows from the front of each table on, and behind them what it held
abbrev pub filled_by : Layout → Tables → List Row → Tables
filled_by l t rows = record {
  titles = map (λ r. r.entry) rows ++ drop (length rows) t.titles;
  numbers = flat_map (λ r. r.usage.columns) rows ++ drop (length rows * column_count l) t.numbers;
  ytd = year_to_dates l.ytd rows t.ytd;
}

abbrev pub filled_with : Layout → Tables → Result Reading LineFault → Tables
filled_with l t (Ok rd) = filled_by l t rd.rows
filled_with l t (Err e) = t

-- the tables after a reading: a refused one leaves them as they were
abbrev pub tables_after : Layout → Tables → List ℕ → Tables
tables_after l t file = cond (roomy l t) (filled_with l t (read_file l file)) t

-- the year to date of a title, from the table that begins with it
abbrev pub held_usage : Bool → List ℕ → List ℕ → Usage
held_usage true columns ytd = record { columns = columns; html = slice_index ytd 0; pdf = slice_index ytd 1 }
held_usage false columns ytd = record { columns = columns; html = 0; pdf = 0 }

-- the lines of the first k titles in tables that give n numbers to each
abbrev pub held_lines : Bool → ℕ → ℕ → List Entry → List ℕ → List ℕ → List Line
held_lines ytd n zero es numbers years = []
held_lines ytd n (suc k) [] numbers years = []
held_lines ytd n (suc k) (e ∷ es) numbers years =
    line_with e (held_usage ytd (take n numbers) years) ∷ held_lines ytd n k es (drop n numbers) (drop 2 years)

-- the report that is read out: its head, and what the tables hold of its titles
abbrev pub held_report : Layout → Summary → Tables → Report
held_report l s t = record { head = s.head; lines = held_lines l.ytd (column_count l) s.titles t.titles t.numbers t.ytd }

-- what a reading tells: the report whose text the file is, or that it is the text of none
abbrev pub Told : Layout → List ℕ → Tables → Result Summary ReadRefusal → Type 0
Told l file after (Ok s) = SoundReport l (held_report l s after) × (file ≡ report_text l (held_report l s after))
Told l file after (Err ShortTables) = Unit {0}
Told l file after (Err (Faulty fault)) = (r : Report) → SoundReport l r → file ≢ report_text l r

-- the reader accepts the file, whatever tables of full size it is given, and what is then read out is the report r
abbrev pub ReadAs : Layout → List ℕ → Report → Type 0
ReadAs l file r =
    (t : Tables) → roomy l t ≡ true → (s : Summary) × (answer l t file ≡ Ok s) × (held_report l s (tables_after l t file) ≡ r)
