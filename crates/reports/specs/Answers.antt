-- When a report is refused, and what a writing leaves.
use Rattle.std.specs.Prelude.{ℕ, ◌+◌, ◌*◌, Bool, cond, List, [], ◌∷◌, ◌++◌, map, length, drop, Some, None, Ok, Err, Option, Result, ◌==◌, nat_le}
use Rattle.std.specs.List.{list_all}
use Rattle.columns.specs.Calendar.{is_date}
use Rattle.columns.specs.Layouts.{Layout}
use Rattle.ledger.specs.declared.state.Settled.{Settled}
use Rattle.texts.specs.Texts.{is_text}
use Rattle.titles.specs.declared.title.Title.{Title as TitleOfList}
use Rattle.titles.specs.declared.title.TitleFault.{TitleFault}
use Rattle.titles.specs.Titles.{Entry, entry_of, judge}
use Rattle.reports.specs.declared.header.Header.{Header}
use Rattle.reports.specs.declared.refusal.WriteRefusal.{WriteRefusal}
use Rattle.reports.specs.declared.refusal.WriteRefusal.TheVariants.{Criteria, Platform, Date, TitleCount, Title, CellCount, Number, Buffer}
use Rattle.reports.specs.Reports.{Head, Report, is_low, table_numbers}
use Rattle.reports.specs.Tables.{report_of}
use Rattle.reports.specs.Written.{report_text}

-- the number of each refusal
abbrev pub refusal_number : WriteRefusal → ℕ
refusal_number Criteria = 11
refusal_number Platform = 11
refusal_number Date = 11
refusal_number TitleCount = 11
refusal_number (Title t fault) = 11
refusal_number CellCount = 11
refusal_number Number = 11
refusal_number Buffer = 11

-- what a report is written of: the scheme's layout and the number of titles that the ledger was opened with, the count
-- table, the titles, and what stands above the table
pub record Subject : Type 0 where
  pub layout : Layout
  pub titles : ℕ
  pub cells : List ℕ
  pub entries : List Entry
  pub head : Head

abbrev pub head_of : Header → Head
head_of h = record {
  criteria = h.criteria.now;
  year = h.date.year;
  month = h.date.month;
  day = h.date.day;
  platform = h.platform.now;
}

abbrev pub subject_of : {R S : Type 0} → (S → Layout) → Settled R S → List ℕ → List TitleOfList → Header → Subject
subject_of layout ledger cells titles header = record {
  layout = layout ledger.last.terms.scheme;
  titles = ledger.last.terms.titles;
  cells = cells;
  entries = map entry_of titles;
  head = head_of header;
}

abbrev pub columns_of : Subject → ℕ
columns_of s = length s.layout.headings

abbrev pub report_about : Subject → Report
report_about s = report_of s.head s.cells (columns_of s) s.entries

abbrev pub text_about : Subject → List ℕ
text_about s = report_text s.layout (report_about s)

-- a ground, unless all is well
abbrev pub unless : Bool → WriteRefusal → Option WriteRefusal
unless fine refusal = cond fine None (Some refusal)

-- the criteria, the platform and the date, in this order
abbrev pub head_grounds : Head → List (Option WriteRefusal)
head_grounds h =
    unless (is_text h.criteria) Criteria ∷ unless (is_text h.platform) Platform ∷ unless (is_date h.year h.month h.day) Date ∷ []

abbrev pub title_ground : ℕ → Result Entry TitleFault → Option WriteRefusal → Option WriteRefusal
title_ground t (Ok e) rest = rest
title_ground t (Err fault) rest = Some (Title t fault)

-- the first title, counted from t, that is not what it should be
abbrev pub titles_ground : ℕ → List Entry → Option WriteRefusal
titles_ground t [] = None
titles_ground t (e ∷ es) = title_ground t (judge e) (titles_ground (t + 1) es)

-- the number of titles, each title, the length of the count table, and the numbers to be shown
abbrev pub table_grounds : Subject → List (Option WriteRefusal)
table_grounds s =
    unless (length s.entries == s.titles) TitleCount ∷ titles_ground 0 s.entries ∷ unless (length s.cells == s.titles * columns_of s * 2) CellCount ∷ unless (list_all is_low (table_numbers s.layout.ytd (columns_of s) (report_about s).lines)) Number ∷ []

-- a buffer of so many bytes is shorter than the report
abbrev pub buffer_ground : Subject → ℕ → Option WriteRefusal
buffer_ground s room = unless (nat_le (length (text_about s)) room) Buffer

-- the first ground that there is
abbrev pub first_ground : List (Option WriteRefusal) → Option WriteRefusal
first_ground [] = None
first_ground (None ∷ gs) = first_ground gs
first_ground (Some g ∷ gs) = Some g

abbrev pub grounds : Subject → ℕ → List (Option WriteRefusal)
grounds s room = head_grounds s.head ++ (table_grounds s ++ (buffer_ground s room ∷ []))

abbrev pub outcome : Option WriteRefusal → ℕ → Result ℕ WriteRefusal
outcome None n = Ok n
outcome (Some g) n = Err g

-- the length of the report, unless there is a ground to refuse it
abbrev pub answer : Subject → ℕ → Result ℕ WriteRefusal
answer s room = outcome (first_ground (grounds s room)) (length (text_about s))

-- the buffer after an answer: the report from its first byte on, or all as it was
abbrev pub buffer_after : Result ℕ WriteRefusal → List ℕ → List ℕ → List ℕ
buffer_after (Ok n) bytes old = bytes ++ drop n old
buffer_after (Err g) bytes old = old
