-- What of a report its text shows, and that what the writer writes is read as just that.
use Rattle.std.specs.Prelude.{◌≡◌, ℕ, ◌≤◌, Bool, true, false, List, map, length, Ok}
use Rattle.columns.specs.Layouts as layouts
use Rattle.columns.specs.Layouts.{Layout}
use Rattle.reports.specs.Answers.{Subject, answer, report_about, text_about}
use Rattle.reports.specs.Reports.{Line, Report}
use Rattle.grammar.specs.Files.{Reading, read_file, reported}

-- a line of which the year to date is not shown, so that it is taken for 0
abbrev pub without_year : Line → Line
without_year l = record {
  name = l.name;
  publisher = l.publisher;
  print = l.print;
  online = l.online;
  usage = record { columns = l.usage.columns; html = 0; pdf = 0 };
}

abbrev pub shown_lines : Bool → List Line → List Line
shown_lines true ls = ls
shown_lines false ls = map without_year ls

-- a report under a scheme with this layout, so far as its text shows it
abbrev pub shown_of : Layout → Report → Report
shown_of l r = record { head = r.head; lines = shown_lines l.ytd r.lines }

-- the text of a report that the writer grants is read, as what it shows of the report
abbrev pub WrittenIsRead : Type 0
WrittenIsRead = (s : Subject) (room n : ℕ) → layouts.Sound s.layout → 1 ≤ length s.entries → length s.entries ≤ 512 → answer s room ≡ Ok n → (rd : Reading) × (read_file s.layout (text_about s) ≡ Ok rd) × (reported rd ≡ shown_of s.layout (report_about s))
