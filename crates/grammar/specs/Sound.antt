-- Which reports there are, and that the files read are just their texts.
use Rattle.std.specs.Prelude.{◌≡◌, ℕ, ◌+◌, ◌≤◌, Bool, true, false, ◌||◌, List, length, Ok, sum}
use Rattle.std.specs.List.{list_all, AllByRecursion}
use Rattle.texts.specs.Texts.{is_text}
use Rattle.columns.specs.Calendar.{is_date}
use Rattle.columns.specs.Layouts as layouts
use Rattle.columns.specs.Layouts.{Layout}
use Rattle.titles.specs.Issns.{is_issn}
use Rattle.reports.specs.Reports.{Head, Line, Report, Usage, is_low, table_numbers}
use Rattle.reports.specs.Written.{report_text}
use Rattle.cells.specs.Cells.{is_nil}
use Rattle.grammar.specs.Files.{Reading, column_count, read_file, reported}

pub record SoundHead (h : Head) : Type 0 where
  pub criteria : is_text h.criteria ≡ true
  pub platform : is_text h.platform ≡ true
  pub date : is_date h.year h.month h.day ≡ true

-- the year to date makes up the sum of the columns; where it is not shown, it is taken for 0
abbrev pub SoundYear : Bool → Usage → Type 0
SoundYear true u = u.html + u.pdf ≡ sum u.columns
SoundYear false u = (u.html ≡ 0) × (u.pdf ≡ 0)

-- no bytes, or a right ISSN
abbrev pub is_blank_or_right : List ℕ → Bool
is_blank_or_right bs = is_nil bs || is_issn bs

pub record SoundLine (ytd : Bool) (n : ℕ) (l : Line) : Type 0 where
  pub name : is_text l.name ≡ true
  pub publisher : is_text l.publisher ≡ true
  pub print : is_blank_or_right l.print ≡ true
  pub online : is_blank_or_right l.online ≡ true
  pub columns : length l.usage.columns ≡ n
  pub year : SoundYear ytd l.usage

-- a report under a scheme with this layout: 1 to 512 titles, and no number shown over 1,000,000,000
pub record SoundReport (l : Layout) (r : Report) : Type 0 where
  pub head : SoundHead r.head
  pub some : 1 ≤ length r.lines
  pub most : length r.lines ≤ 512
  pub lines : AllByRecursion (SoundLine l.ytd (column_count l)) r.lines
  pub low : list_all is_low (table_numbers l.ytd (column_count l) r.lines) ≡ true

-- a file is read as a report just where that is a report of the scheme and the file is its text
pub record ReadsExactly (l : Layout) (file : List ℕ) : Type 0 where
  pub sound : (rd : Reading) → read_file l file ≡ Ok rd → SoundReport l (reported rd) × (file ≡ report_text l (reported rd))
  pub complete : (r : Report) → SoundReport l r → file ≡ report_text l r → (rd : Reading) × (read_file l file ≡ Ok rd) × (reported rd ≡ r)

-- so it is for every layout that a scheme may have
abbrev pub Exact : Type 0
Exact = (l : Layout) (file : List ℕ) → layouts.Sound l → ReadsExactly l file
