-- Dates as a report shows them.
use Rattle.std.specs.Prelude.{ℕ, ◌+◌, ◌-◌, ◌*◌, Bool, cond, ◌&&◌, List, take, drop, Some, None, Option}
use Rattle.std.specs.Char.{is_ascii_digit}
use Rattle.std.specs.Str.{bytes_eq}
use Rattle.columns.specs.Calendar.{is_date}
use Rattle.reports.specs.declared.header.Date.{Date}
use Rattle.reports.specs.Written.{date_text}
use Rattle.cells.specs.Numbers.{read_on}

-- the number that two digits show
abbrev pub pair_in : ℕ → ℕ → Option ℕ
pair_in tens ones = cond (is_ascii_digit tens && is_ascii_digit ones) (Some ((tens - 48) * 10 + (ones - 48))) None

-- the date that bytes would show, were they one: the first four of them, two behind the fifth, and those behind the eighth
abbrev pub date_in : List ℕ → Date
date_in bs = record {
  year = read_on 0 (take 4 bs);
  month = read_on 0 (take 2 (drop 5 bs));
  day = read_on 0 (drop 8 bs);
}

-- the bytes are how that date is written, and it is a real one
abbrev pub shows_date : Date → List ℕ → Bool
shows_date d bs = is_date d.year d.month d.day && bytes_eq bs (date_text d.year d.month d.day)

abbrev pub read_date : List ℕ → Option Date
read_date bs = cond (shows_date (date_in bs) bs) (Some (date_in bs)) None
