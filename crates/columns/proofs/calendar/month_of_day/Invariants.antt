-- The days that are left come after the months that were passed.
use Rattle.std.proofs.Common.{◌≡◌, ◌+◌}
use Rattle.columns.specs.Calendar.{days_of_months}
use Rattle.columns.proofs.calendar.month_of_day.Given as goal

abbrev pub invariant-loop-month : goal.invariant-loop-month
invariant-loop-month l = days_of_months l.year l.month + l.left ≡ l.day
