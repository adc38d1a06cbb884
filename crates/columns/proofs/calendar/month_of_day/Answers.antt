-- One month more is passed.
use Rattle.std.proofs.Common.{add-one, arith}
use Rattle.columns.proofs.calendar.month_of_day.Goals as goal

pub loop-month-preserved : goal.loop-month-preserved
loop-month-preserved c = rw add-one (omega arith)
