-- The month of the second counts where its year is the one that is meant.
use Rattle.std.proofs.Common.{refl}
use Rattle.columns.proofs.Within.{none_within, some_within}
use Rattle.columns.proofs.calendar.month_in.Goals as goal

pub returns-in_err-date : goal.returns-in_err-date
returns-in_err-date c = rw c.from_residual.ensures (none_within c.args.year c.args.time (rw c.in_err-date.was at c.month_of.ensures))

pub returns : goal.returns
returns c = rw c.then_some.ensures (some_within c.args.year c.args.time c.in_ok-date.date _ refl (rw c.in_ok-date.was at c.month_of.ensures))
