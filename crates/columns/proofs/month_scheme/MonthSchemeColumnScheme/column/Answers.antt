-- The relation leaves no choice of a column.
use Rattle.std.proofs.Common.{rules}
use Rattle.columns.specs.Placing.{month_is_place}
use Rattle.columns.proofs.month_scheme.MonthSchemeColumnScheme.column.Goals as goal

pub returns-in_err-month-clause-place : goal.returns-in_err-month-clause-place
returns-in_err-month-clause-place c =
    let s = c.args.self.now in
    month_is_place s.year s.months c.args.request.now.time s.known s.some.1 c.from_residual.result (search rules)

pub returns-clause-place : goal.returns-clause-place
returns-clause-place c =
    let s = c.args.self.now in
    month_is_place s.year s.months c.args.request.now.time s.known s.some.1 c.then_some.result (search rules)
