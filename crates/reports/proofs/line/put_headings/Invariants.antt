-- What stands so far are the headings before the column.
use Rattle.std.proofs.Common.{take}
use Rattle.std.specs.List.{flat_map}
use Rattle.reports.specs.Puts.{Put}
use Rattle.reports.specs.Written.{next_cell}
use Rattle.reports.proofs.line.put_headings.Given as goal

abbrev pub invariant-loop-column : goal.invariant-loop-column
invariant-loop-column g l = Put l.initial.page (flat_map next_cell (take l.column (g.S.ColumnScheme.layout l.scheme).headings)) l.page
