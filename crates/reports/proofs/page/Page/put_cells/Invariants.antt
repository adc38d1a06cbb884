-- What stands so far are the cells before this one.
use Rattle.std.proofs.Common.{take}
use Rattle.std.specs.List.{flat_map}
use Rattle.reports.specs.Puts.{Put}
use Rattle.reports.specs.Written.{next_cell}
use Rattle.reports.proofs.page.Page.put_cells.Given as goal

abbrev pub invariant-loop-cell : goal.invariant-loop-cell
invariant-loop-cell g l = Put l.initial.self (flat_map (λ c. next_cell (g.C.Cell.text c)) (take l.cell-index l.cells)) l.self
