-- One more cell.
use Rattle.std.proofs.Common.{sym, subst, arith}
use Rattle.std.proofs.lemmas.List.Folds.{flat_map-map}
use Rattle.reports.specs.Puts.{Put}
use Rattle.reports.specs.Written.{next_cell}
use Rattle.reports.proofs.Rows.{row_all, row_more}
use Rattle.reports.proofs.page.Page.put_cells.Goals as goal

pub loop-cell-preserved : goal.loop-cell-preserved
loop-cell-preserved g c =
    row_more (λ x. next_cell (g.C.Cell.text x)) c.args.cells.now c.loop-cell.cell-index _ _ _ c.cell-item.result (omega arith) c.loop-cell.invariant
    (subst (λ x. Put c.loop-cell.self (next_cell (g.C.Cell.text x)) c.put_cell.new.self) c.cell-item.is c.put_cell.ensures)

pub returns : goal.returns
returns g c =
    subst (λ text. Put c.args.self.now text c.loop-cell.self) (sym (flat_map-map next_cell g.C.Cell.text c.args.cells.now))
    (row_all (λ x. next_cell (g.C.Cell.text x)) c.args.cells.now c.loop-cell.cell-index _ _ (omega arith) c.loop-cell.invariant)
