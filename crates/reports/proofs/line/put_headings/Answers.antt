-- One more heading.
use Rattle.std.proofs.Common.{[], subst, arith}
use Rattle.reports.specs.Puts.{Put}
use Rattle.reports.specs.Written.{next_cell}
use Rattle.reports.proofs.Rows.{row_more}
use Rattle.reports.proofs.line.put_headings.Goals as goal

pub loop-column-preserved : goal.loop-column-preserved
loop-column-preserved g c =
    row_more next_cell (g.S.ColumnScheme.layout c.args.scheme.now).headings c.loop-column.column _ _ _ [] (omega arith) c.loop-column.invariant
    (subst (λ text. Put c.loop-column.page (next_cell text) c.put_cell.new.self) c.heading_or_blank.ensures c.put_cell.ensures)
