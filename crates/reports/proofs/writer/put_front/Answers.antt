-- Four lines one after another.
use Rattle.std.proofs.Common.{[], ◌++◌, subst}
use Rattle.reports.specs.Puts.{Put}
use Rattle.reports.specs.Written.{next_cell, line_end}
use Rattle.reports.proofs.Steps.{last, next}
use Rattle.reports.proofs.writer.put_front.Goals as goal

pub returns : goal.returns
returns g c =
    let l = g.S.ColumnScheme.layout c.args.scheme.now in
    let report = subst (λ b. Put c.args.page.now b c.put_bytes.new.self) c.report.ensures c.put_bytes.ensures in
    let description = subst (λ b. Put c.put_bytes.new.self (next_cell b) c.put_cell.new.self) c.description.ensures c.put_cell.ensures in
    next _ _ _ _ _ (next _ _ _ l.report ((next_cell l.description ++ []) ++ line_end) report (next _ _ _ (next_cell l.description ++ []) line_end (last _ _ (next_cell l.description) description) c.put_line_end.ensures))
    (next _ _ _ _ _ c.put_single_line.ensures (next _ _ _ _ _ c.put_single_line-2.ensures c.put_date_line.ensures))
