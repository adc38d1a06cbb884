-- The four lines above the table, its two first lines, and those of the titles.
use Rattle.std.proofs.Common.{[], codes, sym, ap, ◌∙◌, subst}
use Rattle.std.specs.List.{flat_map}
use Rattle.reports.specs.Counting.{lines_of}
use Rattle.reports.specs.Puts.{Put}
use Rattle.reports.specs.Reports.{shared, shared_publisher, totals}
use Rattle.reports.specs.Written.{title_line, usage_line}
use Rattle.reports.proofs.Lines.{line_publishers}
use Rattle.reports.proofs.Steps.{next}
use Rattle.reports.proofs.writer.put_report.Goals as goal

pub returns : goal.returns
returns g c =
    let l = g.S.ColumnScheme.layout c.args.scheme.now in
    let platform = c.args.header.now.platform.now in
    let t = c.args.counted.now.table in
    let lines = lines_of t in
    let publisher = c.shared_publisher.ensures ∙ sym (ap shared (line_publishers t.cells.now t.columns 0 t.titles.now)) in
    let total =
    (λ i. usage_line (c.has_ytd.ensures i) (codes "Total for all journals") (publisher i) platform [] [] (c.args.counted.now.summed i))
    ∙ ap (λ n. usage_line l.ytd (codes "Total for all journals") (shared_publisher lines) platform [] [] (totals n lines)) c.requires in
    next _ _ _ _ _ c.put_front.ensures
    (next _ _ _ _ _ c.put_heading_line.ensures
    (next _ _ _ _ _
    (subst (λ text. Put c.put_heading_line.new.page text c.put_count_line.new.page) total c.put_count_line.ensures)
    (subst (λ b. Put c.put_count_line.new.page (flat_map (title_line b platform) lines) c.put_title_lines.new.page) c.has_ytd-2.ensures c.put_title_lines.ensures)))
