-- One more title.
use Rattle.std.proofs.Common.{map, subst, arith}
use Rattle.std.proofs.lemmas.List.{length-map}
use Rattle.titles.specs.Titles.{entry_of}
use Rattle.reports.specs.Counting.{lines_of}
use Rattle.reports.specs.Puts.{Put}
use Rattle.reports.specs.Written.{title_line}
use Rattle.reports.proofs.Lines.{length_lines, line_is}
use Rattle.reports.proofs.Rows.{row_all, row_more}
use Rattle.reports.proofs.writer.put_title_lines.Goals as goal

pub loop-index-preserved : goal.loop-index-preserved
loop-index-preserved c =
    let t = c.args.table.now in
    let long = length-map t.titles.now entry_of in
    let lines = length_lines t.cells.now t.columns 0 (map entry_of t.titles.now) in
    row_more (title_line c.args.ytd c.args.platform.now) (lines_of t) c.loop-index.index _ _ _ _ (omega arith) c.loop-index.invariant
    (subst (λ text. Put c.loop-index.page text c.put_title_line.new.page) (line_is t.cells.now t.columns c.args.ytd c.args.platform.now t.titles.now c.loop-index.index _ _ (omega arith) c.title_counts.ensures) c.put_title_line.ensures)

pub returns : goal.returns
returns c =
    let t = c.args.table.now in
    let long = length-map t.titles.now entry_of in
    let lines = length_lines t.cells.now t.columns 0 (map entry_of t.titles.now) in
    row_all (title_line c.args.ytd c.args.platform.now) (lines_of t) c.loop-index.index _ _ (omega arith) c.loop-index.invariant
