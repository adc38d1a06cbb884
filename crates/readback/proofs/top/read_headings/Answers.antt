use Rattle.std.proofs.Common.{◌≡◌, ◌+◌, ◌<◌, not, ◌&&◌, eqb, [], length, get_or, sym, ap, ◌∙◌, rules}
use Rattle.std.proofs.lemmas.Result.{err_from_is_err_and}
use Rattle.cells.specs.Cells.{place_of}
use Rattle.cells.specs.Judged.{word_at}
use Rattle.readback.proofs.Headings.{heading_read, heading_wrong}
use Rattle.readback.proofs.top.read_headings.Goals as goal

pub loop-column-preserved : goal.loop-column-preserved
loop-column-preserved g c =
    let hs = (g.S.ColumnScheme.layout c.args.scheme.now).headings in
    let h : c.loop-column.column < length hs = search rules in
    let f : (not c.args.ytd && eqb (c.loop-column.column + 1) (length hs)) ≡ c.if-not-ytd.read_heading = search rules in
    heading_read hs c.loop-column.column h c.args.ytd (place_of c.loop-column.cells) (place_of c.read_heading.new.cells)
    (c.in_ok-read_heading.ensures ∙ ap (λ b. word_at (get_or hs c.loop-column.column []) b (place_of c.loop-column.cells)) (sym f))
    ∙ c.loop-column.invariant

pub returns-in_err-read_heading : goal.returns-in_err-read_heading
returns-in_err-read_heading g c =
    let hs = (g.S.ColumnScheme.layout c.args.scheme.now).headings in
    let h : c.loop-column.column < length hs = search rules in
    let f : (not c.args.ytd && eqb (c.loop-column.column + 1) (length hs)) ≡ c.if-not-ytd.read_heading = search rules in
    let p = err_from_is_err_and c.from_residual.result c.from_residual.ensures.1 in
    rw (p.1, p.2)
    (heading_wrong hs c.loop-column.column h c.args.ytd (place_of c.loop-column.cells) _ (c.in_err-read_heading.ensures ∙ ap (λ b. word_at (get_or hs c.loop-column.column []) b (place_of c.loop-column.cells)) (sym f))
    ∙ c.loop-column.invariant)
