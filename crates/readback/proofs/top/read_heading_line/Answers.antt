use Rattle.std.proofs.Common.{Bool, ◌++◌, Ok, Err, ap, ◌∙◌}
use Rattle.std.proofs.lemmas.Result.{err_from_is_err_and}
use Rattle.cells.specs.Cells.{place_of}
use Rattle.reports.specs.Written.{ytd_headings}
use Rattle.grammar.specs.Lines.{words_at}
use Rattle.readback.proofs.Headings.{labels_before}
use Rattle.readback.proofs.top.read_heading_line.Goals as goal

pub returns-in_err-read_labels : goal.returns-in_err-read_labels
returns-in_err-read_labels g c =
    let l = g.S.ColumnScheme.layout c.args.scheme.now in
    let p = err_from_is_err_and c.from_residual.result c.from_residual.ensures.1 in
    rw (p.1, p.2)
    (labels_before (Err c.in_err-read_labels.field-0.0) (place_of c.args.cells.now) l.headings (ytd_headings l.ytd) (g.met.S.ColumnScheme.sound c.args.scheme.now).some c.in_err-read_labels.ensures)

pub returns-in_err-read_headings : goal.returns-in_err-read_headings
returns-in_err-read_headings g c =
    let l = g.S.ColumnScheme.layout c.args.scheme.now in
    let p = err_from_is_err_and c.from_residual-in_err-read_headings.result c.from_residual-in_err-read_headings.ensures.1 in
    rw (p.1, p.2)
    (c.in_err-read_headings.ensures
    ∙ ap (λ (b : Bool). words_at (l.headings ++ ytd_headings b) (place_of c.read_labels.new.cells)) c.has_ytd-ytd.ensures
    ∙ labels_before (Ok (tt, place_of c.read_labels.new.cells)) (place_of c.args.cells.now) l.headings (ytd_headings l.ytd) (g.met.S.ColumnScheme.sound c.args.scheme.now).some c.in_ok-read_labels.ensures)

pub returns : goal.returns
returns g c =
    let l = g.S.ColumnScheme.layout c.args.scheme.now in
    c.read_ytd_headings.ensures
    ∙ c.in_ok-read_headings.ensures
    ∙ ap (λ (b : Bool). words_at (l.headings ++ ytd_headings b) (place_of c.read_labels.new.cells)) c.has_ytd-ytd.ensures
    ∙ labels_before (Ok (tt, place_of c.read_labels.new.cells)) (place_of c.args.cells.now) l.headings (ytd_headings l.ytd) (g.met.S.ColumnScheme.sound c.args.scheme.now).some c.in_ok-read_labels.ensures
