use Rattle.std.proofs.Common.{◌≡◌, ℕ, length, take, replicate, sym, ap, ◌∙◌, arith}
use Rattle.std.proofs.lemmas.List.{length-take-le}
use Rattle.std.proofs.lemmas.Result.{err_from_is_err_and}
use Rattle.cells.specs.Cells.{place_of}
use Rattle.grammar.specs.Files.{column_count, top_at}
use Rattle.grammar.specs.Lines.{figure_count}
use Rattle.readback.specs.Passes.{against, tally_of}
use Rattle.readback.specs.Tops.{top_by}
use Rattle.readback.proofs.Judging.{judged_stop, judged_whole}
use Rattle.readback.proofs.judge.judge_file.Goals as goal

pub returns-in_err-judged : goal.returns-in_err-judged
returns-in_err-judged g c =
    let l = g.S.ColumnScheme.layout c.args.scheme.now in
    let few = (g.met.S.ColumnScheme.sound c.args.scheme.now).few in
    let q = place_of c.read_top.new.cells in
    let t = top_by c.read_top.new.figures c.in_ok-top.top in
    let n : length (take c.columns-columns.result (replicate 12 0)) ≡ column_count l =
    length-take-le c.columns-columns.result (replicate 12 0) (omega (arith, few, c.columns-columns.ensures)) ∙ c.columns-columns.ensures in
    let p = err_from_is_err_and c.from_residual-in_err-judged.result c.from_residual-in_err-judged.ensures.1 in
    rw (p.1, p.2) (judged_stop l c.args.file.now t q (c.in_ok-top.ensures ∙ ap (top_at l) c.new-cells.ensures) _ n c.in_err-judged.field-0.0 c.in_err-judged.ensures)

pub returns : goal.returns
returns g c =
    let l = g.S.ColumnScheme.layout c.args.scheme.now in
    let columns = c.columns-columns.result in
    let few = (g.met.S.ColumnScheme.sound c.args.scheme.now).few in
    let q = place_of c.read_top.new.cells in
    let t = top_by c.read_top.new.figures c.in_ok-top.top in
    let wide : length (take columns (replicate 12 0)) ≡ columns = length-take-le columns (replicate 12 0) (omega (arith, few, c.columns-columns.ensures)) in
    let shape = c.read_top.auto.figures ∙ length-take-le c.figure_count.result (replicate 15 0) c.figure_count.ensures.few ∙ c.figure_count.ensures.count ∙ ap (figure_count l.ytd) (sym c.columns-columns.ensures) in
    judged_whole l c.args.file.now t q (c.in_ok-top.ensures ∙ ap (top_at l) c.new-cells.ensures) _ (wide ∙ c.columns-columns.ensures)
    (tally_of (length (take columns (replicate 12 0))) c.in_ok-judged.judged) c.check_totals.result c.in_ok-judged.ensures
    (c.check_totals.ensures l.ytd shape ∙ ap (λ (k : ℕ). against l.ytd c.in_ok-top.top.label.publisher.now c.read_top.new.figures (tally_of k c.in_ok-judged.judged)) (sym wide))
