use Rattle.std.proofs.Common.{ℕ, ◌*◌, take, sum, sym, ap, ◌∙◌, arith}
use Rattle.std.proofs.lemmas.List.{length-take-le}
use Rattle.std.proofs.lemmas.Result.{err_from_is_err_and}
use Rattle.readback.specs.Answers.{held_by, summary_of}
use Rattle.audit.proofs.Found.{found_is, held, refused_found, within}
use Rattle.audit.proofs.checking.read_into.Goals as goal

pub returns-in_err-out : goal.returns-in_err-out
returns-in_err-out g c =
    let l = g.S.ColumnScheme.layout c.args.scheme.now in
    let t = held_by c.args.tables.now in
    let p = err_from_is_err_and c.from_residual.result c.from_residual.ensures.1 in
    rw (p.1, p.2) (refused_found l t c.args.file.now c.requires.room c.in_err-out.field-0.0 c.in_err-out.ensures.answer)

pub overflow_mul-shown : goal.overflow_mul-shown
overflow_mul-shown g c =
    let l = g.S.ColumnScheme.layout c.args.scheme.now in
    let t = held_by c.args.tables.now in
    let after = held_by c.read.new.tables in
    let h = held l t c.args.file.now c.requires.room (summary_of c.in_ok-out.out) after c.in_ok-out.ensures.answer c.in_ok-out.ensures.tables in
    let w = within l t c.args.file.now after c.in_ok-out.out.titles c.columns.result c.requires.room h c.columns.ensures in
    omega (arith, w, c.requires.few)

pub slice_bounds-sum_of-end : goal.slice_bounds-sum_of-end
slice_bounds-sum_of-end g c =
    let l = g.S.ColumnScheme.layout c.args.scheme.now in
    let t = held_by c.args.tables.now in
    let after = held_by c.read.new.tables in
    let h = held l t c.args.file.now c.requires.room (summary_of c.in_ok-out.out) after c.in_ok-out.ensures.answer c.in_ok-out.ensures.tables in
    let w = within l t c.args.file.now after c.in_ok-out.out.titles c.columns.result c.requires.room h c.columns.ensures in
    sym (length-take-le (c.in_ok-out.out.titles * c.columns.result) c.read.new.tables.numbers.now (omega (arith, w, c.in_ok-out.ensures.same.wide)))

pub returns : goal.returns
returns g c =
    let l = g.S.ColumnScheme.layout c.args.scheme.now in
    let t = held_by c.args.tables.now in
    let after = held_by c.read.new.tables in
    let h = held l t c.args.file.now c.requires.room (summary_of c.in_ok-out.out) after c.in_ok-out.ensures.answer c.in_ok-out.ensures.tables in
    found_is l c.args.file.now after c.in_ok-out.out.titles c.sum_of.result h
    (c.sum_of.ensures ∙ ap (λ (k : ℕ). sum (take (c.in_ok-out.out.titles * k) c.read.new.tables.numbers.now)) c.columns.ensures)
