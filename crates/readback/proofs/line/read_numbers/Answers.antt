use Rattle.std.proofs.Common.{◌≡◌, ◌+◌, ◌&&◌, eqb, length, sym, ap, ◌∙◌, arith, rules}
use Rattle.std.proofs.lemmas.Result.{err_from_is_err_and}
use Rattle.cells.specs.Cells.{place_of}
use Rattle.cells.specs.Judged.{number_at}
use Rattle.readback.proofs.Numbers.{numbers_end, numbers_more, numbers_stop}
use Rattle.readback.proofs.line.read_numbers.Goals as goal

pub loop-i-preserved : goal.loop-i-preserved
loop-i-preserved c =
    let f : c.if-ends.number_cell ≡ (c.args.ends && eqb (c.loop-i.i + 1) (length c.args.row.now)) = search rules in
    numbers_more c.args.ends (length c.args.row.now) c.loop-i.i c.loop-i-test.true (place_of c.loop-i.cells) (place_of c.number_cell.new.cells) c.loop-i.row c.in_ok-number.field-0 (omega arith)
    (ap (λ b. number_at b (place_of c.loop-i.cells)) (sym f) ∙ sym c.in_ok-number.ensures)
    ∙ c.loop-i.invariant

pub returns-in_err-number : goal.returns-in_err-number
returns-in_err-number c =
    let f : c.if-ends.number_cell ≡ (c.args.ends && eqb (c.loop-i.i + 1) (length c.args.row.now)) = search rules in
    let p = err_from_is_err_and c.from_residual.result c.from_residual.ensures.1 in
    rw (p.1, p.2)
    (sym (sym c.loop-i.invariant ∙ numbers_stop c.args.ends (length c.args.row.now) c.loop-i.i c.loop-i-test.true (place_of c.loop-i.cells) _ _ (ap (λ b. number_at b (place_of c.loop-i.cells)) (sym f) ∙ sym c.in_err-number.ensures)))

pub returns : goal.returns
returns c = sym (sym c.loop-i.invariant ∙ numbers_end c.args.ends (length c.args.row.now) c.loop-i.i (place_of c.loop-i.cells) c.loop-i.row c.loop-i-test.false (omega arith))
