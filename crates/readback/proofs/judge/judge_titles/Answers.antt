use Rattle.std.proofs.Common.{◌≡◌, ℕ, ◌+◌, ◌-◌, length, Ok, Err, sym, ap, ◌∙◌, subst}
use Rattle.std.proofs.lemmas.Result.{err_from_is_err_and}
use Rattle.cells.specs.Cells.{place_of}
use Rattle.readback.specs.Passes.{Tally, over, row_with, tallied, tally_of}
use Rattle.readback.proofs.Titles.{same_row, titles_full, titles_last, titles_more, titles_stop}
use Rattle.readback.proofs.judge.judge_titles.Goals as goal

pub returns-in_err-line : goal.returns-in_err-line
returns-in_err-line g c =
    let l = g.S.ColumnScheme.layout c.args.scheme.now in
    let p = place_of c.loop.cells in
    let e = err_from_is_err_and c.from_residual.result c.from_residual.ensures.1 in
    let read = same_row l c.args.platform.now p (Err c.in_err-line.field-0.0) c.has_ytd-ytd.ensures (c.loop.auto.row ∙ c.requires) c.in_err-line.ensures.row in
    rw (e.1, e.2)
    (sym (titles_stop tallied l c.args.platform.now c.loop.counter c.loop-test.true p (tally_of (length c.args.row.now) c.loop.judged) c.in_err-line.field-0.0 read)
    ∙ c.loop.invariant.1)

pub returns-then-is_done : goal.returns-then-is_done
returns-then-is_done g c =
    let l = g.S.ColumnScheme.layout c.args.scheme.now in
    let p = place_of c.loop.cells in
    let q = place_of c.read_title.new.cells in
    let row = row_with c.read_title.new.row c.in_ok-line.line in
    let read = same_row l c.args.platform.now p (Ok (row, q)) c.has_ytd-ytd.ensures (c.loop.auto.row ∙ c.requires) c.in_ok-line.ensures.row in
    let t = subst (λ (k : ℕ). tally_of k c.note.new.self ≡ tallied (tally_of k c.loop.judged) row) (c.read_title.auto.row ∙ c.loop.auto.row) c.note.ensures.tally in
    ap (λ (x : Tally). Ok x) t
    ∙ sym (titles_last tallied l c.args.platform.now c.loop.counter c.loop-test.true p (tally_of (length c.args.row.now) c.loop.judged) row q read (sym c.if-is_done.ensures))
    ∙ c.loop.invariant.1

pub loop-preserved : goal.loop-preserved
loop-preserved g c =
    let l = g.S.ColumnScheme.layout c.args.scheme.now in
    let p = place_of c.loop.cells in
    let q = place_of c.read_title.new.cells in
    let row = row_with c.read_title.new.row c.in_ok-line.line in
    let read = same_row l c.args.platform.now p (Ok (row, q)) c.has_ytd-ytd.ensures (c.loop.auto.row ∙ c.requires) c.in_ok-line.ensures.row in
    let t = subst (λ (k : ℕ). tally_of k c.note.new.self ≡ tallied (tally_of k c.loop.judged) row) (c.read_title.auto.row ∙ c.loop.auto.row) c.note.ensures.tally in (
      c.note.ensures.titles ∙ ap (λ (k : ℕ). k + 1) c.loop.invariant.0,
      ap (over tallied (512 - (c.loop.counter + 1)) l c.args.platform.now q) t
          ∙ sym (titles_more tallied l c.args.platform.now c.loop.counter c.loop-test.true p (tally_of (length c.args.row.now) c.loop.judged) row q read (sym c.if-is_done.ensures))
          ∙ c.loop.invariant.1,
    )

pub returns : goal.returns
returns g c =
    let l = g.S.ColumnScheme.layout c.args.scheme.now in
    ap Err c.fault.ensures
    ∙ sym (titles_full tallied l c.args.platform.now c.loop.counter (place_of c.loop.cells) (tally_of (length c.args.row.now) c.loop.judged) c.loop-test.false)
    ∙ c.loop.invariant.1
