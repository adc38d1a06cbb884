use Rattle.std.proofs.Common.{◌+◌, ◌-◌, ◌*◌, ◌≤◌, length, Ok, Err, sym, ap, ◌∙◌, arith, rules}
use Rattle.std.proofs.lemmas.Result.{err_from_is_err_and}
use Rattle.cells.specs.Cells.{place_of}
use Rattle.readback.specs.Answers.{held_by}
use Rattle.readback.specs.Passes.{filled_row, over, row_with}
use Rattle.readback.proofs.FillTurns.{one_more, part_length}
use Rattle.readback.proofs.Room.{within}
use Rattle.readback.proofs.Titles.{same_row, titles_full, titles_last, titles_more, titles_stop}
use Rattle.readback.proofs.fill.fill_titles.Goals as goal

pub returns-in_err-line-clause-filled : goal.returns-in_err-line-clause-filled
returns-in_err-line-clause-filled g c =
    let l = g.S.ColumnScheme.layout c.args.scheme.now in
    let p = place_of c.loop-title.cells in
    let n = c.loop-title.title in
    let inside = within l (held_by c.args.tables.now) c.requires n c.columns-columns.result c.loop-title-test.true c.columns-columns.ensures in
    let room : n * c.columns-columns.result + c.columns-columns.result ≤ length c.loop-title.tables.numbers.now = omega (arith, inside, c.loop-title.invariant.0.wide) in
    let read = same_row l c.args.platform.now p (Err c.in_err-line.field-0.0) c.has_ytd-ytd.ensures (part_length n c.columns-columns.result c.loop-title.tables.numbers.now room ∙ c.columns-columns.ensures) c.in_err-line.ensures.row in
    let e = err_from_is_err_and c.from_residual.result c.from_residual.ensures.1 in
    rw (e.1, e.2)
    (sym (titles_stop (filled_row l) l c.args.platform.now n c.loop-title-test.true p (record { count = n; tables = held_by c.loop-title.tables }) c.in_err-line.field-0.0 read)
    ∙ c.loop-title.invariant.1)

pub returns-then-is_done-clause-filled : goal.returns-then-is_done-clause-filled
returns-then-is_done-clause-filled g c =
    let l = g.S.ColumnScheme.layout c.args.scheme.now in
    let p = place_of c.loop-title.cells in
    let q = place_of c.read_title.new.cells in
    let n = c.loop-title.title in
    let k = c.columns-columns.result in
    let inside = within l (held_by c.args.tables.now) c.requires n k c.loop-title-test.true c.columns-columns.ensures in
    let room : n * k + k ≤ length c.loop-title.tables.numbers.now = omega (arith, inside, c.loop-title.invariant.0.wide) in
    let part = part_length n k c.loop-title.tables.numbers.now room in
    let row = row_with c.read_title.new.row c.in_ok-line.line in
    let read = same_row l c.args.platform.now p (Ok (row, q)) c.has_ytd-ytd.ensures (part ∙ c.columns-columns.ensures) c.in_ok-line.ensures.row in
    let one = one_more l n k c.columns-columns.ensures c.loop-title.tables c.put.new.self c.read_title.new.row c.in_ok-line.line (c.read_title.auto.row ∙ part) (c.in_ok-line.ensures.year ∙ c.has_ytd-ytd.ensures) c.put.ensures.titles c.put.ensures.numbers c.put.ensures.ytd in
    ap Ok one
    ∙ sym (titles_last (filled_row l) l c.args.platform.now n c.loop-title-test.true p (record { count = n; tables = held_by c.loop-title.tables }) row q read (sym c.if-is_done.ensures))
    ∙ c.loop-title.invariant.1

pub loop-title-preserved : goal.loop-title-preserved
loop-title-preserved g c =
    let l = g.S.ColumnScheme.layout c.args.scheme.now in
    let p = place_of c.loop-title.cells in
    let q = place_of c.read_title.new.cells in
    let n = c.loop-title.title in
    let k = c.columns-columns.result in
    let inside = within l (held_by c.args.tables.now) c.requires n k c.loop-title-test.true c.columns-columns.ensures in
    let room : n * k + k ≤ length c.loop-title.tables.numbers.now = omega (arith, inside, c.loop-title.invariant.0.wide) in
    let part = part_length n k c.loop-title.tables.numbers.now room in
    let row = row_with c.read_title.new.row c.in_ok-line.line in
    let read = same_row l c.args.platform.now p (Ok (row, q)) c.has_ytd-ytd.ensures (part ∙ c.columns-columns.ensures) c.in_ok-line.ensures.row in
    let one = one_more l n k c.columns-columns.ensures c.loop-title.tables c.put.new.self c.read_title.new.row c.in_ok-line.line (c.read_title.auto.row ∙ part) (c.in_ok-line.ensures.year ∙ c.has_ytd-ytd.ensures) c.put.ensures.titles c.put.ensures.numbers c.put.ensures.ytd in (
      search rules,
      ap (over (filled_row l) (512 - (n + 1)) l c.args.platform.now q) one
          ∙ sym (titles_more (filled_row l) l c.args.platform.now n c.loop-title-test.true p (record { count = n; tables = held_by c.loop-title.tables }) row q read (sym c.if-is_done.ensures))
          ∙ c.loop-title.invariant.1,
    )

pub returns-clause-filled : goal.returns-clause-filled
returns-clause-filled g c =
    let l = g.S.ColumnScheme.layout c.args.scheme.now in
    ap Err c.fault.ensures
    ∙ sym (titles_full (filled_row l) l c.args.platform.now c.loop-title.title (place_of c.loop-title.cells) (record { count = c.loop-title.title; tables = held_by c.loop-title.tables }) c.loop-title-test.false)
    ∙ c.loop-title.invariant.1
