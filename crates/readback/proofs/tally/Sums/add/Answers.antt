use Rattle.std.proofs.Common.{◌≡◌, ℕ, ◌+◌, length, get_or, set, sym, subst, arith, rules}
use Rattle.readback.proofs.Tallying.{AddedTo, one_more_added}
use Rattle.readback.proofs.tally.Sums.add.Goals as goal

pub loop-column-preserved : goal.loop-column-preserved
loop-column-preserved c =
    let l : length c.args.self.now.columns ≡ 12 = search rules in (
      subst
          (λ (n : ℕ). AddedTo c.args.self.now.columns c.args.numbers.now (c.loop-column.column + 1) (set c.loop-column.self.columns c.loop-column.column (get_or c.loop-column.self.columns c.loop-column.column 0 + n)))
          (sym c.from.ensures)
          (one_more_added c.args.self.now.columns c.args.numbers.now c.loop-column.self.columns c.loop-column.column (omega arith) c.loop-column-test.true (omega (arith, c.type_inv.numbers c.loop-column.column)) c.loop-column.invariant.0),
      c.loop-column.invariant.1,
      c.loop-column.invariant.2,
    )
