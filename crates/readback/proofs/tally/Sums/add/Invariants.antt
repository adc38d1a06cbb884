use Rattle.std.proofs.Common.{◌≡◌}
use Rattle.readback.proofs.Tallying.{AddedTo}
use Rattle.readback.proofs.tally.Sums.add.Given as goal

abbrev pub invariant-loop-column : goal.invariant-loop-column
invariant-loop-column l =
    AddedTo l.initial.self.columns l.numbers l.column l.self.columns × (l.self.html ≡ l.initial.self.html) × (l.self.pdf ≡ l.initial.self.pdf)
