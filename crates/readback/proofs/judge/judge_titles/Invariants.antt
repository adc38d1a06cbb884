use Rattle.std.proofs.Common.{◌≡◌, ◌-◌, length}
use Rattle.cells.specs.Cells.{place_of}
use Rattle.readback.specs.Passes.{no_tally, over, tallied, tally_of}
use Rattle.readback.proofs.judge.judge_titles.Given as goal

abbrev pub invariant-loop : goal.invariant-loop
invariant-loop g l =
    (l.judged.titles ≡ l.counter)
    × (over tallied (512 - l.counter) (g.S.ColumnScheme.layout l.scheme) l.platform (place_of l.cells) (tally_of (length l.initial.row) l.judged) ≡ over tallied 512 (g.S.ColumnScheme.layout l.scheme) l.platform (place_of l.initial.cells) (no_tally (length l.initial.row)))
