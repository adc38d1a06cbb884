use Rattle.std.proofs.Common.{◌≡◌, ◌-◌, take}
use Rattle.cells.specs.Places.{and_then}
use Rattle.cells.specs.Cells.{place_of}
use Rattle.grammar.specs.Lines.{numbers_at}
use Rattle.readback.proofs.Numbers.{onto}
use Rattle.readback.proofs.line.read_numbers.Given as goal

abbrev pub invariant-loop-i : goal.invariant-loop-i
invariant-loop-i l =
    and_then (numbers_at l.ends (l.count - l.i) (place_of l.cells)) (onto (take l.i l.row)) ≡ numbers_at l.ends l.count (place_of l.initial.cells)
