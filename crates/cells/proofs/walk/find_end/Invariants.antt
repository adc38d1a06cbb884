-- What is left holds the end, and the bytes before it belong to the cell.
use Rattle.std.proofs.Common.{◌≡◌, take, drop}
use Rattle.cells.specs.Cells.{cut, widened}
use Rattle.cells.proofs.walk.find_end.Given as goal

abbrev pub invariant-loop-length : goal.invariant-loop-length
invariant-loop-length l = cut l.bytes ≡ widened (take l.length l.bytes) (cut (drop l.length l.bytes))
