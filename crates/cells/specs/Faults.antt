-- The faults of a file's cells, and where they lie.
use Rattle.std.specs.Prelude.{ℕ, ◌+◌, Bool, cond, Ok, Err, Result}
use Rattle.std.specs.Bool.{beq}
use Rattle.cells.specs.declared.cell.Spot.{Spot}
use Rattle.cells.specs.declared.fault.Cause.{Cause}
use Rattle.cells.specs.declared.fault.Cause.TheVariants.{WrongCellCount, EndOfFile}
use Rattle.cells.specs.declared.fault.CellFault.{CellFault}
use Rattle.cells.specs.declared.fault.LineFault.{LineFault}
use Rattle.cells.specs.Places.{Place}

abbrev pub new_fault : ℕ → ℕ → Cause → LineFault
new_fault line column cause = record { line = line; column = column; cause = cause }

-- a cell that is not ended is the end of the file
abbrev pub unended : CellFault → LineFault
unended f = new_fault f.line f.column EndOfFile

-- a fault of the cell that stands there
abbrev pub fault_at : Spot → Cause → LineFault
fault_at s cause = new_fault s.line s.column cause

-- a fault of the cell that comes next
abbrev pub fault_here : Place → Cause → LineFault
fault_here p cause = new_fault p.line p.column cause

-- the cell ends its line just where it should; else the next one is missing, or one too many
abbrev pub closed : Bool → Spot → Result (Unit {0}) LineFault
closed last s = cond (beq s.last last) (Ok tt) (Err (new_fault s.line (s.column + 1) WrongCellCount))
