-- What is left to read gives the whole.
use Rattle.std.proofs.Common.{◌≡◌, ◌≤◌, drop}
use Rattle.std.specs.Str.{all_ascii_digits}
use Rattle.cells.specs.Numbers.{read_on}
use Rattle.cells.proofs.number.read_number.Given as goal

abbrev pub invariant-loop-byte : goal.invariant-loop-byte
invariant-loop-byte l =
    (all_ascii_digits (drop l.byte-index l.bytes) ≡ all_ascii_digits l.bytes) × (read_on l.number (drop l.byte-index l.bytes) ≡ read_on 0 l.bytes) × (l.number ≤ 1000000009)
