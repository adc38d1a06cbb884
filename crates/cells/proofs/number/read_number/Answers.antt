-- Each digit brings the number one step on, and a number that grew too high stays so.
use Rattle.std.proofs.Common.{◌+◌, ◌*◌, drop, sym, ap, ◌∙◌, arith}
use Rattle.cells.specs.Numbers.{read_on}
use Rattle.cells.proofs.Numbering.{digit_missing, digits_more, high_already, high_in_all, read_all, value_more}
use Rattle.cells.proofs.number.read_number.Goals as goal
use Rattle.cells.proofs.number.read_number.Goals.{then-not-is_ascii_digit-via-then-not-is_ascii_digit, then-not-is_ascii_digit-via-else-not-is_ascii_digit+then-number}

pub returns-then-not-is_ascii_digit : goal.returns-then-not-is_ascii_digit
returns-then-not-is_ascii_digit c =
    let bytes = c.args.bytes.now in
    let i = c.loop-byte.byte-index in
    let number = c.loop-byte.number in
    elim c.then-not-is_ascii_digit.branch [
      | then-not-is_ascii_digit-via-then-not-is_ascii_digit w ↦
          digit_missing bytes i number c.loop-byte.invariant.0 c.loop-byte.invariant.1 (omega arith) (sym c.is_ascii_digit.ensures.value ∙ w.if-not-is_ascii_digit.true)
      | then-not-is_ascii_digit-via-else-not-is_ascii_digit+then-number w ↦
          high_already bytes i number c.loop-byte.invariant.0 c.loop-byte.invariant.1 (omega arith) (omega (arith, w.if-number.true))
    ]

pub loop-byte-preserved : goal.loop-byte-preserved
loop-byte-preserved c =
    let bytes = c.args.bytes.now in
    let i = c.loop-byte.byte-index in
    let number = c.loop-byte.number in
    let digit = c.if-not-is_ascii_digit.ensures in (
      digits_more bytes i number c.loop-byte.invariant.0 c.loop-byte.invariant.1 (omega arith) (sym digit.value),
      ap (λ d. read_on (number * 10 + d) (drop (i + 1) bytes)) c.from.ensures ∙ value_more bytes i number c.loop-byte.invariant.0 c.loop-byte.invariant.1 (omega arith),
      omega (arith, digit.cases),
    )

pub returns-then-number-gt-HIGHEST : goal.returns-then-number-gt-HIGHEST
returns-then-number-gt-HIGHEST c =
    high_in_all c.args.bytes.now c.loop-byte.byte-index c.loop-byte.number c.loop-byte.invariant.0 c.loop-byte.invariant.1 (omega arith) (omega arith)

pub returns-else-number-gt-HIGHEST : goal.returns-else-number-gt-HIGHEST
returns-else-number-gt-HIGHEST c =
    read_all c.args.bytes.now c.loop-byte.byte-index c.loop-byte.number c.loop-byte.invariant.0 c.loop-byte.invariant.1 (omega arith) (sym c.if-not-is_plain.ensures) (omega arith)
