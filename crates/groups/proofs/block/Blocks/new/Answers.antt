use Rattle.std.proofs.Common.{◌<◌, ap, ◌∙◌, arith}
use Rattle.std.proofs.ByRecursion.{All-from_get_or}
use Rattle.groups.specs.Frames.{frames}
use Rattle.groups.proofs.Spelling.{row_spelled}
use Rattle.groups.proofs.Writing.{row_from_start}
use Rattle.groups.proofs.block.Blocks.new.Goals as goal

pub returns-clause-written : goal.returns-clause-written
returns-clause-written c = λ row rest e. ap (frames 0) e ∙ row_from_start row rest

pub returns-clause-spelled : goal.returns-clause-spelled
returns-clause-spelled c = λ row e.
    row_spelled 0 c.args.bytes.now row (All-from_get_or (λ b. b < 256) c.args.bytes.now 0 (λ i _. omega (arith, c.type_inv.bytes i))) e
