-- The judge's answer is the definition's.
use Rattle.std.proofs.Common.{rules}
use Rattle.cells.specs.Cells.{place_of}
use Rattle.cells.specs.Judged.{note_in}
use Rattle.cells.proofs.Judging.{judged}
use Rattle.cells.proofs.judge.note_cell.Goals as goal

pub returns : goal.returns
returns c =
    judged (λ b. b.now) c.args.last (place_of c.judged_cell.new.cells) c.judged_cell.result _ note_in (λ cell j may. search rules) (place_of c.args.cells.now) c.judged_cell.ensures
