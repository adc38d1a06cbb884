-- The judge's answer is the definition's.
use Rattle.std.proofs.Common.{rules}
use Rattle.cells.specs.Cells.{place_of}
use Rattle.cells.specs.Judged.{issn_in}
use Rattle.cells.proofs.Judging.{judged}
use Rattle.cells.proofs.judge.issn_cell.Goals as goal

pub returns : goal.returns
returns c =
    judged (λ x. x) c.args.last (place_of c.judged_cell.new.cells) c.judged_cell.result _ issn_in (λ cell j may. search rules) (place_of c.args.cells.now) c.judged_cell.ensures
