use Rattle.std.proofs.Common.{Err, sym, ap, ◌∙◌}
use Rattle.readback.proofs.Figures.{first_told, told}
use Rattle.readback.proofs.judge.check_figures.Goals as goal

pub returns-in-Some : goal.returns-in-Some
returns-in-Some c = ap Err c.totals_fault.ensures ∙ ap (told 6) c.in-Some.ensures.first ∙ sym (first_told 6 c.args.figures.now c.args.sums.now)

pub returns-in-None : goal.returns-in-None
returns-in-None c = ap (told 6) c.in-None.ensures.first ∙ sym (first_told 6 c.args.figures.now c.args.sums.now)
