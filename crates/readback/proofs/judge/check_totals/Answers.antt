use Rattle.std.proofs.Common.{◌∙◌, rules}
use Rattle.grammar.specs.Lines.{figure_count}
use Rattle.readback.proofs.Figures.{against_shown}
use Rattle.readback.proofs.judge.check_totals.Goals as goal

pub returns : goal.returns
returns c = λ ytd many.
    let shown = against_shown c.args.figures.now c.shown-sums.result _ (figure_count ytd c.args.columns) many (c.shown-sums.ensures ytd) in
    c.check_figures.ensures ∙ shown ∙ search rules
