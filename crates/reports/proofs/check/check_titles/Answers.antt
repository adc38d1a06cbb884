-- The first unfit title is the one that stops the loop.
use Rattle.std.proofs.Common.{◌∙◌, arith}
use Rattle.reports.proofs.Grounds.{titles_all, titles_more, titles_stop}
use Rattle.reports.proofs.check.check_titles.Goals as goal

pub loop-index-preserved : goal.loop-index-preserved
loop-index-preserved c =
    titles_more c.args.titles.now c.loop-index.index _ (omega arith) _ c.in_default.ensures.judged ∙ c.loop-index.invariant

pub returns-in-Err : goal.returns-in-Err
returns-in-Err c =
    titles_stop c.args.titles.now c.loop-index.index _ (omega arith) _ c.in-Err.ensures.judged ∙ c.loop-index.invariant

pub returns : goal.returns
returns c = titles_all c.args.titles.now c.loop-index.index (omega arith) ∙ c.loop-index.invariant
