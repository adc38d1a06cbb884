-- One more column.
use Rattle.std.proofs.Common.{ap, ◌∙◌, arith}
use Rattle.reports.specs.Counting.{with_column}
use Rattle.reports.proofs.Usages.{usage_more}
use Rattle.reports.proofs.counts.Counts.by_column.Goals as goal

pub loop-column-preserved : goal.loop-column-preserved
loop-column-preserved g c = record {
  counted = omega arith;
  usage = λ html pdf gives. c.add.ensures.usage ∙ ap (λ u. with_column u c.formats.result) (c.loop-column.invariant.usage html pdf gives) ∙ usage_more html pdf c.loop-column.column c.formats.result (gives c.loop-column.column c.formats.result c.loop-column-test.true c.formats.ensures);
}
