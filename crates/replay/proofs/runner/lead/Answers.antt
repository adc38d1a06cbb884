use Rattle.std.proofs.Common.{◌<◌, [], ◌++◌, length, refl, ◌∙◌, arith}
use Rattle.replay.specs.Rows.{none}
use Rattle.replay.proofs.Entering.{steps_kept, told_all, told_more}
use Rattle.replay.proofs.runner.lead.Goals as goal

pub loop-entry-init : goal.loop-entry-init
loop-entry-init g c = (refl, refl, λ _ s. ([], none, s))

pub loop-entry-preserved : goal.loop-entry-preserved
loop-entry-preserved g c =
    let i = c.loop-entry.invariant in
    let lt : c.loop-entry.entry-index < length c.loop-entry.entry-items = omega (arith, c.loop-entry.auto.entry-items, c.loop-entry-test.true) in (
      c.perform-next.ensures.terms ∙ i.0,
      steps_kept c.loop-entry.entry-items c.loop-entry.entry-index _ _ lt ∙ i.1,
      λ before s.
          let so_far = i.2 before s in
          let done = c.perform-next.ensures.law (so_far.0 ++ before) so_far.2 in
          (_, told_more _ c.loop-entry.entry-items so_far.0 _ _ c.loop-entry.entry-index _ _ done.0 lt so_far.1 done.1, done.2),
    )

pub returns : goal.returns
returns g c =
    let i = c.loop-entry.invariant in
    record {
      terms = i.0;
      steps = i.1;
      law = λ before s. let all = i.2 before s in (all.0, told_all _ c.loop-entry.entry-items all.0 _ c.loop-entry.entry-index (omega (arith, c.loop-entry.auto.entry-items, c.loop-entry-test.false)) all.1, all.2);
    }
