-- The first publisher is shared if the others have it.
use Rattle.std.proofs.Common.{sym, ◌∙◌}
use Rattle.std.proofs.lemmas.Bool.{cond-false, cond-true}
use Rattle.reports.proofs.Publishers.{shared_by}
use Rattle.reports.proofs.publisher.shared_publisher.Goals as goal

pub returns-then-all_published_by : goal.returns-then-all_published_by
returns-then-all_published_by c =
    sym (shared_by c.args.titles.now c.in-Some.first.now c.in-Some.others.now c.in-Some.ensures.cases.0 ∙ cond-true _ _ _ (sym c.if-all_published_by.ensures))

pub returns-else-all_published_by : goal.returns-else-all_published_by
returns-else-all_published_by c =
    sym (shared_by c.args.titles.now c.in-Some.first.now c.in-Some.others.now c.in-Some.ensures.cases.0 ∙ cond-false _ _ _ (sym c.if-all_published_by.ensures))
