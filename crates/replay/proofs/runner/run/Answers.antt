use Rattle.std.proofs.Common.{◌≡◌, [], ◌++◌, refl, ap, ◌∙◌}
use Rattle.runs.specs.Checks.{judge_tables}
use Rattle.runs.specs.Past.{granted, refused}
use Rattle.std.proofs.lemmas.List.{append-nil}
use Rattle.runs.specs.Law.{Stands}
use Rattle.runs.proofs.Laws.{stands_fits}
use Rattle.ledger.specs.Answers.{number}
use Rattle.ledger.specs.Views.{books, setup}
use Rattle.ledger.proofs.Calls.{few_presented}
use Rattle.replay.proofs.runner.run.Goals as goal

-- the ledger still stands, so that its tables fit
pub unreachable-requires : goal.unreachable-requires
unreachable-requires g c =
    let o = c.lead-ledger.result in
    let u = setup g.R.ReaderRule g.S.ColumnScheme o.terms in
    let stood = c.lead-ledger.ensures.law [] c.in_ok-ledger.ensures.begins.6 in
    let few = few_presented o in
    let fit = stands_fits u (g.met.S.ColumnScheme.below o.terms.scheme) (stood.0 ++ []) (books o c.lead-ledger.new.waiting c.lead-ledger.new.cells) stood.2 few refl in
    let clash : refused (number c.in-Err.field-0.refusal) ≡ granted = c.in-Err.ensures.answer ∙ ap judge_tables fit in
    cc

pub returns : goal.returns
returns g c =
    let o = c.lead-ledger.result in
    let begun = c.in_ok-ledger.ensures in
    let led = c.lead-ledger.ensures in
    let ended = c.in-Ok.ensures in
    let same = ended.holds.0 ∙ led.terms in
    let stood = led.law [] begun.begins.6 in
    let all : Stands (setup g.R.ReaderRule g.S.ColumnScheme o.terms) stood.0 (books o c.lead-ledger.new.waiting c.lead-ledger.new.cells) = rw append-nil at stood.2 in
    record {
      opened = begun.granted;
      steps = led.steps;
      led = (ap (λ t. t.rule) same ∙ begun.begins.0, ap (λ t. t.scheme) same ∙ begun.begins.1, ap (λ t. t.titles) same ∙ begun.begins.2, ap (λ t. t.limit) same ∙ begun.begins.3, ap (λ t. t.slots) same ∙ begun.begins.4, (stood.0, stood.1, ended.law stood.0 all));
    }
