use Rattle.std.proofs.Common.{true, false, [], sym, refl}
use Rattle.ledger.specs.Views.{books, setup}
use Rattle.replay.proofs.Unlent.{made_so, unlent}
use Rattle.replay.proofs.runner.perform.Goals as goal

pub returns-then-is_lent : goal.returns-then-is_lent
returns-then-is_lent g c = record {
  terms = c.make.ensures.terms;
  law = λ p s. let r = c.make.ensures.own p s in (r.0, made_so c.args.step.now true _ _ _ _ (sym c.if-is_lent.ensures) r.1, r.2);
}

pub returns-else-is_lent : goal.returns-else-is_lent
returns-else-is_lent g c =
    let o = c.args.ledger in
    let u = setup g.R.ReaderRule g.S.ColumnScheme o.terms in
    record {
      terms = c.make-else-is_lent.ensures.terms;
      law = λ p s.
          let r = c.make-else-is_lent.ensures.none p c.args.waiting.now c.args.cells.now (unlent u (books o [] []) o.terms.some.2 refl) s in
          (r.0, made_so c.args.step.now false _ _ _ _ (sym c.if-is_lent.ensures) r.1, r.2);
    }
