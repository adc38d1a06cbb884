-- A ground that was found, a buffer that is too short, or the report in the buffer.
use Rattle.std.proofs.Common.{◌≡◌, ◌^◌, ◌<◌, ◌++◌, length, drop, Ok, Err, refl, ap, ◌∙◌, rules}
use Rattle.std.proofs.lemmas.Result.{err_from_is_err_and}
use Rattle.reports.specs.Answers.{subject_of, text_about}
use Rattle.reports.proofs.Grounds.{answer_given, answer_refused, answer_short, text_is}
use Rattle.reports.proofs.Steps.{fits, given, too_long}
use Rattle.reports.proofs.writer.write.Goals as goal

pub returns-in_err-counted-clause-answer : goal.returns-in_err-counted-clause-answer
returns-in_err-counted-clause-answer g c =
    let s = subject_of g.S.ColumnScheme.layout c.args.ledger.now c.args.cells.now c.args.titles.now c.args.header.now in
    let p = err_from_is_err_and c.from_residual.result c.from_residual.ensures.1 in
    p.1 ∙ ap Err p.2 ∙ answer_refused s _ _ c.in_err-counted.ensures

pub returns-then-empty-out-clause-answer : goal.returns-then-empty-out-clause-answer
returns-then-empty-out-clause-answer g c =
    let s = subject_of g.S.ColumnScheme.layout c.args.ledger.now c.args.cells.now c.args.titles.now c.args.header.now in
    let room : length c.args.out.now < 2 ^ 63 = search rules in
    let text = text_is s _ _ (ap g.S.ColumnScheme.layout c.scheme-scheme.ensures) c.in_ok-counted.ensures.lines in
    answer_short s _ _ c.in_ok-counted.ensures (too_long c.args.out.now (text_about s) _ _ _ c.put_report.ensures text refl room c.if-empty-out.true)

pub returns : goal.returns
returns g c =
    let s = subject_of g.S.ColumnScheme.layout c.args.ledger.now c.args.cells.now c.args.titles.now c.args.header.now in
    let room : length c.args.out.now < 2 ^ 63 = search rules in
    let text = text_is s _ _ (ap g.S.ColumnScheme.layout c.scheme-scheme.ensures) c.in_ok-counted.ensures.lines in
    let long = fits c.args.out.now (text_about s) _ _ _ c.put_report.ensures text refl room c.if-empty-out.false in
    let done = given (text_about s) _ _ _ c.put_report-2.ensures text refl room long in
    record {
      answer = ap Ok done.0 ∙ answer_given s _ _ c.in_ok-counted.ensures long;
      numbered = tt;
      buffer = let buffer : c.put_report-2.new.page.out.now ≡ text_about s ++ drop c.put_report-2.new.page.at c.args.out.now = done.1 in search rules;
    }
