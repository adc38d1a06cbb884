use Rattle.std.proofs.Common.{◌≡◌, true, Ok, Err, sym, ◌∙◌, rules}
use Rattle.std.proofs.lemmas.Result.{err_from_is_err_and}
use Rattle.readback.specs.declared.answer.ReadRefusal.TheVariants.{Faulty}
use Rattle.readback.specs.Answers.{held_by, roomy, summary_of}
use Rattle.readback.proofs.Answering.{answer_granted, answer_refused}
use Rattle.readback.proofs.Judging.{judged_is}
use Rattle.readback.proofs.Telling.{given_by, told_by}
use Rattle.readback.proofs.reading.read.Goals as goal

pub returns-in_err-judge_file : goal.returns-in_err-judge_file
returns-in_err-judge_file g c =
    let l = g.S.ColumnScheme.layout c.args.scheme.now in
    let t = held_by c.args.tables.now in
    let sound = g.met.S.ColumnScheme.sound c.args.scheme.now in
    let room : roomy l t ≡ true = search rules in
    let p = err_from_is_err_and c.from_residual.result c.from_residual.ensures.1 in
    let a = answer_refused l t c.args.file.now room c.in_err-judge_file.field-0.0 (judged_is l c.args.file.now ∙ sym c.in_err-judge_file.ensures) in
    record {
      answer = rw (p.1, p.2) (sym a.0);
      numbered = search rules;
      same = search rules;
      tables = sym a.1;
      given = rw p.1 (given_by l sound t c.args.file.now (Err (Faulty c.in_err-judge_file.field-0.0)) (sym a.0));
      told = rw (p.1, p.2) (told_by l sound t c.args.file.now t (Err (Faulty c.in_err-judge_file.field-0.0)) (sym a.0) (sym a.1));
    }

pub returns-in_err-fill_file : goal.returns-in_err-fill_file
returns-in_err-fill_file g c =
    let l = g.S.ColumnScheme.layout c.args.scheme.now in
    let t = held_by c.args.tables.now in
    let after = held_by c.fill_file.new.tables in
    let sound = g.met.S.ColumnScheme.sound c.args.scheme.now in
    let room : roomy l t ≡ true = search rules in
    let p = err_from_is_err_and c.from_residual-in_err-fill_file.result c.from_residual-in_err-fill_file.ensures.1 in
    let a = answer_granted l t c.args.file.now room (judged_is l c.args.file.now ∙ sym c.in_ok-judge_file.ensures) after (Err c.in_err-fill_file.field-0.0) c.in_err-fill_file.ensures.filled in
    record {
      answer = rw (p.1, p.2) a.0;
      numbered = search rules;
      same = search rules;
      tables = a.1;
      given = rw p.1 (given_by l sound t c.args.file.now (Err (Faulty c.in_err-fill_file.field-0.0)) a.0);
      told = rw (p.1, p.2) (told_by l sound t c.args.file.now after (Err (Faulty c.in_err-fill_file.field-0.0)) a.0 a.1);
    }

pub returns : goal.returns
returns g c =
    let l = g.S.ColumnScheme.layout c.args.scheme.now in
    let t = held_by c.args.tables.now in
    let after = held_by c.fill_file.new.tables in
    let sound = g.met.S.ColumnScheme.sound c.args.scheme.now in
    let room : roomy l t ≡ true = search rules in
    let a = answer_granted l t c.args.file.now room (judged_is l c.args.file.now ∙ sym c.in_ok-judge_file.ensures) after (Ok c.in_ok-fill_file.field-0) c.in_ok-fill_file.ensures.filled in
    record {
      answer = a.0;
      numbered = search rules;
      same = search rules;
      tables = a.1;
      given = given_by l sound t c.args.file.now (Ok c.in_ok-fill_file.field-0) a.0;
      told = told_by l sound t c.args.file.now after (Ok (summary_of c.in_ok-fill_file.field-0)) a.0 a.1;
    }
