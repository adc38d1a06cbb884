-- The report is held against the past of the run.
use Rattle.std.proofs.Common.{◌≡◌, true, ◌∷◌, length, is_ok, ap, rules}
use Rattle.runs.specs.Past.{granted, settling}
use Rattle.ledger.specs.Views.{setup}
use Rattle.reports.specs.Answers.{report_about, subject_of}
use Rattle.audit.specs.declared.writing.Written.{Written}
use Rattle.audit.specs.Figures.{Counts, total, unfollowed}
use Rattle.audit.proofs.Settled.{counts_before, total_counts}
use Rattle.audit.proofs.runner.run.Goals as goal

pub returns : goal.returns
returns g c =
    let ran = c.in_ok-ledger.ensures in
    let reported = c.report-written.ensures in
    let ledger = c.in_ok-ledger.ledger in
    let layout = g.S.ColumnScheme.layout in
    let u = setup g.R.ReaderRule g.S.ColumnScheme ledger.last.terms in
    let lines = (report_about (subject_of layout ledger c.run.new.cells c.args.titles.now c.args.header.now)).lines in
    let past = ran.led.5.0 in
    let stands = ran.led.5.2 in
    let counts : is_ok c.report-written.result ≡ true → Counts u (layout c.args.scheme).ytd (unfollowed u past) lines = λ ok. counts_before u past (layout ledger.last.terms.scheme).ytd (layout c.args.scheme).ytd lines (ap (λ s. (layout s).ytd) {y = c.args.scheme} ran.led.1) (reported.law (settling true granted ∷ past) c.run.new.waiting stands ok) in
    record {
      opened = search rules;
      steps = search rules;
      led = record {
        rule_is = ran.led.0;
        scheme_is = ran.led.1;
        titles_are = ran.led.2;
        limit_is = ran.led.3;
        slots_are = ran.led.4;
        past = past;
        told = search rules;
        stands = stands;
        writing = search rules;
        counts = counts;
        read_total = total_counts (λ (w : Written). w.titles ≡ ledger.last.terms.titles) (total u.columns lines) (length (unfollowed u past)) c.report-written.result reported.writing.found (λ ok. (counts ok).all);
        tally = reported.tally (settling true granted ∷ past) c.run.new.waiting stands;
      };
    }
