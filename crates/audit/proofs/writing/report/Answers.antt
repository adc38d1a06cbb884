-- The writer's own contract, what is read back, and what follows for a ledger that stands.
use Rattle.std.proofs.Common.{◌≡◌, ◌++◌, length, take, drop, Ok, sym, refl, ap, ◌∙◌, subst, arith, rules}
use Rattle.ledger.specs.Views.{settled_books_of, setup}
use Rattle.reports.specs.Answers.{answer, report_about, subject_of, text_about}
use Rattle.reports.specs.Reports.{Report}
use Rattle.grammar.specs.Files.{read_file}
use Rattle.readback.specs.declared.answer.ReadRefusal.TheVariants.{Faulty}
use Rattle.readback.specs.Answers.{ReadAs, map_both}
use Rattle.readback.proofs.Telling.{read_as}
use Rattle.audit.specs.declared.checking.Found.{Found}
use Rattle.audit.specs.Readings.{found_in}
use Rattle.audit.proofs.Settled.{counts_of, tally_is}
use Rattle.audit.proofs.Sheets.{sums_written}
use Rattle.audit.proofs.Texts.{titles_found, total_found, written_front, written_length, written_read}
use Rattle.audit.proofs.writing.report.Goals as goal

pub slice_bounds-read_back-end : goal.slice_bounds-read_back-end
slice_bounds-read_back-end g c =
    let s = subject_of g.S.ColumnScheme.layout c.args.ledger.now c.args.cells.now c.args.titles.now c.args.header.now in
    let is : Ok c.in_ok-length.length ≡ answer s (length c.args.out.now) = search rules in
    omega (arith, (written_length s (length c.args.out.now) c.in_ok-length.length is).1, c.write.auto.out)

pub unwrap-found-requires : goal.unwrap-found-requires
unwrap-found-requires g c =
    let layout = g.S.ColumnScheme.layout in
    let ledger = c.args.ledger.now in
    let s = subject_of layout ledger c.args.cells.now c.args.titles.now c.args.header.now in
    let n = c.in_ok-length.length in
    let room = length c.args.out.now in
    let is : Ok n ≡ answer s room = search rules in
    let w = written_read s room n (g.met.S.ColumnScheme.sound ledger.last.terms.scheme) ledger.last.terms.some.0 ledger.last.terms.few.0 is in
    let buffer : c.write.new.out ≡ text_about s ++ drop n c.args.out.now = c.in_ok-length.ensures.buffer in
    let front : take n c.write.new.out ≡ text_about s = ap (take n) buffer ∙ written_front s room n c.args.out.now is in
    let got : c.read_back.result ≡ Ok (found_in w.0) =
    c.read_back.ensures ∙ (λ i. map_both found_in Faulty (read_file (layout (c.scheme.ensures i)) (front i))) ∙ ap (map_both found_in Faulty) w.1 in
    search (rules, got)

pub returns : goal.returns
returns g c =
    let layout = g.S.ColumnScheme.layout in
    let ledger = c.args.ledger.now in
    let cells = c.args.cells.now in
    let s = subject_of layout ledger cells c.args.titles.now c.args.header.now in
    let u = setup g.R.ReaderRule g.S.ColumnScheme ledger.last.terms in
    let l = s.layout in
    let lines = (report_about s).lines in
    let n = c.in_ok-length.length in
    let room = length c.args.out.now in
    let is : Ok n ≡ answer s room = search rules in
    let w = written_read s room n (g.met.S.ColumnScheme.sound ledger.last.terms.scheme) ledger.last.terms.some.0 ledger.last.terms.few.0 is in
    let buffer : c.write.new.out ≡ text_about s ++ drop n c.args.out.now = c.in_ok-length.ensures.buffer in
    let front : take n c.write.new.out ≡ text_about s = ap (take n) buffer ∙ written_front s room n c.args.out.now is in
    let got : c.read_back.result ≡ Ok (found_in w.0) =
    c.read_back.ensures ∙ (λ i. map_both found_in Faulty (read_file (layout (c.scheme.ensures i)) (front i))) ∙ ap (map_both found_in Faulty) w.1 in
    let found : c.unwrap-found.result ≡ found_in w.0 = let k = sym c.unwrap-found.ensures ∙ got in cc in
    let sums = sums_written s room (Ok n) is refl in
    record {
      writing = record {
        answer = is;
        numbered = tt;
        buffer = buffer;
        sums = λ ok. sums;
        accepted = λ ok. subst (λ (r : Report). ReadAs l (text_about s) r) w.2 (read_as l (text_about s) w.0 w.1);
        found = (
          ap (λ (f : Found). f.titles) found ∙ titles_found l (text_about s) w.0 w.1 (report_about s) w.2 ∙ sums.many,
          ap (λ (f : Found). f.total) found ∙ total_found l (text_about s) w.0 w.1 (report_about s) w.2,
        );
      };
      law = λ p w stands ok. counts_of u p (settled_books_of ledger w cells) stands refl lines sums l.ytd;
      tally = λ p w stands ok. tally_is u p (settled_books_of ledger w cells) stands refl lines sums;
    }
