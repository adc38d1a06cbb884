-- What a reading answers, by what each pass came to.
use Rattle.std.proofs.Common.{◌≡◌, ℕ, true, false, List, length, Ok, Err, Result, sym, ap, ◌∙◌}
use Rattle.std.proofs.lemmas.Bool.{cond-false, cond-true}
use Rattle.columns.specs.Layouts.{Layout}
use Rattle.reports.specs.Answers as writing
use Rattle.reports.specs.Reports.{Head}
use Rattle.cells.specs.declared.fault.LineFault.{LineFault}
use Rattle.cells.proofs.Granted.{no_ok, ok_same}
use Rattle.grammar.specs.Files.{Reading, read_file}
use Rattle.readback.specs.declared.answer.ReadOut.{ReadOut}
use Rattle.readback.specs.declared.answer.ReadRefusal.TheVariants.{ShortTables, Faulty}
use Rattle.readback.specs.Answers.{Tables, answer, filled_by, filled_with, map_both, roomy, summary, summary_of, tables_after}
use Rattle.readback.specs.Passes.{Filling, filled_at, judged_at, out_filled}
use Rattle.readback.proofs.Filling.{filled_is}
use Rattle.readback.proofs.Judging.{judged_err, judged_ok}

module _ (l : Layout) (t : Tables) (file : List ℕ) where
  -- the file is not looked at
  pub answer_short : roomy l t ≡ false → (answer l t file ≡ Err ShortTables) × (tables_after l t file ≡ t)
  answer_short h =
      (cond-false (roomy l t) (map_both summary Faulty (read_file l file)) (Err ShortTables) h, cond-false (roomy l t) (filled_with l t (read_file l file)) t h)

  module _ (h : roomy l t ≡ true) where
    answer_is : (r : Result Reading LineFault) → read_file l file ≡ r → (answer l t file ≡ map_both summary Faulty r) × (tables_after l t file ≡ filled_with l t r)
    answer_is r is =
        (cond-true (roomy l t) (map_both summary Faulty (read_file l file)) (Err ShortTables) h ∙ ap (map_both summary Faulty) is, cond-true (roomy l t) (filled_with l t (read_file l file)) t h ∙ ap (filled_with l t) is)

    pub answer_refused : (e : LineFault) → judged_at l file ≡ Err e → (answer l t file ≡ Err (Faulty e)) × (tables_after l t file ≡ t)
    answer_refused e judged = answer_is (Err e) (judged_err l file e judged)

    -- what the second pass leaves of a reading
    abbrev filled : Reading → Head × Filling
    filled rd = (rd.head, record { count = length rd.rows; tables = filled_by l t rd.rows })

    out_is : (tables : Tables) (r : Result ReadOut LineFault) (rd : Reading) → out_filled tables r ≡ Ok (filled rd) → (map_both summary_of Faulty r ≡ Ok (summary rd)) × (tables ≡ filled_by l t rd.rows)
    out_is tables (Ok out) rd e =
        let is = ok_same (writing.head_of out.header, record { count = out.titles; tables = tables }) (filled rd) e in
        ((λ i. Ok (record { head = (is i).0; titles = (is i).1.count })), (λ i. (is i).1.tables))
    out_is tables (Err fault) rd e = absurd (no_ok fault (filled rd) e)

    -- the second pass finds again what the first has judged
    pub answer_granted : judged_at l file ≡ Ok tt → (tables : Tables) (r : Result ReadOut LineFault) → out_filled tables r ≡ filled_at l file t → (map_both summary_of Faulty r ≡ answer l t file) × (tables ≡ tables_after l t file)
    answer_granted judged tables r filled =
        let read = judged_ok l file judged in
        let rd = read.0 in
        let out = out_is tables r rd (filled ∙ filled_is l file t rd read.1 h) in
        let is = answer_is (Ok rd) read.1 in
        (out.0 ∙ sym is.0, out.1 ∙ sym is.1)
