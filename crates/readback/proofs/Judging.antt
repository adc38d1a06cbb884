-- The first pass grants just the files that are read.
use Rattle.std.proofs.Common.{◌≡◌, ℕ, List, map, Ok, Err, fold, Result, sym, refl, ap, ◌∙◌}
use Rattle.columns.specs.Layouts.{Layout}
use Rattle.cells.specs.declared.fault.LineFault.{LineFault}
use Rattle.cells.specs.Places.{Place, and_then, start}
use Rattle.cells.proofs.Granted.{no_ok}
use Rattle.grammar.specs.Files.{Reading, Top, column_count, head_of, line_of, read_file, rows_at, top_at, totals_against}
use Rattle.grammar.specs.Lines.{Row, Shown}
use Rattle.readback.specs.Answers.{map_both}
use Rattle.readback.specs.Passes.{Tally, against, judged_at, no_tally, over, tallied}
use Rattle.readback.proofs.Tallies.{publisher_is, sums_are}

-- whether something was read, or the fault
abbrev heard : {A : Type 0} → Result A LineFault → Result (Unit {0}) LineFault
heard r = map_both (λ _. tt) (λ e. e) r

module _ (l : Layout) where
  abbrev judged_by : Top → Result (List Row) LineFault → Result (Unit {0}) LineFault
  judged_by t r =
      and_then (and_then r (λ rows. Ok (fold tallied (no_tally (column_count l)) rows))) (λ j. against l.ytd t.shown.publisher t.shown.figures j)

  abbrev read_by : Top → Result (List Row) LineFault → Result Reading LineFault
  read_by t r =
      and_then r (λ rows. and_then (totals_against l t.shown (map line_of rows)) (λ _. Ok (record { head = head_of t; rows = rows })))

  against_is : (s : Shown) (rows : List Row) → against l.ytd s.publisher s.figures (fold tallied (no_tally (column_count l)) rows) ≡ totals_against l s (map line_of rows)
  against_is s rows =
      (λ i. against l.ytd s.publisher s.figures (record { titles = 0; sums = sums_are (column_count l) rows i; publisher = publisher_is (column_count l) rows i }))

  by_totals : (rd : Reading) (r : Result (Unit {0}) LineFault) → r ≡ heard (and_then r (λ _. Ok rd))
  by_totals rd (Ok tt) = refl
  by_totals rd (Err e) = refl

  by_rows : (t : Top) (r : Result (List Row) LineFault) → judged_by t r ≡ heard (read_by t r)
  by_rows t (Ok rows) =
      against_is t.shown rows ∙ by_totals (record { head = head_of t; rows = rows }) (totals_against l t.shown (map line_of rows))
  by_rows t (Err e) = refl

  by_top : (r : Result (Top × Place) LineFault) → and_then r (λ t. judged_by t.0 (rows_at 512 l t.0.shown.platform t.1)) ≡ heard (and_then r (λ t. read_by t.0 (rows_at 512 l t.0.shown.platform t.1)))
  by_top (Ok t) = by_rows t.0 (rows_at 512 l t.0.shown.platform t.1)
  by_top (Err e) = refl

  pub judged_is : (file : List ℕ) → judged_at l file ≡ map_both (λ _. tt) (λ e. e) (read_file l file)
  judged_is file = by_top (top_at l (start file))

-- the passes over the lines above the titles and over the titles' lines, one after the other
module _ (l : Layout) (file : List ℕ) (t : Top) (q : Place) (top : Ok (t, q) ≡ top_at l (start file)) (n : ℕ) (many : n ≡ column_count l) where
  abbrev tallies : Result Tally LineFault
  tallies = over tallied 512 l t.shown.platform q (no_tally n)

  judged_by_parts : ◌≡◌ {A = Result (Unit {0}) LineFault} (map_both (λ _. tt) (λ e. e) (read_file l file)) (and_then tallies (λ j. against l.ytd t.shown.publisher t.shown.figures j))
  judged_by_parts =
      sym (judged_is l file)
      ∙ ap (λ r. and_then r (λ t. and_then (over tallied 512 l t.0.shown.platform t.1 (no_tally (column_count l))) (λ j. against l.ytd t.0.shown.publisher t.0.shown.figures j))) (sym top)
      ∙ ap (λ k. and_then (over tallied 512 l t.shown.platform q (no_tally k)) (λ j. against l.ytd t.shown.publisher t.shown.figures j)) (sym many)

  pub judged_stop : (e : LineFault) → Err e ≡ tallies → ◌≡◌ {A = Result (Unit {0}) LineFault} (Err e) (map_both (λ _. tt) (λ e. e) (read_file l file))
  judged_stop e wrong = ap (λ r. and_then r (λ j. against l.ytd t.shown.publisher t.shown.figures j)) wrong ∙ sym judged_by_parts

  pub judged_whole : (j : Tally) (r : Result (Unit {0}) LineFault) → Ok j ≡ tallies → r ≡ against l.ytd t.shown.publisher t.shown.figures j → r ≡ map_both (λ _. tt) (λ e. e) (read_file l file)
  judged_whole j r right e = e ∙ ap (λ r. and_then r (λ j. against l.ytd t.shown.publisher t.shown.figures j)) right ∙ sym judged_by_parts

granted : {A : Type 0} (r : Result A LineFault) → heard r ≡ Ok tt → (x : A) × (r ≡ Ok x)
granted (Ok x) h = (x, refl)
granted (Err e) h = absurd (no_ok e tt h)

refused : {A : Type 0} (r : Result A LineFault) (e : LineFault) → heard r ≡ Err e → r ≡ Err e
refused (Ok x) e h = absurd (no_ok e tt (sym h))
refused (Err x) e h = let z : x ≡ e = cc in ap (λ e. Err e) z

pub judged_ok : (l : Layout) (file : List ℕ) → judged_at l file ≡ Ok tt → (rd : Reading) × (read_file l file ≡ Ok rd)
judged_ok l file h = granted (read_file l file) (sym (judged_is l file) ∙ h)

pub judged_err : (l : Layout) (file : List ℕ) (e : LineFault) → judged_at l file ≡ Err e → read_file l file ≡ Err e
judged_err l file e h = refused (read_file l file) e (sym (judged_is l file) ∙ h)
