-- The lines of a report, as sums of cells.
use Rattle.std.proofs.Common.{◌≡◌, ℕ, ◌+◌, ◌<◌, ◌≤◌, Bool, true, false, eqb, leb, List, [], ◌∷◌, length, get_or, is_ok, Some, None, sum_by, sum, Option, Result, sym, refl, ap, ◌∙◌, subst, arith}
use Rattle.std.specs.List.{range_with_len, AllByRecursion}
use Rattle.std.proofs.lemmas.List.FromFn.{get_or-map-range_with_len}
use Rattle.std.proofs.lemmas.List.Sums.{sum-map}
use Rattle.std.proofs.lemmas.Bool.{eqb-true, leb-true}
use Rattle.titles.specs.Titles.{Entry, new_entry}
use Rattle.reports.specs.declared.refusal.WriteRefusal.{WriteRefusal}
use Rattle.reports.specs.declared.refusal.WriteRefusal.TheVariants.{Buffer, TitleCount}
use Rattle.reports.specs.Answers.{Subject, answer, columns_of, first_ground, grounds, outcome, report_about, text_about, unless}
use Rattle.reports.specs.Counting.{html_sum, pdf_sum}
use Rattle.reports.specs.Reports.{Line}
use Rattle.reports.specs.Tables.{html_at, line_of, lines_from, pdf_at}
use Rattle.reports.proofs.Lines.{length_lines, line_at, totals_are}
use Rattle.reports.proofs.Sums.{sum_by_plus, sum_by_swap}
use Rattle.audit.specs.Figures.{Sums, both_at, total}

module _ (cells : List ℕ) (n : ℕ) (es : List Entry) where
  abbrev lines : List Line
  lines = lines_from cells n 0 es

  line_of_lem : (t : ℕ) (d : Line) → t < length es → get_or lines t d ≡ line_of cells n t (get_or es t (new_entry [] [] None None))
  line_of_lem t d lt = line_at cells n 0 es t t d (new_entry [] [] None None) (omega arith) lt

  both_sums : (c : ℕ) → html_sum cells n (length es) c + pdf_sum cells n (length es) c ≡ sum_by (λ t. both_at cells n t c) (range_with_len 0 (length es))
  both_sums c = sym (sum_by_plus (λ t. html_at cells n t c) (λ t. pdf_at cells n t c) (range_with_len 0 (length es)))

  all_cells : total n lines ≡ sum_by (λ t. sum_by (both_at cells n t) (range_with_len 0 n)) (range_with_len 0 (length es))
  all_cells =
      (λ i. sum (totals_are cells n es i).columns)
      ∙ sum-map (λ c. html_sum cells n (length es) c + pdf_sum cells n (length es) c) (range_with_len 0 n)
      ∙ (λ i. sum_by (λ c. both_sums c i) (range_with_len 0 n))
      ∙ sym (sum_by_swap (λ t c. both_at cells n t c) (range_with_len 0 (length es)) (range_with_len 0 n))

  sums_of_lem : (m : ℕ) → length es ≡ m → Sums cells m n lines
  sums_of_lem m e = subst (λ k. Sums cells k n lines) e (record {
    many = length_lines cells n 0 es;
    title_column = λ t c d lt in-n. (λ i. get_or (line_of_lem t d lt i).usage.columns c 0) ∙ get_or-map-range_with_len (both_at cells n t) 0 n c c 0 in-n (omega arith);
    title_total = λ t d lt. (λ i. sum (line_of_lem t d lt i).usage.columns) ∙ sum-map (both_at cells n t) (range_with_len 0 n);
    title_html = λ t d lt. λ i. (line_of_lem t d lt i).usage.html;
    title_pdf = λ t d lt. λ i. (line_of_lem t d lt i).usage.pdf;
    column = λ c in-n. (λ i. get_or (totals_are cells n es i).columns c 0) ∙ get_or-map-range_with_len (λ k. html_sum cells n (length es) k + pdf_sum cells n (length es) k) 0 n c c 0 in-n (omega arith) ∙ both_sums c;
    html = (λ i. (totals_are cells n es i).html) ∙ sym (sum_by_swap (λ t c. html_at cells n t c) (range_with_len 0 (length es)) (range_with_len 0 n));
    pdf = (λ i. (totals_are cells n es i).pdf) ∙ sym (sum_by_swap (λ t c. pdf_at cells n t c) (range_with_len 0 (length es)) (range_with_len 0 n));
    all = all_cells;
  })

-- where none is the first ground, there is none
no_grounds : (gs : List (Option WriteRefusal)) → first_ground gs ≡ None → AllByRecursion (λ g. g ≡ None) gs
no_grounds [] e = tt
no_grounds (None ∷ gs) e = (refl, no_grounds gs e)
no_grounds (Some g ∷ gs) e = cc

no_ground : (b : Bool) (g : WriteRefusal) → unless b g ≡ None → b ≡ true
no_ground true g e = refl
no_ground false g e = cc

granted_none : (g : Option WriteRefusal) (n : ℕ) → is_ok (outcome g n) ≡ true → g ≡ None
granted_none None n e = refl
granted_none (Some g) n e = cc

-- a report that is written has as many titles as the ledger
pub written_counted : (s : Subject) (room : ℕ) → is_ok (answer s room) ≡ true → length s.entries ≡ s.titles
written_counted s room e =
    let none = no_grounds (grounds s room) (granted_none (first_ground (grounds s room)) (length (text_about s)) e) in
    eqb-true (length s.entries) s.titles (no_ground (eqb (length s.entries) s.titles) TitleCount none.1.1.1.0)

-- the buffer has room for it
pub buffer_holds : (s : Subject) (room : ℕ) → is_ok (answer s room) ≡ true → length (text_about s) ≤ room
buffer_holds s room e =
    let none = no_grounds (grounds s room) (granted_none (first_ground (grounds s room)) (length (text_about s)) e) in
    leb-true (length (text_about s)) room (no_ground (leb (length (text_about s)) room) Buffer none.1.1.1.1.1.1.1.0)

pub sums_written : (s : Subject) (room : ℕ) (r : Result ℕ WriteRefusal) → r ≡ answer s room → is_ok r ≡ true → Sums s.cells s.titles (columns_of s) (report_about s).lines
sums_written s room r is ok = sums_of_lem s.cells (columns_of s) s.entries s.titles (written_counted s room (sym (ap is_ok is) ∙ ok))
