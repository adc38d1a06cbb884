-- A report that was written, read back.
use Rattle.std.proofs.Common.{◌≡◌, ℕ, ◌+◌, ◌≤◌, Bool, true, false, List, [], ◌∷◌, ◌++◌, map, length, get_or, take, drop, is_ok, Some, None, Ok, sum_by, sum, Option, sym, refl, ap, ◌∙◌, arith}
use Rattle.std.proofs.lemmas.List.FromFn.{fill_by_all}
use Rattle.std.proofs.lemmas.List.{length-map, take_at}
use Rattle.std.proofs.lemmas.List.Sums.{sum-map, sum_by-cons}
use Rattle.std.specs.List.{range_with_len, AllByRecursion}
use Rattle.columns.specs.Layouts as layouts
use Rattle.columns.specs.Layouts.{Layout}
use Rattle.reports.specs.declared.refusal.WriteRefusal.{WriteRefusal}
use Rattle.reports.specs.Answers.{Subject, answer, first_ground, grounds, outcome, report_about, text_about}
use Rattle.reports.specs.Reports.{Line, Report, column_sum}
use Rattle.reports.proofs.Sums.{sum_by_swap}
use Rattle.grammar.specs.Files.{Reading, column_count, line_of, read_file, reported}
use Rattle.grammar.specs.Lines.{Row}
use Rattle.grammar.specs.Shown.{shown_lines, shown_of}
use Rattle.grammar.proofs.Shows.{columns_kept, length_shown}
use Rattle.grammar.proofs.Writes.{written_is_read}
use Rattle.readback.proofs.Rows.{EachFits, read_fit}
use Rattle.audit.specs.Figures.{total}
use Rattle.audit.specs.Readings.{found_in}
use Rattle.audit.proofs.Sheets.{buffer_holds, written_counted}

-- the numbers of a line, summed by their columns
by_columns : (n : ℕ) (xs : List ℕ) → length xs ≡ n → sum_by (λ c. get_or xs c 0) (range_with_len 0 n) ≡ sum xs
by_columns n xs e = sym (sum-map (λ c. get_or xs c 0) (range_with_len 0 n)) ∙ ap sum (sym (fill_by_all (λ c. get_or xs c 0) xs n 0 e (λ k h. refl)))

each_line : (n : ℕ) (ls : List Line) → AllByRecursion (λ l. length l.usage.columns ≡ n) ls → sum_by (λ (l : Line). sum_by (λ c. get_or l.usage.columns c 0) (range_with_len 0 n)) ls ≡ sum_by (λ (l : Line). sum l.usage.columns) ls
each_line n [] fits = refl
each_line n (l ∷ ls) fits =
    sum_by-cons (λ (l : Line). sum_by (λ c. get_or l.usage.columns c 0) (range_with_len 0 n)) l ls
    ∙ (λ i. by_columns n l.usage.columns fits.0 i + each_line n ls fits.1 i)
    ∙ sym (sum_by-cons (λ (l : Line). sum l.usage.columns) l ls)

-- the total of a report, summed title by title
pub total_by_titles : (n : ℕ) (ls : List Line) → AllByRecursion (λ l. length l.usage.columns ≡ n) ls → total n ls ≡ sum_by (λ (l : Line). sum l.usage.columns) ls
total_by_titles n ls fits =
    sum-map (column_sum ls) (range_with_len 0 n)
    ∙ sym (sum_by_swap (λ (l : Line) c. get_or l.usage.columns c 0) ls (range_with_len 0 n))
    ∙ each_line n ls fits

rows_sum : (rows : List Row) → sum_by (λ (l : Line). sum l.usage.columns) (map line_of rows) ≡ sum_by (λ (r : Row). sum r.usage.columns) rows
rows_sum [] = refl
rows_sum (r ∷ rows) =
    sum_by-cons (λ (l : Line). sum l.usage.columns) (line_of r) (map line_of rows) ∙ ap (λ n. sum r.usage.columns + n) (rows_sum rows) ∙ sym (sum_by-cons (λ (r : Row). sum r.usage.columns) r rows)

lines_fit : (l : Layout) (rows : List Row) → EachFits l rows → AllByRecursion (λ (x : Line). length x.usage.columns ≡ column_count l) (map line_of rows)
lines_fit l [] fits = tt
lines_fit l (r ∷ rows) fits = (fits.0.columns, lines_fit l rows fits.1)

total_shown : (ytd : Bool) (n : ℕ) (ls : List Line) → total n (shown_lines ytd ls) ≡ total n ls
total_shown true n ls = refl
total_shown false n ls = ap sum (columns_kept n ls)

-- what is found in a report's text is what the report has
module _ (l : Layout) (file : List ℕ) (rd : Reading) (read : read_file l file ≡ Ok rd) (r : Report) (shows : reported rd ≡ shown_of l r) where
  lines_read : map line_of rd.rows ≡ shown_lines l.ytd r.lines
  lines_read = ap (λ (x : Report). x.lines) shows

  pub titles_found : (found_in rd).titles ≡ length r.lines
  titles_found = sym (length-map rd.rows line_of) ∙ ap length lines_read ∙ length_shown l.ytd r.lines

  pub total_found : (found_in rd).total ≡ total (column_count l) r.lines
  total_found =
      sym (rows_sum rd.rows)
      ∙ sym (total_by_titles (column_count l) (map line_of rd.rows) (lines_fit l rd.rows (read_fit l file rd read).each))
      ∙ ap (total (column_count l)) lines_read
      ∙ total_shown l.ytd (column_count l) r.lines

-- a report that was written of a ledger with 1 to 512 titles is read
pub written_read : (s : Subject) (room n : ℕ) → layouts.Sound s.layout → 1 ≤ s.titles → s.titles ≤ 512 → Ok n ≡ answer s room → (rd : Reading) × (read_file s.layout (text_about s) ≡ Ok rd) × (reported rd ≡ shown_of s.layout (report_about s))
written_read s room n sound some most e =
    let many = written_counted s room (sym (ap is_ok e)) in
    written_is_read s room n sound (omega (arith, many)) (omega (arith, many)) (sym e)

outcome_length : (g : Option WriteRefusal) (m n : ℕ) → Ok n ≡ outcome g m → n ≡ m
outcome_length None m n e = cc
outcome_length (Some g) m n e = cc

-- its length is that of its text, which finds room
pub written_length : (s : Subject) (room n : ℕ) → Ok n ≡ answer s room → (n ≡ length (text_about s)) × (n ≤ room)
written_length s room n e =
    let z = outcome_length (first_ground (grounds s room)) (length (text_about s)) n e in
    (z, omega (arith, z, buffer_holds s room (sym (ap is_ok e))))

-- and the text stands at the front of the buffer
pub written_front : (s : Subject) (room n : ℕ) (old : List ℕ) → Ok n ≡ answer s room → take n (text_about s ++ drop n old) ≡ text_about s
written_front s room n old e = take_at (text_about s) (drop n old) n (sym (written_length s room n e).0)
