-- No number of a title is over that of all journals in its column.
use Rattle.std.proofs.Common.{◌≡◌, ℕ, ◌+◌, ◌<◌, ◌≤◌, Bool, true, false, List, [], ◌∷◌, map, length, sum_by, sum, sym, refl, ap, ◌∙◌, zero-add, subst, arith}
use Rattle.std.proofs.lemmas.List.FromFn.{get_or-range_with_len, length-range_with_len}
use Rattle.std.proofs.lemmas.List.Folds.{list_all-append}
use Rattle.std.proofs.lemmas.List.Sums.{get_or-le-sum_by, sum-map, sum_by-le-sum_by}
use Rattle.std.proofs.lemmas.Bool.Decides.{nat_tests}
use Rattle.std.specs.List.{range_with_len, flat_map, list_all}
use Rattle.titles.specs.Titles.{Entry}
use Rattle.reports.specs.Counting.{html_sum, pdf_sum}
use Rattle.reports.specs.Reports.{Line, is_low, shown_numbers, table_numbers, totals, ytd_numbers}
use Rattle.reports.specs.Tables.{html_at, line_of, lines_from, pdf_at, usage_by}
use Rattle.reports.proofs.Lines.{totals_are}

lower_each : (f g : ℕ → ℕ) → ((c : ℕ) → f c ≤ g c) → (cs : List ℕ) → list_all is_low (map g cs) ≡ true → list_all is_low (map f cs) ≡ true
lower_each f g le [] low = refl
lower_each f g le (c ∷ cs) low = let h = le c in let rest = lower_each f g le cs in grind (arith, nat_tests)

-- if one line's formats are at most another's in each column, it shows no higher number
module _ (html pdf html' pdf' : ℕ → ℕ) (h : (c : ℕ) → html c ≤ html' c) (p : (c : ℕ) → pdf c ≤ pdf' c) (n : ℕ) where
  le : (c : ℕ) → html c + pdf c ≤ html' c + pdf' c
  le c = omega (arith, h c, p c)

  lower_total : sum (map (λ c. html c + pdf c) (range_with_len 0 n)) ≤ sum (map (λ c. html' c + pdf' c) (range_with_len 0 n))
  lower_total =
      omega (arith, sum-map (λ c. html c + pdf c) (range_with_len 0 n), sum-map (λ c. html' c + pdf' c) (range_with_len 0 n), sum_by-le-sum_by (λ c. html c + pdf c) (λ c. html' c + pdf' c) (range_with_len 0 n) le)

  lower_ytd : (ytd : Bool) → list_all is_low (ytd_numbers ytd (usage_by html' pdf' n)) ≡ true → list_all is_low (ytd_numbers ytd (usage_by html pdf n)) ≡ true
  lower_ytd false low = refl
  lower_ytd true low =
      let total = lower_total in
      let htmls = sum_by-le-sum_by html html' (range_with_len 0 n) h in
      let pdfs = sum_by-le-sum_by pdf pdf' (range_with_len 0 n) p in
      grind (arith, nat_tests)

  lower_line : (ytd : Bool) → list_all is_low (shown_numbers ytd (usage_by html' pdf' n)) ≡ true → list_all is_low (shown_numbers ytd (usage_by html pdf n)) ≡ true
  lower_line ytd low =
      let each = lower_each (λ c. html c + pdf c) (λ c. html' c + pdf' c) le (range_with_len 0 n) in
      let rest = lower_ytd ytd in
      grind (arith, nat_tests, list_all-append)

part_le : (f : ℕ → ℕ) (t m : ℕ) → t < m → f t ≤ sum_by f (range_with_len 0 m)
part_le f t m h =
    subst (λ k. f k ≤ sum_by f (range_with_len 0 m)) (get_or-range_with_len 0 m t 0 h ∙ zero-add t) (get_or-le-sum_by f (range_with_len 0 m) t 0 (omega (arith, length-range_with_len 0 m)))

module _ (cells : List ℕ) (n m : ℕ) (ytd : Bool) (low : list_all is_low (shown_numbers ytd (usage_by (html_sum cells n m) (pdf_sum cells n m) n)) ≡ true) where
  low_lines : (t : ℕ) (es : List Entry) → t + length es ≡ m → list_all is_low (flat_map (λ (l : Line). shown_numbers ytd l.usage) (lines_from cells n t es)) ≡ true
  low_lines t [] is = refl
  low_lines t (e ∷ es) is =
      let here = lower_line (html_at cells n t) (pdf_at cells n t) (html_sum cells n m) (pdf_sum cells n m) (λ c. part_le (λ k. html_at cells n k c) t m (omega arith)) (λ c. part_le (λ k. pdf_at cells n k c) t m (omega arith)) n ytd low in
      rw (list_all-append is_low (shown_numbers ytd (line_of cells n t e).usage) (flat_map (λ (l : Line). shown_numbers ytd l.usage) (lines_from cells n (t + 1) es)), here) (low_lines (t + 1) es (omega arith))

module _ (cells : List ℕ) (n : ℕ) (es : List Entry) (ytd : Bool) where
  abbrev lines : List Line
  lines = lines_from cells n 0 es

  -- so the line for all journals decides
  pub low_table : list_all is_low (table_numbers ytd n lines) ≡ list_all is_low (shown_numbers ytd (totals n lines))
  low_table =
      let each : list_all is_low (shown_numbers ytd (totals n lines)) ≡ true → list_all is_low (flat_map (λ (l : Line). shown_numbers ytd l.usage) lines) ≡ true = λ low. low_lines cells n (length es) ytd (sym (ap (λ u. list_all is_low (shown_numbers ytd u)) (totals_are cells n es)) ∙ low) 0 es (omega arith) in
      let both = list_all-append is_low (shown_numbers ytd (totals n lines)) (flat_map (λ (l : Line). shown_numbers ytd l.usage) lines) in
      grind (arith, nat_tests)
