-- The lines of a count table, and what they sum up to.
use Rattle.std.proofs.Common.{◌≡◌, ℕ, zero, suc, ◌+◌, ◌<◌, Bool, List, [], ◌∷◌, map, length, get_or, sum_by, sym, refl, ap, ◌∙◌, arith}
use Rattle.std.proofs.lemmas.List.FromFn.{get_or-map-range_with_len}
use Rattle.std.proofs.lemmas.List.{get_or-map, length-map}
use Rattle.std.proofs.lemmas.List.Sums.{sum_by-cons}
use Rattle.std.specs.List.{range_with_len}
use Rattle.titles.specs.declared.title.Title.{Title}
use Rattle.titles.specs.Titles.{Entry, entry_of}
use Rattle.reports.specs.Counting.{html_sum, pdf_sum}
use Rattle.reports.specs.Reports.{Line, Usage, column_sum, totals}
use Rattle.reports.specs.Tables.{html_at, line_of, line_with, lines_from, pdf_at, usage_by}
use Rattle.reports.specs.Written.{title_line}
use Rattle.reports.proofs.Sums.{map_counting_same, sum_by_plus, sum_by_swap}

module _ (cells : List ℕ) (n : ℕ) where
  pub length_lines : (t : ℕ) (es : List Entry) → length (lines_from cells n t es) ≡ length es
  length_lines t [] = refl
  length_lines t (e ∷ es) = ap suc (length_lines (t + 1) es)

  pub line_at : (t : ℕ) (es : List Entry) (i j : ℕ) (d : Line) (e : Entry) → t + i ≡ j → i < length es → get_or (lines_from cells n t es) i d ≡ line_of cells n j (get_or es i e)
  line_at t [] i j d e is h = absurd (omega arith)
  line_at t (x ∷ es) zero j d e is h = ap (λ k. line_of cells n k x) (let z : t ≡ j = omega arith in z)
  line_at t (x ∷ es) (suc i) j d e is h = line_at (t + 1) es i j d e (omega arith) (omega arith)

  pub line_publishers : (t : ℕ) (ts : List Title) → map (λ (l : Line). l.publisher) (lines_from cells n t (map entry_of ts)) ≡ map (λ (x : Title). x.publisher.now) ts
  line_publishers t [] = refl
  line_publishers t (x ∷ ts) = ap (λ ps. x.publisher.now ∷ ps) (line_publishers (t + 1) ts)

  -- the numbers of title t
  abbrev usage_at : ℕ → Usage
  usage_at t = usage_by (html_at cells n t) (pdf_at cells n t) n

  sum_lines : (f : Usage → ℕ) (t : ℕ) (es : List Entry) → sum_by (λ l. f l.usage) (lines_from cells n t es) ≡ sum_by (λ k. f (usage_at k)) (range_with_len t (length es))
  sum_lines f t [] = refl
  sum_lines f t (e ∷ es) =
      sum_by-cons (λ (l : Line). f l.usage) (line_of cells n t e) (lines_from cells n (t + 1) es) ∙ ap (λ m. f (usage_at t) + m) (sum_lines f (t + 1) es) ∙ sym (sum_by-cons (λ k. f (usage_at k)) t (range_with_len (t + 1) (length es)))

  column_total : (es : List Entry) (c : ℕ) → c < n → column_sum (lines_from cells n 0 es) c ≡ html_sum cells n (length es) c + pdf_sum cells n (length es) c
  column_total es c h =
      sum_lines (λ u. get_or u.columns c 0) 0 es
      ∙ (λ i. sum_by (λ k. get_or-map-range_with_len (λ m. html_at cells n k m + pdf_at cells n k m) 0 n c c 0 h (omega arith) i) (range_with_len 0 (length es)))
      ∙ sum_by_plus (λ k. html_at cells n k c) (λ k. pdf_at cells n k c) (range_with_len 0 (length es))

  pub totals_are : (es : List Entry) → totals n (lines_from cells n 0 es) ≡ usage_by (html_sum cells n (length es)) (pdf_sum cells n (length es)) n
  totals_are es =
      let columns = map_counting_same (column_sum (lines_from cells n 0 es)) (λ c. html_sum cells n (length es) c + pdf_sum cells n (length es) c) n (column_total es) in
      let html = sum_lines (λ u. u.html) 0 es ∙ sum_by_swap (λ k c. html_at cells n k c) (range_with_len 0 (length es)) (range_with_len 0 n) in
      let pdf = sum_lines (λ u. u.pdf) 0 es ∙ sum_by_swap (λ k c. pdf_at cells n k c) (range_with_len 0 (length es)) (range_with_len 0 n) in
      λ i. record { columns = columns i; html = html i; pdf = pdf i }

  -- the line of a title, as it stands among all lines
  pub line_is : (ytd : Bool) (platform : List ℕ) (titles : List Title) (i : ℕ) (d : Title) (u : Usage) → i < length titles → u ≡ usage_by (html_at cells n i) (pdf_at cells n i) n → title_line ytd platform (line_with (entry_of (get_or titles i d)) u) ≡ title_line ytd platform (get_or (lines_from cells n 0 (map entry_of titles)) i (line_of cells n i (entry_of d)))
  line_is ytd platform titles i d u h is =
      let long = length-map titles entry_of in
      ap (λ v. title_line ytd platform (line_with (entry_of (get_or titles i d)) v)) is ∙ sym (ap (title_line ytd platform) (line_at 0 (map entry_of titles) i i (line_of cells n i (entry_of d)) (entry_of d) (omega arith) (omega arith) ∙ ap (line_of cells n i) (get_or-map entry_of titles i d (entry_of d) h)))

-- the numbers of all titles, column by column, are those of the line for all journals
pub summed : (cells : List ℕ) (n : ℕ) (titles : List Title) → usage_by (html_sum cells n (length titles)) (pdf_sum cells n (length titles)) n ≡ totals n (lines_from cells n 0 (map entry_of titles))
summed cells n titles =
    sym (totals_are cells n (map entry_of titles) ∙ ap (λ m. usage_by (html_sum cells n m) (pdf_sum cells n m) n) (length-map titles entry_of))
