-- Requests of which each stands in one cell: what the cells come to, by title, by column, by format, and in all.
use Rattle.std.proofs.Common.{◌≡◌, ℕ, ◌+◌, ◌<◌, Bool, true, false, cond, ◌&&◌, List, length, sum_by, count_by, refl, ap, ◌∙◌}
use Rattle.std.specs.List.{range_with_len, AllByRecursion}
use Rattle.std.proofs.ByRecursion.{All-weaker}
use Rattle.std.proofs.lemmas.Bool.{and_right}
use Rattle.records.specs.declared.request.Request.{Request}
use Rattle.runs.specs.Rules.{Setup, in_cell, is_column}
use Rattle.runs.specs.Law.{Acceptable}
use Rattle.runs.proofs.Cells.{format_high, format_low}
use Rattle.runs.proofs.Standing.{and_true}
use Rattle.reports.specs.Tables.{html_at, pdf_at}
use Rattle.audit.specs.Figures.{both_at, in_column, of_format, of_title}
use Rattle.audit.proofs.Shares.{count_all, either, halved, once, parted, sum_by_counting_same}

-- of the titles, the columns and the formats, one each is the request's own
module _ (u : Setup) (n : ℕ) (r : Request) (a : Acceptable u n r) where
  own_title : (q : Bool) → sum_by (λ t. cond (of_title t r && q) 1 0) (range_with_len 0 u.titles) ≡ cond q 1 0
  own_title q = once (λ b. b && q) refl r.journal u.titles a.title

  own_column : (h : Bool → Bool) → h false ≡ false → sum_by (λ c. cond (h (in_column u c r)) 1 0) (range_with_len 0 u.columns) ≡ cond (h true) 1 0
  own_column h off =
      (λ i. sum_by (λ c. cond (h (is_column c (a.place i))) 1 0) (range_with_len 0 u.columns)) ∙ once h off a.column u.columns a.within

  own_format : (p q : Bool) → cond (p && (q && of_format 1 r)) 1 0 + cond (p && (q && of_format 2 r)) 1 0 ≡ cond (p && q) 1 0
  own_format p q = either p q r.format (format_low u n r a) (format_high u n r a)

-- a count table that holds the requests rs, of which each has a cell
module _ (u : Setup) (n : ℕ) (rs : List Request) (accepted : AllByRecursion (Acceptable u n) rs) where
  module _ (cells : List ℕ) (html_is : (t c : ℕ) → t < u.titles → c < u.columns → html_at cells u.columns t c ≡ count_by (in_cell u t c 1) rs) (pdf_is : (t c : ℕ) → t < u.titles → c < u.columns → pdf_at cells u.columns t c ≡ count_by (in_cell u t c 2) rs) where
    pub both_are : (t c : ℕ) → t < u.titles → c < u.columns → both_at cells u.columns t c ≡ count_by (λ r. of_title t r && in_column u c r) rs
    both_are t c in-t in_c =
        (λ i. html_is t c in-t in_c i + pdf_is t c in-t in_c i)
        ∙ halved (λ r. of_title t r && in_column u c r) rs (in_cell u t c 1) (in_cell u t c 2)
        (All-weaker (Acceptable u n) (λ r. cond (in_cell u t c 1 r) 1 0 + cond (in_cell u t c 2 r) 1 0 ≡ cond (of_title t r && in_column u c r) 1 0) (λ r a. own_format u n r a (of_title t r) (in_column u c r)) rs accepted)

    pub title_is : (t : ℕ) → t < u.titles → sum_by (both_at cells u.columns t) (range_with_len 0 u.columns) ≡ count_by (of_title t) rs
    title_is t in-t =
        sum_by_counting_same (both_at cells u.columns t) (λ c. count_by (λ r. of_title t r && in_column u c r) rs) u.columns (λ c in_c. both_are t c in-t in_c)
        ∙ parted (of_title t) rs (λ c r. of_title t r && in_column u c r) u.columns
        (All-weaker (Acceptable u n) (λ r. sum_by (λ c. cond (of_title t r && in_column u c r) 1 0) (range_with_len 0 u.columns) ≡ cond (of_title t r) 1 0) (λ r a. own_column u n r a (λ b. of_title t r && b) (and_right (of_title t r) false refl) ∙ ap (λ b. cond b 1 0) (and_true (of_title t r))) rs accepted)

    pub column_is : (c : ℕ) → c < u.columns → sum_by (λ t. both_at cells u.columns t c) (range_with_len 0 u.titles) ≡ count_by (in_column u c) rs
    column_is c in_c =
        sum_by_counting_same (λ t. both_at cells u.columns t c) (λ t. count_by (λ r. of_title t r && in_column u c r) rs) u.titles (λ t in-t. both_are t c in-t in_c)
        ∙ parted (in_column u c) rs (λ t r. of_title t r && in_column u c r) u.titles
        (All-weaker (Acceptable u n) (λ r. sum_by (λ t. cond (of_title t r && in_column u c r) 1 0) (range_with_len 0 u.titles) ≡ cond (in_column u c r) 1 0) (λ r a. own_title u n r a (in_column u c r)) rs accepted)

    pub all_are : sum_by (λ t. sum_by (both_at cells u.columns t) (range_with_len 0 u.columns)) (range_with_len 0 u.titles) ≡ length rs
    all_are =
        sum_by_counting_same (λ t. sum_by (both_at cells u.columns t) (range_with_len 0 u.columns)) (λ t. count_by (of_title t) rs) u.titles title_is
        ∙ parted (λ _. true) rs of_title u.titles
        (All-weaker (Acceptable u n) (λ r. sum_by (λ t. cond (of_title t r) 1 0) (range_with_len 0 u.titles) ≡ 1) (λ r a. once (λ b. b) refl r.journal u.titles a.title) rs accepted)
        ∙ count_all rs

  -- the cells of one format alone
  module _ (f : ℕ) (at : ℕ → ℕ → ℕ) (at-is : (t c : ℕ) → t < u.titles → c < u.columns → at t c ≡ count_by (in_cell u t c f) rs) where
    pub title_format_is : (t : ℕ) → t < u.titles → sum_by (at t) (range_with_len 0 u.columns) ≡ count_by (λ r. of_title t r && of_format f r) rs
    title_format_is t in-t =
        sum_by_counting_same (at t) (λ c. count_by (in_cell u t c f) rs) u.columns (λ c in_c. at-is t c in-t in_c)
        ∙ parted (λ r. of_title t r && of_format f r) rs (λ c r. in_cell u t c f r) u.columns
        (All-weaker (Acceptable u n) (λ r. sum_by (λ c. cond (in_cell u t c f r) 1 0) (range_with_len 0 u.columns) ≡ cond (of_title t r && of_format f r) 1 0) (λ r a. own_column u n r a (λ b. of_title t r && (b && of_format f r)) (and_right (of_title t r) false refl)) rs accepted)

    pub format_is : sum_by (λ t. sum_by (at t) (range_with_len 0 u.columns)) (range_with_len 0 u.titles) ≡ count_by (of_format f) rs
    format_is =
        sum_by_counting_same (λ t. sum_by (at t) (range_with_len 0 u.columns)) (λ t. count_by (λ r. of_title t r && of_format f r) rs) u.titles title_format_is
        ∙ parted (of_format f) rs (λ t r. of_title t r && of_format f r) u.titles
        (All-weaker (Acceptable u n) (λ r. sum_by (λ t. cond (of_title t r && of_format f r) 1 0) (range_with_len 0 u.titles) ≡ cond (of_format f r) 1 0) (λ r a. own_title u n r a (of_format f r)) rs accepted)
