-- What the numbers of a report say: which cells they sum up, and which requests they count.
use Rattle.std.specs.Prelude.{◌≡◌, ℕ, ◌+◌, ◌<◌, Bool, true, ◌&&◌, List, length, sum_by, sum, count_by, ◌==◌, slice_index, slice_index_or}
use Rattle.std.specs.List.{range_with_len}
use Rattle.records.specs.declared.request.Request.{Request}
use Rattle.runs.specs.Past.{Past, facts, standing}
use Rattle.runs.specs.Rules.{Setup, is_column}
use Rattle.reports.specs.Reports.{Line, shown_numbers, totals}
use Rattle.reports.specs.Tables.{html_at, pdf_at}

-- a report's total: the sum of all its columns over all journals
abbrev pub total : ℕ → List Line → ℕ
total n lines = sum (totals n lines).columns

-- both cells of the title t in the column c, of n columns
abbrev pub both_at : List ℕ → ℕ → ℕ → ℕ → ℕ
both_at cells n t c = html_at cells n t c + pdf_at cells n t c

-- the lines of a report with n columns are those of a count table for so many titles
pub record Sums (cells : List ℕ) (titles n : ℕ) (lines : List Line) : Type 0 where
  -- each title has its line
  pub many : length lines ≡ titles
  -- the number of a title in a column is the sum of its two cells
  pub title_column : (t c : ℕ) (d : Line) → t < titles → c < n → slice_index (slice_index_or lines t d).usage.columns c ≡ both_at cells n t c
  -- the year to date of a title is the sum of its cells, and by format of those of that format
  pub title_total : (t : ℕ) (d : Line) → t < titles → sum (slice_index_or lines t d).usage.columns ≡ sum_by (both_at cells n t) (range_with_len 0 n)
  pub title_html : (t : ℕ) (d : Line) → t < titles → (slice_index_or lines t d).usage.html ≡ sum_by (html_at cells n t) (range_with_len 0 n)
  pub title_pdf : (t : ℕ) (d : Line) → t < titles → (slice_index_or lines t d).usage.pdf ≡ sum_by (pdf_at cells n t) (range_with_len 0 n)
  -- over all journals, each number is the sum over the titles
  pub column : (c : ℕ) → c < n → slice_index (totals n lines).columns c ≡ sum_by (λ t. both_at cells n t c) (range_with_len 0 titles)
  pub html : (totals n lines).html ≡ sum_by (λ t. sum_by (html_at cells n t) (range_with_len 0 n)) (range_with_len 0 titles)
  pub pdf : (totals n lines).pdf ≡ sum_by (λ t. sum_by (pdf_at cells n t) (range_with_len 0 n)) (range_with_len 0 titles)
  -- and the total is the sum of all cells
  pub all : total n lines ≡ sum_by (λ t. sum_by (both_at cells n t) (range_with_len 0 n)) (range_with_len 0 titles)

-- a request for the title t
abbrev pub of_title : ℕ → Request → Bool
of_title t r = r.journal == t

-- a request in the column c
abbrev pub in_column : Setup → ℕ → Request → Bool
in_column u c r = is_column c (u.place r)

-- a request in the format f, of which 1 is HTML and 2 is PDF
abbrev pub of_format : ℕ → Request → Bool
of_format f r = r.format == f

-- the accepted requests of a past that have no follower
abbrev pub unfollowed : Setup → Past → List Request
unfollowed u p = standing u (facts p).accepted

-- the numbers of a report count the requests rs; `ytd` says whether it has year-to-date columns
pub record Counts (u : Setup) (ytd : Bool) (rs : List Request) (lines : List Line) : Type 0 where
  -- each title has its line
  pub many : length lines ≡ u.titles
  -- the number of a title in a column is that of its requests there
  pub title_column : (t c : ℕ) (d : Line) → t < u.titles → c < u.columns → slice_index (slice_index_or lines t d).usage.columns c ≡ count_by (λ r. of_title t r && in_column u c r) rs
  -- the year to date of a title is the number of its requests, and by format of those in that format
  pub title_total : (t : ℕ) (d : Line) → t < u.titles → sum (slice_index_or lines t d).usage.columns ≡ count_by (of_title t) rs
  pub title_html : (t : ℕ) (d : Line) → t < u.titles → (slice_index_or lines t d).usage.html ≡ count_by (λ r. of_title t r && of_format 1 r) rs
  pub title_pdf : (t : ℕ) (d : Line) → t < u.titles → (slice_index_or lines t d).usage.pdf ≡ count_by (λ r. of_title t r && of_format 2 r) rs
  -- over all journals, likewise
  pub column : (c : ℕ) → c < u.columns → slice_index (totals u.columns lines).columns c ≡ count_by (in_column u c) rs
  pub html : (totals u.columns lines).html ≡ count_by (of_format 1) rs
  pub pdf : (totals u.columns lines).pdf ≡ count_by (of_format 2) rs
  -- the report's total is the number of all of them
  pub all : total u.columns lines ≡ length rs
  -- which the line for all journals shows after the columns, if year-to-date columns follow
  pub shown : ytd ≡ true → slice_index (shown_numbers ytd (totals u.columns lines)) u.columns ≡ length rs
