-- The report of a ledger that stands settled.
use Rattle.std.proofs.Common.{◌≡◌, ℕ, ◌+◌, ◌*◌, ◌<◌, ◌≤◌, Bool, true, ◌||◌, List, [], ◌∷◌, length, get_or, is_ok, IfOk, Ok, Err, sum, count_by, filter, Result, sym, refl, ap, ◌∙◌, subst, arith}
use Rattle.std.specs.List.{AllByRecursion}
use Rattle.std.proofs.lemmas.List.FromFn.{length-map-range_with_len}
use Rattle.std.proofs.lemmas.List.{append-nil, get_or_at}
use Rattle.records.specs.declared.request.Request.{Request}
use Rattle.runs.specs.Past.{Facts, Past, accepted_of, counted, facts, granted, presented, settling, standing}
use Rattle.runs.specs.Rules.{Setup, cell_at, in_cell, outlived}
use Rattle.runs.specs.Books.{Books}
use Rattle.runs.specs.Law.{Acceptable, Stands}
use Rattle.runs.proofs.Filters.{kept_all}
use Rattle.runs.proofs.Standing.{all_standing}
use Rattle.reports.specs.Reports.{Line, column_sum, shown_numbers, totals}
use Rattle.reports.specs.Tables.{html_at, pdf_at}
use Rattle.audit.specs.declared.writing.Written.{Written}
use Rattle.audit.specs.Figures.{Counts, Sums, total, unfollowed}
use Rattle.audit.proofs.Counting.{all_are, both_are, column_is, format_is, title_format_is, title_is}

-- a settled ledger counts every request that has no follower
counted_all : (u : Setup) (f : Facts) → f.settled ≡ true → counted u f ≡ standing u f.accepted
counted_all u f e = ap (λ b. filter (λ r. b || outlived f.clock r) (standing u f.accepted)) e ∙ kept_all (standing u f.accepted)

-- the first number after the columns
after_columns : (ytd : Bool) (n : ℕ) (lines : List Line) → ytd ≡ true → get_or (shown_numbers ytd (totals n lines)) n 0 ≡ total n lines
after_columns ytd n lines e =
    let all = totals n lines in
    ap (λ b. get_or (shown_numbers b all) n 0) e ∙ get_or_at all.columns (sum all.columns) (all.html ∷ all.pdf ∷ []) 0 n (length-map-range_with_len (column_sum lines) 0 n)

module _ (u : Setup) (p : Past) (b : Books) (stands : Stands u p b) (settled : b.settled ≡ true) where
  abbrev rs : List Request
  rs = unfollowed u p

  all_counted : counted u (facts p) ≡ rs
  all_counted = counted_all u (facts p) (sym stands.kept.settled_is ∙ settled)

  cell_is : (k : ℕ) → 1 ≤ k → k ≤ 2 → (i t c : ℕ) → i ≡ cell_at u t c k → t < u.titles → c < u.columns → get_or b.cells i 0 ≡ count_by (in_cell u t c k) rs
  cell_is k low high i t c e in-t in_c =
      ap (λ j. get_or b.cells j 0) e ∙ stands.kept.cells_are t c k in-t in_c low high ∙ ap (count_by (in_cell u t c k)) all_counted

  html_is : (t c : ℕ) → t < u.titles → c < u.columns → html_at b.cells u.columns t c ≡ count_by (in_cell u t c 1) rs
  html_is t c = cell_is 1 (omega arith) (omega arith) ((t * u.columns + c) * 2) t c (omega arith)

  pdf_is : (t c : ℕ) → t < u.titles → c < u.columns → pdf_at b.cells u.columns t c ≡ count_by (in_cell u t c 2) rs
  pdf_is t c = cell_is 2 (omega arith) (omega arith) ((t * u.columns + c) * 2 + 1) t c (omega arith)

  accepted : AllByRecursion (Acceptable u (facts p).clock) rs
  accepted = all_standing u (Acceptable u (facts p).clock) (facts p).accepted stands.kept.accepted_are

  -- a report that sums up the cells counts the requests
  module _ (lines : List Line) (sums : Sums b.cells u.titles u.columns lines) where
    all_is : total u.columns lines ≡ length rs
    all_is = sums.all ∙ all_are u (facts p).clock rs accepted b.cells html_is pdf_is

    pub tally_is : total u.columns lines ≡ b.counted
    tally_is = all_is ∙ sym (stands.kept.counted_is ∙ ap length all_counted)

    pub counts_of : (ytd : Bool) → Counts u ytd rs lines
    counts_of ytd =
        let now = (facts p).clock in
        record {
          many = sums.many;
          title_column = λ t c d in-t in_c. sums.title_column t c d in-t in_c ∙ both_are u now rs accepted b.cells html_is pdf_is t c in-t in_c;
          title_total = λ t d in-t. sums.title_total t d in-t ∙ title_is u now rs accepted b.cells html_is pdf_is t in-t;
          title_html = λ t d in-t. sums.title_html t d in-t ∙ title_format_is u now rs accepted 1 (html_at b.cells u.columns) html_is t in-t;
          title_pdf = λ t d in-t. sums.title_pdf t d in-t ∙ title_format_is u now rs accepted 2 (pdf_at b.cells u.columns) pdf_is t in-t;
          column = λ c in_c. sums.column c in_c ∙ column_is u now rs accepted b.cells html_is pdf_is c in_c;
          html = sums.html ∙ format_is u now rs accepted 1 (html_at b.cells u.columns) html_is;
          pdf = sums.pdf ∙ format_is u now rs accepted 2 (pdf_at b.cells u.columns) pdf_is;
          all = all_is;
          shown = λ e. after_columns ytd u.columns lines e ∙ all_is;
        }

-- the settling brings no request
pub counts_before : (u : Setup) (p : Past) (ytd ytd' : Bool) (lines : List Line) → ytd ≡ ytd' → Counts u ytd (unfollowed u (settling true granted ∷ p)) lines → Counts u ytd' (unfollowed u p) lines
counts_before u p ytd ytd' lines e counts =
    let same = ap (λ xs. standing u (accepted_of xs)) (append-nil (presented p)) in
    subst (λ b. Counts u b (unfollowed u p) lines) e (subst (λ rs. Counts u ytd rs lines) same counts)

-- what was found as the total is what the total counts
pub total_counts : {E : Type 0} (P : Written → Type 0) (t k : ℕ) (r : Result Written E) → IfOk r (λ w. P w × (w.total ≡ t)) → (is_ok r ≡ true → t ≡ k) → IfOk r (λ w. w.total ≡ k)
total_counts P t k (Ok w) found counts = found.1 ∙ counts refl
total_counts P t k (Err e) found counts = tt
