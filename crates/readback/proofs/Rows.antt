-- What was read of a file, and what the titles' lines then have.
use Rattle.std.proofs.Common.{◌≡◌, ℕ, zero, suc, ◌≤◌, Bool, true, false, cond, ◌&&◌, eqb, List, [], ◌∷◌, map, length, Ok, sum, sym, refl, ap, ◌∙◌, subst, arith}
use Rattle.std.specs.List.{AllByRecursion}
use Rattle.columns.specs.Layouts.{Layout}
use Rattle.titles.specs.Titles.{Entry}
use Rattle.reports.specs.Reports.{Usage}
use Rattle.cells.specs.declared.fault.Cause.TheVariants.{WrongText}
use Rattle.cells.specs.Cells.{is_nil}
use Rattle.cells.specs.Faults.{fault_here}
use Rattle.cells.specs.Judged.{number_at}
use Rattle.cells.specs.Places.{Place, and_then, start}
use Rattle.cells.proofs.Granted.{no_ok, ok_same, then_ok}
use Rattle.grammar.specs.Files.{Reading, Top, column_count, head_of, line_of, read_file, rows_at, top_at, totals_against}
use Rattle.grammar.specs.Lines.{Row, entry_at, numbers_at, row_at, usage_at, year_to_date_at}

-- a year to date that is not shown is 0
abbrev pub YearShown : Bool → Usage → Type 0
YearShown true u = Unit {0}
YearShown false u = (u.html ≡ 0) × (u.pdf ≡ 0)

-- as many numbers as there are columns, and a year to date only where it is shown
pub record Fits (ytd : Bool) (n : ℕ) (u : Usage) : Type 0 where
  pub columns : length u.columns ≡ n
  pub year : YearShown ytd u

abbrev pub EachFits : Layout → List Row → Type 0
EachFits l rows = AllByRecursion (λ r. Fits l.ytd (column_count l) r.usage) rows

-- no more lines than there is room for
pub record RowsFit (l : Layout) (room : ℕ) (rows : List Row) : Type 0 where
  pub most : length rows ≤ room
  pub each : EachFits l rows

numbers_long : (ends : Bool) (m : ℕ) (p : Place) (y : List ℕ × Place) → numbers_at ends m p ≡ Ok y → length y.0 ≡ m
numbers_long ends zero p y h = sym (ap (λ (y : List ℕ × Place). length y.0) (ok_same ([], p) y h))
numbers_long ends (suc m) p y h =
    let a = then_ok (number_at (ends && eqb m 0) p) (λ x. and_then (numbers_at ends m x.1) (λ y. Ok (x.0 ∷ y.0, y.1))) y h in
    let b = then_ok (numbers_at ends m a.0.1) (λ y. Ok (a.0.0 ∷ y.0, y.1)) y a.2 in
    sym (ap (λ (y : List ℕ × Place). length y.0) (ok_same (a.0.0 ∷ b.0.0, b.0.1) y b.2)) ∙ ap suc (numbers_long ends m a.0.1 b.0 b.1)

-- the numbers of a line, with what is said of its year to date
abbrev usage_with : List ℕ → ℕ → ℕ → Usage
usage_with columns html pdf = record { columns = columns; html = html; pdf = pdf }

usage_fits : (ytd : Bool) (n : ℕ) (p : Place) (y : Usage × Place) → usage_at ytd n p ≡ Ok y → Fits ytd n y.0
usage_fits true n p y h =
    let a = then_ok (numbers_at false n p) (λ x. and_then (year_to_date_at (sum x.0) x.1) (λ y. Ok (usage_with x.0 y.0.0 y.0.1, y.1))) y h in
    let b = then_ok (year_to_date_at (sum a.0.0) a.0.1) (λ y. Ok (usage_with a.0.0 y.0.0 y.0.1, y.1)) y a.2 in
    subst (λ (y : Usage × Place). Fits true n y.0) (ok_same (usage_with a.0.0 b.0.0.0 b.0.0.1, b.0.1) y b.2) (record { columns = numbers_long false n p a.0 a.1; year = tt })
usage_fits false n p y h =
    let a = then_ok (numbers_at true n p) (λ x. Ok (usage_with x.0 0 0, x.1)) y h in
    subst (λ (y : Usage × Place). Fits false n y.0) (ok_same (usage_with a.0.0 0 0, a.0.1) y a.2) (record { columns = numbers_long true n p a.0 a.1; year = (refl, refl) })

abbrev row_by : Entry → Usage → Row
row_by e u = record { entry = e; usage = u }

row_fits : (ytd : Bool) (n : ℕ) (platform : List ℕ) (p : Place) (y : Row × Place) → row_at ytd n platform p ≡ Ok y → Fits ytd n y.0.usage
row_fits ytd n platform p y h =
    let a = then_ok (entry_at platform p) (λ e. and_then (usage_at ytd n e.1) (λ u. Ok (row_by e.0 u.0, u.1))) y h in
    let b = then_ok (usage_at ytd n a.0.1) (λ u. Ok (row_by a.0.0 u.0, u.1)) y a.2 in
    subst (λ (y : Row × Place). Fits ytd n y.0.usage) (ok_same (row_by a.0.0 b.0.0, b.0.1) y b.2) (usage_fits ytd n a.0.1 b.0 b.1)

module _ (l : Layout) (platform : List ℕ) where
  -- the lines from one on that was read
  fit_on : (room : ℕ) (x : Row × Place) (done : Bool) (rows : List Row) → Fits l.ytd (column_count l) x.0.usage → ((rs : List Row) → rows_at room l platform x.1 ≡ Ok rs → RowsFit l room rs) → cond done (Ok (x.0 ∷ [])) (and_then (rows_at room l platform x.1) (λ rs. Ok (x.0 ∷ rs))) ≡ Ok rows → RowsFit l (suc room) rows
  fit_on room x true rows here rest h =
      subst (RowsFit l (suc room)) (ok_same (x.0 ∷ []) rows h) (record { most = omega arith; each = (here, tt) })
  fit_on room x false rows here rest h =
      let a = then_ok (rows_at room l platform x.1) (λ rs. Ok (x.0 ∷ rs)) rows h in
      let r = rest a.0 a.1 in
      subst (RowsFit l (suc room)) (ok_same (x.0 ∷ a.0) rows a.2) (record { most = let m = r.most in omega arith; each = (here, r.each) })

  pub rows_fit : (room : ℕ) (p : Place) (rows : List Row) → rows_at room l platform p ≡ Ok rows → RowsFit l room rows
  rows_fit zero p rows h = absurd (no_ok (fault_here p WrongText) rows h)
  rows_fit (suc room) p rows h =
      let a = then_ok (row_at l.ytd (column_count l) platform p) (λ x. cond (is_nil x.1.rest) (Ok (x.0 ∷ [])) (and_then (rows_at room l platform x.1) (λ rs. Ok (x.0 ∷ rs)))) rows h in
      fit_on room a.0 (is_nil a.0.1.rest) rows (row_fits l.ytd (column_count l) platform p a.0 a.1) (rows_fit room a.0.1) a.2

-- the lines above the titles and the titles' lines of a file
pub record Parts (l : Layout) (file : List ℕ) (rd : Reading) : Type 0 where
  pub top : Top × Place
  pub top_read : top_at l (start file) ≡ Ok top
  pub rows_read : rows_at 512 l top.0.shown.platform top.1 ≡ Ok rd.rows
  pub head : head_of top.0 ≡ rd.head

module _ (l : Layout) (file : List ℕ) (rd : Reading) (h : read_file l file ≡ Ok rd) where
  abbrev read_by : Top → List Row → Reading
  read_by t rows = record { head = head_of t; rows = rows }

  pub read_parts : Parts l file rd
  read_parts =
      let a = then_ok (top_at l (start file)) (λ t. and_then (rows_at 512 l t.0.shown.platform t.1) (λ rows. and_then (totals_against l t.0.shown (map line_of rows)) (λ _. Ok (read_by t.0 rows)))) rd h in
      let t = a.0.0 in
      let b = then_ok (rows_at 512 l t.shown.platform a.0.1) (λ rows. and_then (totals_against l t.shown (map line_of rows)) (λ _. Ok (read_by t rows))) rd a.2 in
      let c = then_ok (totals_against l t.shown (map line_of b.0)) (λ _. Ok (read_by t b.0)) rd b.2 in
      let is = ok_same (read_by t b.0) rd c.2 in
      record { top = a.0; top_read = a.1; rows_read = b.1 ∙ ap (λ (rd : Reading). Ok rd.rows) is; head = ap (λ (rd : Reading). rd.head) is }

  pub read_fit : RowsFit l 512 rd.rows
  read_fit = let parts = read_parts in rows_fit l parts.top.0.shown.platform 512 parts.top.1 rd.rows parts.rows_read
