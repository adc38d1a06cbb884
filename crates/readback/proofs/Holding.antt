-- The tables hold the report that was read.
use Rattle.std.proofs.Common.{◌≡◌, ℕ, ◌*◌, Bool, true, false, cond, List, [], ◌∷◌, ◌++◌, map, length, take, drop, Ok, Err, Result, sym, refl, ap, ◌∙◌, subst, append_assoc}
use Rattle.std.proofs.lemmas.List.{drop_at, take_at}
use Rattle.std.specs.List.{flat_map, AllByRecursion}
use Rattle.columns.specs.Layouts.{Layout}
use Rattle.titles.specs.Titles.{Entry}
use Rattle.reports.specs.Tables.{line_with}
use Rattle.reports.specs.Written.{report_text}
use Rattle.cells.specs.declared.fault.LineFault.{LineFault}
use Rattle.cells.proofs.Granted.{no_ok}
use Rattle.grammar.specs.Files.{Reading, column_count, line_of, read_file, reported}
use Rattle.grammar.specs.Lines.{Row}
use Rattle.grammar.specs.Sound.{ReadsExactly, SoundReport}
use Rattle.readback.specs.declared.answer.ReadRefusal.TheVariants.{ShortTables, Faulty}
use Rattle.readback.specs.Answers.{Tables, Told, answer, filled_by, filled_with, held_lines, held_report, held_usage, map_both, roomy, summary, tables_after, year_to_dates}
use Rattle.readback.proofs.Rows.{EachFits, Fits, YearShown, read_fit}

-- a table of the years to date that begins with those of some lines
abbrev years_before : Bool → List Row → List ℕ → List ℕ
years_before true rows old = flat_map (λ r. r.usage.html ∷ r.usage.pdf ∷ []) rows ++ old
years_before false rows old = old

years_next : (ytd : Bool) (r : Row) (rs : List Row) (old : List ℕ) → (rest : List ℕ) × (drop 2 (years_before ytd (r ∷ rs) old) ≡ years_before ytd rs rest)
years_next true r rs old = (old, refl)
years_next false r rs old = (drop 2 old, refl)

usage_held : (ytd : Bool) (r : Row) (rs : List Row) (old : List ℕ) → YearShown ytd r.usage → held_usage ytd r.usage.columns (years_before ytd (r ∷ rs) old) ≡ r.usage
usage_held true r rs old shown = refl
usage_held false r rs old shown = let html = sym shown.0 in let pdf = sym shown.1 in (λ i. record { columns = r.usage.columns; html = html i; pdf = pdf i })

lines_held : (ytd : Bool) (n : ℕ) (rows : List Row) (es : List Entry) (numbers old : List ℕ) → AllByRecursion (λ r. Fits ytd n r.usage) rows → held_lines ytd n (length rows) (map (λ r. r.entry) rows ++ es) (flat_map (λ r. r.usage.columns) rows ++ numbers) (years_before ytd rows old) ≡ map line_of rows
lines_held ytd n [] es numbers old fits = refl
lines_held ytd n (r ∷ rs) es numbers old fits =
    let u = r.usage.columns in
    let rest = flat_map (λ (r : Row). r.usage.columns) rs ++ numbers in
    let years = years_next ytd r rs old in
    let all : (u ++ flat_map (λ (r : Row). r.usage.columns) rs) ++ numbers ≡ u ++ rest = append_assoc u (flat_map (λ (r : Row). r.usage.columns) rs) numbers in
    let front = ap (take n) all ∙ take_at u rest n fits.0.columns in
    let back = ap (drop n) all ∙ drop_at u rest n fits.0.columns in
    let here = ap (λ ns. held_usage ytd ns (years_before ytd (r ∷ rs) old)) front ∙ usage_held ytd r rs old fits.0.year in
    (λ i. line_with r.entry (here i) ∷ held_lines ytd n (length rs) (map (λ (r : Row). r.entry) rs ++ es) (back i) (years.1 i))
    ∙ ap (λ ls. line_of r ∷ ls) (lines_held ytd n rs es numbers years.0 fits.1)

years_are : (ytd : Bool) (rows : List Row) (old : List ℕ) → (rest : List ℕ) × (year_to_dates ytd rows old ≡ years_before ytd rows rest)
years_are true rows old = (drop (length rows * 2) old, refl)
years_are false rows old = (old, refl)

-- what the tables hold of a reading is the report that it shows
pub held_is : (l : Layout) (t : Tables) (rd : Reading) → EachFits l rd.rows → held_report l (summary rd) (filled_by l t rd.rows) ≡ reported rd
held_is l t rd fits =
    let rows = rd.rows in
    let es = drop (length rows) t.titles in
    let numbers = drop (length rows * column_count l) t.numbers in
    let years = years_are l.ytd rows t.ytd in
    let lines =
    ap (held_lines l.ytd (column_count l) (length rows) (map (λ (r : Row). r.entry) rows ++ es) (flat_map (λ (r : Row). r.usage.columns) rows ++ numbers)) years.1
    ∙ lines_held l.ytd (column_count l) rows es numbers years.0 fits in
    (λ i. record { head = rd.head; lines = lines i })

module _ (l : Layout) (t : Tables) (file : List ℕ) (exact : ReadsExactly l file) where
  told_by : (r : Result Reading LineFault) → read_file l file ≡ r → Told l file (filled_with l t r) (map_both summary Faulty r)
  told_by (Ok rd) h =
      subst (λ r. SoundReport l r × (file ≡ report_text l r)) (sym (held_is l t rd (read_fit l file rd h).each)) (exact.sound rd h)
  told_by (Err e) h = λ r sound is. let read = exact.complete r sound is in no_ok e read.0 (sym h ∙ read.1)

  told_room : (room : Bool) → Told l file (cond room (filled_with l t (read_file l file)) t) (cond room (map_both summary Faulty (read_file l file)) (Err ShortTables))
  told_room true = told_by (read_file l file) refl
  told_room false = tt

  -- what a reading tells is true
  pub told : Told l file (tables_after l t file) (answer l t file)
  told = told_room (roomy l t)
