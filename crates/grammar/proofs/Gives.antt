-- Every sound report is one that the writer gives, so the files that are read are just those that it gives.
use Rattle.std.proofs.Common.{◌≡◌, ℕ, ◌+◌, ◌*◌, Bool, true, false, List, [], ◌∷◌, map, length, drop, is_ok, None, Ok, Err, sum, Result, sym, refl, ap, ◌∙◌, subst, suc-mul, arith}
use Rattle.std.proofs.lemmas.Grind.{common_steps}
use Rattle.std.proofs.lemmas.Bool.Decides.{nat_tests}
use Rattle.std.proofs.ByRecursion.{All-append}
use Rattle.std.proofs.lemmas.List.{drop_at, drop-drop}
use Rattle.std.proofs.lemmas.Bool.{eq-eqb, le-leb}
use Rattle.std.specs.List.{flat_map, list_all, AllByRecursion}
use Rattle.columns.specs.Layouts as layouts
use Rattle.columns.specs.Layouts.{Layout}
use Rattle.titles.proofs.Fitness.{read_text_lem}
use Rattle.titles.specs.Titles.{Entry, judge}
use Rattle.reports.proofs.Low.{all_pass_append}
use Rattle.reports.specs.declared.refusal.WriteRefusal.TheVariants.{Buffer, CellCount, Criteria, Date, Number, Platform, TitleCount}
use Rattle.reports.specs.Answers.{Subject, first_ground, grounds, outcome, report_about, text_about, title_ground, titles_ground, unless}
use Rattle.reports.specs.Reports.{Line, Report, is_low, table_numbers}
use Rattle.reports.specs.Tables.{line_with, lines_from}
use Rattle.reports.specs.Written.{report_text}
use Rattle.grammar.specs.Files.{column_count, line_of, read_file, reported}
use Rattle.grammar.specs.Given.{AcceptedIsGiven, Given}
use Rattle.grammar.specs.Lines.{Row}
use Rattle.grammar.specs.Shown.{shown_lines, without_year}
use Rattle.grammar.specs.Sound.{SoundReport}
use Rattle.grammar.proofs.Files.{file_sound}
use Rattle.grammar.proofs.Placed.{Formats, Small, columns_placed, html_placed, length_cells, length_placed, pair, pdf_placed, placed, small_cells, small_placed, usage_placed, usage_in}
use Rattle.grammar.proofs.Rows.{good_rows, lines_of_rows, low_parts, row_of}
use Rattle.grammar.proofs.Shows.{numbers_shown, shows_no_more}
use Rattle.grammar.proofs.Titles.{GoodEntry, GoodRow}
use Rattle.grammar.proofs.Writes.{check_issn_lem, written_is_read}

-- in a good entry no fault is found
fine_entry : (e : Entry) → GoodEntry e → judge e ≡ Ok e
fine_entry e good =
    let name = read_text_lem e.name in
    let publisher = read_text_lem e.publisher in
    grind (arith, check_issn_lem)

abbrev entries : List Row → List Entry
entries rows = map (λ r. r.entry) rows

-- a title's columns by format
abbrev formats : Row → List Formats
formats r = placed r.usage.html r.usage.columns

-- the title's line, as the table that is made of them says it
abbrev placed_line : Row → Line
placed_line r = line_with r.entry (usage_in (formats r))

module _ (ytd : Bool) (n : ℕ) where
  no_title : (t : ℕ) (rows : List Row) → AllByRecursion (GoodRow ytd n) rows → titles_ground t (entries rows) ≡ None
  no_title t [] good = refl
  no_title t (r ∷ rows) good =
      ap (λ x. title_ground t x (titles_ground (t + 1) (entries rows))) (fine_entry r.entry good.0.0) ∙ no_title (t + 1) rows good.1

  length_formats : (r : Row) → GoodRow ytd n r → length (formats r) ≡ n
  length_formats r good = grind (arith, length_placed)

  length_table : (rows : List Row) → AllByRecursion (GoodRow ytd n) rows → length (flat_map formats rows) ≡ length rows * n
  length_table [] good = omega arith
  length_table (r ∷ rows) good =
      let here = length_formats r good.0 in
      let rest = length_table rows good.1 in
      grind (arith, common_steps, suc-mul)

  small_table : (rows : List Row) → AllByRecursion (GoodRow ytd n) rows → AllByRecursion Small (flat_map formats rows)
  small_table [] good = tt
  small_table (r ∷ rows) good =
      let shown = good.0.1.2 in
      let low : list_all is_low r.usage.columns ≡ true = grind (arith, nat_tests, all_pass_append) in
      All-append Small (formats r) (flat_map formats rows) (small_placed r.usage.html r.usage.columns low) (small_table rows good.1)

  -- the lines of the table, from title t on
  lines_placed : (fs : List Formats) (t : ℕ) (rows : List Row) → AllByRecursion (GoodRow ytd n) rows → drop (t * n) fs ≡ flat_map formats rows → lines_from (flat_map pair fs) n t (entries rows) ≡ map placed_line rows
  lines_placed fs t [] good stands = refl
  lines_placed fs t (r ∷ rows) good stands =
      let long = length_formats r good.0 in
      let here = usage_placed fs n t (formats r) (flat_map formats rows) long stands in
      let more = suc-mul t n in
      let next : (t + 1) * n ≡ t * n + n = omega arith in
      let rest = ap (λ k. drop k fs) next ∙ sym (drop-drop n (t * n) fs) ∙ ap (drop n) stands ∙ drop_at (formats r) (flat_map formats rows) n long in
      λ i. line_with r.entry (here i) ∷ lines_placed fs (t + 1) rows good.1 rest i

-- so far as they are shown, they are those of the report
year_placed : (n : ℕ) (r : Row) → GoodRow true n r → usage_in (formats r) ≡ r.usage
year_placed n r good =
    let year : r.usage.html + r.usage.pdf ≡ sum r.usage.columns = good.1.1 in
    let html = html_placed r.usage.html r.usage.columns (omega arith) in
    let pdf = pdf_placed r.usage.html r.usage.pdf r.usage.columns year in
    grind (arith, columns_placed)

unshown_placed : (n : ℕ) (r : Row) → GoodRow false n r → without_year (placed_line r) ≡ line_of r
unshown_placed n r good = grind (arith, columns_placed)

shown_placed : (ytd : Bool) (n : ℕ) (rows : List Row) → AllByRecursion (GoodRow ytd n) rows → shown_lines ytd (map placed_line rows) ≡ map line_of rows
shown_placed true n [] good = refl
shown_placed true n (r ∷ rows) good = λ i. line_with r.entry (year_placed n r good.0 i) ∷ shown_placed true n rows good.1 i
shown_placed false n [] good = refl
shown_placed false n (r ∷ rows) good = λ i. unshown_placed n r good.0 i ∷ shown_placed false n rows good.1 i

-- what the writer is given, to give a report
module _ (l : Layout) (r : Report) (sound : SoundReport l r) where
  abbrev rows : List Row
  rows = map row_of r.lines

  abbrev table : List Formats
  table = flat_map formats rows

  abbrev subject : Subject
  subject = record { layout = l; titles = length r.lines; cells = flat_map pair table; entries = entries rows; head = r.head }

  good : AllByRecursion (GoodRow l.ytd (column_count l)) rows
  good =
      let low = low_parts l.ytd (column_count l) r.lines sound.low in
      good_rows l.ytd (column_count l) r.lines sound.lines low.1

  same_lines : shown_lines l.ytd (report_about subject).lines ≡ r.lines
  same_lines =
      ap (shown_lines l.ytd) (lines_placed l.ytd (column_count l) table 0 rows good (ap (λ k. drop k table) (let z : 0 * column_count l ≡ 0 = omega arith in z)))
      ∙ shown_placed l.ytd (column_count l) rows good
      ∙ lines_of_rows r.lines

  same_text : text_about subject ≡ report_text l r
  same_text = sym (shows_no_more l (report_about subject)) ∙ (λ i. report_text l (record { head = r.head; lines = same_lines i }))

  length_entries : length (entries rows) ≡ length r.lines
  length_entries = grind (arith, common_steps)

  table_fits : length (flat_map pair table) ≡ length r.lines * column_count l * 2
  table_fits =
      let cells = length_cells table in
      let long = length_table l.ytd (column_count l) rows good in
      grind (arith, common_steps)

  are_low_lem : list_all is_low (table_numbers l.ytd (column_count l) (report_about subject).lines) ≡ true
  are_low_lem =
      ap (list_all is_low) (sym (numbers_shown l.ytd (column_count l) (report_about subject).lines) ∙ ap (table_numbers l.ytd (column_count l)) same_lines) ∙ sound.low

  -- nothing speaks against it
  no_ground : first_ground (grounds subject (length (report_text l r))) ≡ None
  no_ground =
      let room = length (report_text l r) in
      let count = eq-eqb (length (entries rows)) (length r.lines) length_entries in
      let titles = no_title l.ytd (column_count l) 0 rows good in
      let cells = eq-eqb (length (flat_map pair table)) (length r.lines * column_count l * 2) table_fits in
      let long = ap length same_text in
      let fits = le-leb (length (text_about subject)) room (omega arith) in
      λ i. first_ground (unless (sound.head.criteria i) Criteria ∷ unless (sound.head.platform i) Platform ∷ unless (sound.head.date i) Date ∷ unless (count i) TitleCount ∷ titles i ∷ unless (cells i) CellCount ∷ unless (are_low_lem i) Number ∷ unless (fits i) Buffer ∷ [])

  pub sound_is_given : Given l (report_text l r)
  sound_is_given =
      let long = length_entries in
      let some = sound.some in
      let most = sound.most in
      record {
        subject = subject;
        layout = refl;
        some = omega arith;
        most = omega arith;
        count = length_entries;
        cells = small_cells table (small_table l.ytd (column_count l) rows good);
        granted = λ i. outcome (no_ground i) (length (same_text i));
        text = same_text;
      }

was_read : {A E : Type 0} (r : Result A E) → is_ok r ≡ true → (x : A) × (r ≡ Ok x)
was_read (Ok x) e = (x, refl)
was_read (Err fault) e = cc

pub accepted_is_given : AcceptedIsGiven
accepted_is_given l file layout = (accepted, given)
  where
    accepted : is_ok (read_file l file) ≡ true → Given l file
    accepted e =
        let rd = was_read (read_file l file) e in
        let s = file_sound l file layout rd.0 rd.1 in
        subst (Given l) (sym s.1) (sound_is_given l (reported rd.0) s.0)

    given : Given l file → is_ok (read_file l file) ≡ true
    given g =
        let own = subst layouts.Sound (sym g.layout) layout in
        let rd = written_is_read g.subject (length file) (length file) own g.some g.most g.granted in
        sym (λ i. is_ok (read_file (g.layout i) (g.text i))) ∙ ap is_ok rd.1
