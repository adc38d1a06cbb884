-- The titles' lines to the end of the file, as rows and as lines of a report.
use Rattle.std.proofs.Common.{◌≡◌, ℕ, zero, suc, ◌≤◌, Bool, true, false, cond, List, [], ◌∷◌, ◌++◌, map, length, Some, None, Ok, decimal, Option, refl, ap, ◌∙◌, subst, arith}
use Rattle.std.proofs.lemmas.Grind.{common_steps}
use Rattle.std.proofs.lemmas.Bool.Decides.{nat_tests}
use Rattle.std.specs.List.{flat_map, list_all, AllByRecursion}
use Rattle.columns.specs.Layouts.{Layout}
use Rattle.titles.specs.declared.issn.Issn.{Issn}
use Rattle.titles.specs.Titles.{Entry, is_blank_or_issn, issn_bytes, new_entry}
use Rattle.reports.proofs.Low.{all_pass_append}
use Rattle.reports.specs.Reports.{Line, Usage, is_low, shown_numbers, table_numbers, totals}
use Rattle.reports.specs.Tables.{line_with}
use Rattle.reports.specs.Written.{line_text, title_line}
use Rattle.cells.specs.Cells.{is_nil}
use Rattle.cells.specs.Places.{Place, and_then}
use Rattle.cells.proofs.Granted.{ok_same, then_ok}
use Rattle.cells.proofs.Reading.{Clean}
use Rattle.grammar.specs.Files.{column_count, line_of, rows_at}
use Rattle.grammar.specs.Lines.{Row, row_at}
use Rattle.grammar.specs.Sound.{SoundLine, SoundYear, is_blank_or_right}
use Rattle.grammar.proofs.Spelling.{Anything, Spells}
use Rattle.grammar.proofs.Titles.{GoodEntry, GoodRow, row_spell, row_text}

nil_is : (l : List ℕ) → is_nil l ≡ true → l ≡ []
nil_is l e = grind arith

some_behind : (a b : List ℕ) → is_nil b ≡ false → is_nil (a ++ b) ≡ false
some_behind [] b e = e
some_behind (x ∷ a) b e = refl

some_before : (a b : List ℕ) → is_nil a ≡ false → is_nil (a ++ b) ≡ false
some_before a b e = grind (arith, common_steps)

some_line : (first : List ℕ) (others : List (List ℕ)) → is_nil (line_text first others) ≡ false
some_line first others = grind (arith, some_behind)

-- a row is never without bytes
some_row : (ytd : Bool) (platform : List ℕ) (r : Row) (m : List ℕ) → is_nil (row_text ytd platform r ++ m) ≡ false
some_row ytd platform r m =
    let t = line_of r in
    some_before (row_text ytd platform r) m (some_line t.name (t.publisher ∷ platform ∷ t.print ∷ t.online ∷ map decimal (shown_numbers ytd t.usage)))

module _ (l : Layout) (platform : List ℕ) (some : 1 ≤ column_count l) (clean : Clean platform) where
  abbrev row_spells : Spells (row_at l.ytd (column_count l) platform) Anything (GoodRow l.ytd (column_count l)) (row_text l.ytd platform)
  row_spells = row_spell l.ytd (column_count l) platform some clean

  -- so many rows at most, good ones, and no byte behind them
  abbrev pub GoodRows : ℕ → Place → List Row → Type 0
  GoodRows room p rows = (1 ≤ length rows) × (length rows ≤ room) × AllByRecursion (GoodRow l.ytd (column_count l)) rows × (p.rest ≡ flat_map (row_text l.ytd platform) rows)

  rows_on : (b : Bool) (room : ℕ) (more : (q : Place) (rows : List Row) → rows_at room l platform q ≡ Ok rows → GoodRows room q rows) (p q : Place) (r : Row) (rows : List Row) → is_nil q.rest ≡ b → GoodRow l.ytd (column_count l) r → p.rest ≡ row_text l.ytd platform r ++ q.rest → cond b (Ok (r ∷ [])) (and_then (rows_at room l platform q) (λ rows. Ok (r ∷ rows))) ≡ Ok rows → GoodRows (suc room) p rows
  rows_on true room more p q r rows end good text h =
      subst (GoodRows (suc room) p) (ok_same (r ∷ []) rows h) (omega arith, omega arith, (good, tt), text ∙ ap (λ m. row_text l.ytd platform r ++ m) (nil_is q.rest end))
  rows_on false room more p q r rows end good text h =
      let a = then_ok (rows_at room l platform q) (λ rows. Ok (r ∷ rows)) rows h in
      let s = more q a.0 a.1 in
      let most = s.1 in
      subst (GoodRows (suc room) p) (ok_same (r ∷ a.0) rows a.2) (omega arith, omega arith, (good, s.2), text ∙ ap (λ m. row_text l.ytd platform r ++ m) s.3)

  pub rows_sound : (room : ℕ) (p : Place) (rows : List Row) → rows_at room l platform p ≡ Ok rows → GoodRows room p rows
  rows_sound zero p rows h = cc
  rows_sound (suc room) p rows h =
      let a = then_ok (row_at l.ytd (column_count l) platform p) (λ x. cond (is_nil x.1.rest) (Ok (x.0 ∷ [])) (and_then (rows_at room l platform x.1) (λ rows. Ok (x.0 ∷ rows)))) rows h in
      let s = row_spells.sound p a.0 a.1 in
      rows_on (is_nil a.0.1.rest) room (rows_sound room) p a.0.1 a.0.0 rows refl s.1 s.2 a.2

  pub rows_complete : (room : ℕ) (p : Place) (r : Row) (rows : List Row) → length rows ≤ room → AllByRecursion (GoodRow l.ytd (column_count l)) (r ∷ rows) → p.rest ≡ flat_map (row_text l.ytd platform) (r ∷ rows) → rows_at (suc room) l platform p ≡ Ok (r ∷ rows)
  rows_complete room p r [] most good e =
      let a = row_spells.complete r p [] tt good.0 e in
      grind arith
  rows_complete zero p r (s ∷ rows) most good e = absurd (omega arith)
  rows_complete (suc room) p r (s ∷ rows) most good e =
      let a = row_spells.complete r p (flat_map (row_text l.ytd platform) (s ∷ rows)) tt good.0 e in
      let b = rows_complete room a.0 s rows (omega arith) good.1 a.2 in
      let more = some_row l.ytd platform s (flat_map (row_text l.ytd platform) rows) in
      grind arith

-- an ISSN from the bytes that show it
abbrev issn_from : List ℕ → Option Issn
issn_from [] = None
issn_from (b ∷ bs) = Some (record { bytes = b ∷ bs })

issn_shown : (bs : List ℕ) → issn_bytes (issn_from bs) ≡ bs
issn_shown [] = refl
issn_shown (b ∷ bs) = refl

issn_right : (bs : List ℕ) → is_blank_or_issn (issn_from bs) ≡ is_blank_or_right bs
issn_right [] = refl
issn_right (b ∷ bs) = refl

right_issn : (issn : Option Issn) → is_blank_or_issn issn ≡ true → is_blank_or_right (issn_bytes issn) ≡ true
right_issn issn e = grind (arith, nat_tests)

-- the row that a line is read as
abbrev pub row_of : Line → Row
row_of l = record { entry = new_entry l.name l.publisher (issn_from l.print) (issn_from l.online); usage = l.usage }

line_of_row : (l : Line) → line_of (row_of l) ≡ l
line_of_row l = grind (arith, issn_shown)

pub lines_of_rows : (ls : List Line) → map line_of (map row_of ls) ≡ ls
lines_of_rows [] = refl
lines_of_rows (l ∷ ls) = λ i. line_of_row l i ∷ lines_of_rows ls i

module _ (ytd : Bool) where
  pub rows_text : (platform : List ℕ) (rows : List Row) → flat_map (row_text ytd platform) rows ≡ flat_map (title_line ytd platform) (map line_of rows)
  rows_text platform [] = refl
  rows_text platform (r ∷ rows) = ap (λ m. row_text ytd platform r ++ m) (rows_text platform rows)

  -- the numbers that the titles' lines show
  abbrev pub shown_in : List Line → List ℕ
  shown_in ls = flat_map (λ l. shown_numbers ytd l.usage) ls

  module _ (n : ℕ) where
    pub sound_line : (e : Entry) (u : Usage) → GoodEntry e → length u.columns ≡ n → SoundYear ytd u → SoundLine ytd n (line_with e u)
    sound_line e u good long year =
        record { name = good.0; publisher = good.1; print = right_issn e.print good.2; online = right_issn e.online good.3; columns = long; year = year }

    pub sound_lines : (rows : List Row) → AllByRecursion (GoodRow ytd n) rows → AllByRecursion (SoundLine ytd n) (map line_of rows)
    sound_lines [] good = tt
    sound_lines (r ∷ rows) good =
        let u = good.0.1 in
        (sound_line r.entry r.usage good.0.0 u.0 u.1, sound_lines rows good.1)

    pub low_lines : (rows : List Row) → AllByRecursion (GoodRow ytd n) rows → list_all is_low (shown_in (map line_of rows)) ≡ true
    low_lines [] good = refl
    low_lines (r ∷ rows) good = let here = good.0.1.2 in let rest = low_lines rows good.1 in grind (arith, nat_tests, all_pass_append)

    pub good_rows : (ls : List Line) → AllByRecursion (SoundLine ytd n) ls → list_all is_low (shown_in ls) ≡ true → AllByRecursion (GoodRow ytd n) (map row_of ls)
    good_rows [] sound low = tt
    good_rows (l ∷ ls) sound low =
        let s = sound.0 in
        let here : list_all is_low (shown_numbers ytd l.usage) ≡ true = grind (arith, nat_tests, all_pass_append) in
        let rest : list_all is_low (shown_in ls) ≡ true = grind (arith, nat_tests, all_pass_append) in
        (((s.name, s.publisher, issn_right l.print ∙ s.print, issn_right l.online ∙ s.online), (s.columns, s.year, here)), good_rows ls sound.1 rest)

    -- the numbers of line 6, and those of the titles' lines
    pub low_parts : (ls : List Line) → list_all is_low (table_numbers ytd n ls) ≡ true → (list_all is_low (shown_numbers ytd (totals n ls)) ≡ true) × (list_all is_low (shown_in ls) ≡ true)
    low_parts ls low = grind (arith, nat_tests, all_pass_append)
