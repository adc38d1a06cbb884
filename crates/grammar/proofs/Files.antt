-- A whole file: it is read as a report just where it is the text of that report.
use Rattle.std.proofs.Common.{◌≡◌, ℕ, ◌≤◌, true, List, [], ◌∷◌, ◌++◌, map, length, Ok, sym, refl, ap, ◌∙◌, subst, append_assoc, arith}
use Rattle.std.proofs.lemmas.Bool.Decides.{nat_tests}
use Rattle.std.proofs.lemmas.List.{length-map}
use Rattle.std.specs.List.{flat_map, list_all}
use Rattle.columns.specs.Layouts as layouts
use Rattle.columns.specs.Layouts.{Layout}
use Rattle.reports.proofs.Low.{all_pass_append}
use Rattle.reports.specs.Reports.{Head, Line, Report, is_low, shown_numbers, totals}
use Rattle.reports.specs.Written.{heading_line, report_text, title_line}
use Rattle.cells.specs.Places.{Place, and_then, start}
use Rattle.cells.proofs.Judges.{text_clean}
use Rattle.cells.proofs.Granted.{ok_same, then_ok}
use Rattle.grammar.specs.Files.{Reading, Top, column_count, head_of, line_of, read_file, reported, rows_at, top_at, totals_against}
use Rattle.grammar.specs.Lines.{Occasion, Row}
use Rattle.grammar.specs.Sound.{Exact, SoundReport}
use Rattle.grammar.proofs.Rows.{good_rows, lines_of_rows, low_lines, low_parts, row_of, rows_complete, rows_sound, rows_text, sound_lines}
use Rattle.grammar.proofs.Sums.{length_sums, publisher_good, shown_for, totals_complete, totals_sound}
use Rattle.grammar.proofs.Tops.{GoodShown, kind_text, occasion_text, shown_text, top_spell, top_text}

-- a report's text by its first six lines and the titles' lines
regrouped : (a b c d e : List ℕ) → (a ++ (b ++ (c ++ d))) ++ e ≡ (a ++ b) ++ (c ++ (d ++ e))
regrouped a b c d e = simp append_assoc

module _ (l : Layout) where
  text_parts : (o : Occasion) (platform : List ℕ) (ls : List Line) (t : Top) → t ≡ record { occasion = o; shown = shown_for l platform ls } → top_text l t ++ flat_map (title_line l.ytd platform) ls ≡ report_text l (record { head = head_of t; lines = ls })
  text_parts o platform ls t is =
      let titles = flat_map (title_line l.ytd platform) ls in
      ap (λ x. top_text l x ++ titles) is
      ∙ regrouped (kind_text l) (occasion_text o) (heading_line l) (shown_text (shown_for l platform ls)) titles
      ∙ ap (λ x. report_text l (record { head = head_of x; lines = ls })) (sym is)

module _ (l : Layout) (file : List ℕ) (layout : layouts.Sound l) where
  -- what is read of the file's parts, and what that makes of the whole
  module _ (t : Top) (q : Place) (rows : List Row) (top : top_at l (start file) ≡ Ok (t, q)) (titles : rows_at 512 l t.shown.platform q ≡ Ok rows) (agree : totals_against l t.shown (map line_of rows) ≡ Ok tt) where
    abbrev lines : List Line
    lines = map line_of rows

    parts_sound : SoundReport l (record { head = head_of t; lines = lines }) × (file ≡ report_text l (record { head = head_of t; lines = lines }))
    parts_sound =
        let a = (top_spell l layout).sound (start file) (t, q) top in
        let occasion = a.1.0 in
        let shown = a.1.1 in
        let platform = t.shown.platform in
        let b = rows_sound l platform layout.some (text_clean platform shown.1) 512 q rows titles in
        let s = totals_sound l t.shown lines shown.2.0 agree in
        let is : t ≡ record { occasion = t.occasion; shown = shown_for l platform lines } = λ i. record { occasion = t.occasion; shown = record { publisher = s.0 i; platform = platform; figures = s.1 i } } in
        let long = length-map rows line_of in
        let figures : list_all is_low (shown_numbers l.ytd (totals (column_count l) lines)) ≡ true = sym (ap (list_all is_low) s.1) ∙ shown.2.1 in
        let numbers = low_lines l.ytd (column_count l) rows b.2 in (
          record {
            head = record { criteria = occasion.0; platform = shown.1; date = occasion.1 };
            some = omega (arith, b.0);
            most = omega (arith, b.1);
            lines = sound_lines l.ytd (column_count l) rows b.2;
            low = grind (arith, nat_tests, all_pass_append);
          },
          a.2 ∙ ap (λ m. top_text l t ++ m) (b.3 ∙ rows_text l.ytd platform rows) ∙ text_parts l t.occasion platform lines t is,
        )

    parts_granted : read_file l file ≡ Ok (record { head = head_of t; rows = rows })
    parts_granted = grind arith

  pub file_sound : (rd : Reading) → read_file l file ≡ Ok rd → SoundReport l (reported rd) × (file ≡ report_text l (reported rd))
  file_sound rd h =
      let a = then_ok (top_at l (start file)) (λ t. and_then (rows_at 512 l t.0.shown.platform t.1) (λ rows. and_then (totals_against l t.0.shown (map line_of rows)) (λ x. Ok (record { head = head_of t.0; rows = rows })))) rd h in
      let t = a.0.0 in
      let b = then_ok (rows_at 512 l t.shown.platform a.0.1) (λ rows. and_then (totals_against l t.shown (map line_of rows)) (λ x. Ok (record { head = head_of t; rows = rows }))) rd a.2 in
      let c = then_ok (totals_against l t.shown (map line_of b.0)) (λ x. Ok (record { head = head_of t; rows = b.0 })) rd b.2 in
      subst (λ x. SoundReport l (reported x) × (file ≡ report_text l (reported x))) (ok_same (record { head = head_of t; rows = b.0 }) rd c.2) (parts_sound t a.0.1 b.0 a.1 b.1 c.1)

  module _ (head : Head) (x : Line) (xs : List Line) (sound : SoundReport l (record { head = head; lines = x ∷ xs })) (is : file ≡ report_text l (record { head = head; lines = x ∷ xs })) where
    abbrev top : Top
    top = record { occasion = record { criteria = head.criteria; date = record { year = head.year; month = head.month; day = head.day } }; shown = shown_for l head.platform (x ∷ xs) }

    abbrev reading : Reading
    reading = record { head = head; rows = map row_of (x ∷ xs) }

    parts_complete : read_file l file ≡ Ok reading
    parts_complete =
        let platform = head.platform in
        let titles = flat_map (title_line l.ytd platform) (x ∷ xs) in
        let low = low_parts l.ytd (column_count l) (x ∷ xs) sound.low in
        let shown : GoodShown l.ytd (column_count l) top.shown = (publisher_good l.ytd (column_count l) (x ∷ xs) sound.lines, sound.head.platform, (length_sums l.ytd (column_count l) (x ∷ xs), low.0)) in
        let a = (top_spell l layout).complete top (start file) titles tt ((sound.head.criteria, sound.head.date), shown) (is ∙ sym (text_parts l top.occasion platform (x ∷ xs) top refl)) in
        let back = lines_of_rows (x ∷ xs) in
        let text = sym (rows_text l.ytd platform (map row_of (x ∷ xs)) ∙ ap (flat_map (title_line l.ytd platform)) back) in
        let long = length-map xs row_of in
        let most : length (x ∷ xs) ≤ 512 = sound.most in
        let b = rows_complete l platform layout.some (text_clean platform sound.head.platform) 511 a.0 (row_of x) (map row_of xs) (omega arith) (good_rows l.ytd (column_count l) (x ∷ xs) sound.lines low.1) (a.2 ∙ text) in
        let c = ap (totals_against l top.shown) back ∙ totals_complete l platform (x ∷ xs) in
        parts_granted top a.0 (map row_of (x ∷ xs)) a.1 b c

  pub file_complete : (r : Report) → SoundReport l r → file ≡ report_text l r → (rd : Reading) × (read_file l file ≡ Ok rd) × (reported rd ≡ r)
  file_complete r sound is = by_lines r.lines sound is
    where
      by_lines : (ls : List Line) → SoundReport l (record { head = r.head; lines = ls }) → file ≡ report_text l (record { head = r.head; lines = ls }) → (rd : Reading) × (read_file l file ≡ Ok rd) × (reported rd ≡ record { head = r.head; lines = ls })
      by_lines [] sound is = absurd (omega (arith, sound.some))
      by_lines (x ∷ xs) sound is = (record { head = r.head; rows = map row_of (x ∷ xs) }, parts_complete r.head x xs sound is, λ i. record { head = r.head; lines = lines_of_rows (x ∷ xs) i })

pub exact : Exact
exact l file layout = record { sound = file_sound l file layout; complete = file_complete l file layout }
