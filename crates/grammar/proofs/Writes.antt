-- What the writer writes is a sound report, so it is read.
use Rattle.std.proofs.Common.{◌≡◌, ℕ, ◌+◌, ◌≤◌, Bool, true, false, List, [], ◌∷◌, map, length, is_ok, Some, None, Ok, Err, Option, Result, sym, refl, ap, ◌∙◌, arith}
use Rattle.std.proofs.lemmas.List.FromFn.{length-map-range_with_len}
use Rattle.std.specs.List.{range_with_len, list_all, AllByRecursion}
use Rattle.titles.proofs.Fitness.{read_text_lem}
use Rattle.titles.specs.declared.issn.Issn.{Issn}
use Rattle.titles.specs.declared.title.TitleFault.{TitleFault}
use Rattle.titles.specs.Titles.{Entry, check_issn, is_blank_or_issn, judge}
use Rattle.reports.proofs.Lines.{length_lines}
use Rattle.reports.proofs.Usages.{balance}
use Rattle.reports.specs.declared.refusal.WriteRefusal.{WriteRefusal}
use Rattle.reports.specs.Answers.{Subject, columns_of, first_ground, grounds, outcome, report_about, text_about, title_ground, titles_ground, unless}
use Rattle.reports.specs.Reports.{Usage, is_low}
use Rattle.reports.specs.Tables.{html_at, lines_from, pdf_at, usage_by}
use Rattle.grammar.specs.Shown.{WrittenIsRead, shown_lines, shown_of}
use Rattle.grammar.specs.Sound.{SoundLine, SoundReport}
use Rattle.grammar.proofs.Files.{file_complete}
use Rattle.grammar.proofs.Rows.{sound_line}
use Rattle.grammar.proofs.Shows.{length_shown, numbers_shown, shows_no_more}
use Rattle.grammar.proofs.Titles.{GoodEntry}

-- no ground at all, where there is no first one
no_grounds : (gs : List (Option WriteRefusal)) → first_ground gs ≡ None → AllByRecursion (λ g. g ≡ None) gs
no_grounds [] h = tt
no_grounds (None ∷ gs) h = (refl, no_grounds gs h)
no_grounds (Some g ∷ gs) h = cc

fine : (b : Bool) (g : WriteRefusal) → unless b g ≡ None → b ≡ true
fine b g h = grind arith

pub check_issn_lem : (issn : Option Issn) → is_ok (check_issn issn) ≡ is_blank_or_issn issn
check_issn_lem issn = grind arith

-- an entry in which no fault is found is a good one
judged : (e x : Entry) → judge e ≡ Ok x → GoodEntry e
judged e x h =
    let name = read_text_lem e.name in
    let publisher = read_text_lem e.publisher in
    (grind arith, grind arith, grind (arith, check_issn_lem), grind (arith, check_issn_lem))

title_fine : (t : ℕ) (e : Entry) (r : Result Entry TitleFault) (rest : Option WriteRefusal) → judge e ≡ r → title_ground t r rest ≡ None → GoodEntry e × (rest ≡ None)
title_fine t e (Ok x) rest is h = (judged e x is, h)
title_fine t e (Err fault) rest is h = cc

titles_fine : (t : ℕ) (es : List Entry) → titles_ground t es ≡ None → AllByRecursion GoodEntry es
titles_fine t [] h = tt
titles_fine t (e ∷ es) h =
    let f = title_fine t e (judge e) (titles_ground (t + 1) es) refl h in
    (f.0, titles_fine (t + 1) es f.1)

-- the lines of a count table are sound, so far as they are shown
module _ (cells : List ℕ) (n : ℕ) where
  long : (t : ℕ) → length (map (λ c. html_at cells n t c + pdf_at cells n t c) (range_with_len 0 n)) ≡ n
  long t = length-map-range_with_len (λ c. html_at cells n t c + pdf_at cells n t c) 0 n

  abbrev usage_of : ℕ → Usage
  usage_of t = usage_by (html_at cells n t) (pdf_at cells n t) n

  written_lines : (ytd : Bool) (t : ℕ) (es : List Entry) → AllByRecursion GoodEntry es → AllByRecursion (SoundLine ytd n) (shown_lines ytd (lines_from cells n t es))
  written_lines true t [] good = tt
  written_lines true t (e ∷ es) good =
      (sound_line true n e (usage_of t) good.0 (long t) (balance (html_at cells n t) (pdf_at cells n t) n), written_lines true (t + 1) es good.1)
  written_lines false t [] good = tt
  written_lines false t (e ∷ es) good =
      (sound_line false n e (record { columns = (usage_of t).columns; html = 0; pdf = 0 }) good.0 (long t) (refl, refl), written_lines false (t + 1) es good.1)

pub written_is_sound : (s : Subject) (room : ℕ) → 1 ≤ length s.entries → length s.entries ≤ 512 → first_ground (grounds s room) ≡ None → SoundReport s.layout (shown_of s.layout (report_about s))
written_is_sound s room some most granted =
    let g = no_grounds (grounds s room) granted in
    let ytd = s.layout.ytd in
    let lines = (report_about s).lines in
    let long = length_shown ytd lines ∙ length_lines s.cells (columns_of s) 0 s.entries in
    record {
      head = record { criteria = fine _ _ g.0; platform = fine _ _ g.1.0; date = fine _ _ g.1.1.0 };
      some = omega arith;
      most = omega arith;
      lines = written_lines s.cells (columns_of s) ytd 0 s.entries (titles_fine 0 s.entries g.1.1.1.1.0);
      low = ap (list_all is_low) (numbers_shown ytd (columns_of s) lines) ∙ fine _ _ g.1.1.1.1.1.1.0;
    }

granted_alone : (g : Option WriteRefusal) (n m : ℕ) → outcome g n ≡ Ok m → g ≡ None
granted_alone g n m h = grind arith

pub written_is_read : WrittenIsRead
written_is_read s room n layout some most granted =
    file_complete s.layout (text_about s) layout (shown_of s.layout (report_about s))
    (written_is_sound s room some most (granted_alone (first_ground (grounds s room)) (length (text_about s)) n granted)) (sym (shows_no_more s.layout (report_about s)))
