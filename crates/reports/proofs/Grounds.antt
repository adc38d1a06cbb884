-- The grounds of a refusal, one after another.
use Rattle.std.proofs.Common.{◌≡◌, ℕ, ◌+◌, ◌*◌, ◌<◌, ◌≤◌, Bool, true, false, List, [], ◌∷◌, ◌++◌, map, length, get_or, drop, Some, None, Ok, Err, Option, sym, refl, ap, ◌∙◌, append_assoc, arith}
use Rattle.std.proofs.lemmas.List.{at_drop_all, at_drop_more, get_or-map, length-map}
use Rattle.std.proofs.lemmas.Bool.{le-leb, lt-leb}
use Rattle.std.proofs.lemmas.Bool.Decides.{nat_tests}
use Rattle.std.specs.List.{list_all}
use Rattle.titles.specs.declared.title.Title.{Title as TitleOfList}
use Rattle.titles.specs.declared.title.TitleFault.{TitleFault}
use Rattle.titles.specs.Titles.{Entry, entry_of, judge}
use Rattle.reports.specs.declared.counted.Counted.{Counted}
use Rattle.reports.specs.declared.refusal.WriteRefusal.{WriteRefusal}
use Rattle.reports.specs.declared.refusal.WriteRefusal.TheVariants.{Buffer, Number, Title}
use Rattle.reports.specs.Answers.{Subject, answer, buffer_ground, columns_of, first_ground, grounds, head_grounds, outcome, report_about, table_grounds, text_about, title_ground, titles_ground}
use Rattle.reports.specs.Checks.{Checked}
use Rattle.reports.specs.Counting.{html_sum, lines_of, pdf_sum}
use Rattle.reports.specs.Reports.{Head, Line, Usage, is_low, shown_numbers, table_numbers, totals}
use Rattle.columns.specs.Layouts.{Layout}
use Rattle.reports.specs.Tables.{lines_from, usage_by}
use Rattle.reports.specs.Written.{report_text}
use Rattle.reports.proofs.Heights.{low_table}
use Rattle.reports.proofs.Lines.{summed}

module _ (titles : List TitleOfList) (i : ℕ) where
  module _ (d : TitleOfList) (h : i < length titles) where
    judged_next : titles_ground i (drop i (map entry_of titles)) ≡ title_ground i (judge (entry_of (get_or titles i d))) (titles_ground (i + 1) (drop (i + 1) (map entry_of titles)))
    judged_next =
        let long = length-map titles entry_of in
        at_drop_more (titles_ground i) (map entry_of titles) i (entry_of d) (omega arith) ∙ ap (λ e. title_ground i (judge e) (titles_ground (i + 1) (drop (i + 1) (map entry_of titles)))) (get_or-map entry_of titles i d (entry_of d) h)

    pub titles_more : (e : Entry) → Ok e ≡ judge (entry_of (get_or titles i d)) → titles_ground (i + 1) (drop (i + 1) (map entry_of titles)) ≡ titles_ground i (drop i (map entry_of titles))
    titles_more e fine = rw (judged_next, ← fine) refl

    pub titles_stop : (fault : TitleFault) → Err fault ≡ judge (entry_of (get_or titles i d)) → Some (Title i fault) ≡ titles_ground i (drop i (map entry_of titles))
    titles_stop fault bad = rw (judged_next, ← bad) refl

  pub titles_all : length titles ≤ i → None ≡ titles_ground i (drop i (map entry_of titles))
  titles_all h = let long = length-map titles entry_of in sym (at_drop_all (titles_ground i) (map entry_of titles) i (omega arith))

first_none : (gs hs : List (Option WriteRefusal)) → None ≡ first_ground gs → first_ground hs ≡ first_ground (gs ++ hs)
first_none [] hs e = refl
first_none (None ∷ gs) hs e = first_none gs hs e
first_none (Some g ∷ gs) hs e = cc

first_some : (e : WriteRefusal) (gs hs : List (Option WriteRefusal)) → Some e ≡ first_ground gs → Some e ≡ first_ground (gs ++ hs)
first_some e [] hs is = cc
first_some e (None ∷ gs) hs is = first_some e gs hs is
first_some e (Some g ∷ gs) hs is = is

module _ (s : Subject) where
  pub head_stops : (e : WriteRefusal) → Some e ≡ first_ground (head_grounds s.head) → Checked s (Err e)
  head_stops e is = record { refused = first_some e (head_grounds s.head) (table_grounds s) is; columns = tt; lines = tt }

  module _ (head : None ≡ first_ground (head_grounds s.head)) where
    stops : (e : WriteRefusal) → Some e ≡ first_ground (table_grounds s) → Checked s (Err e)
    stops e is = record { refused = is ∙ first_none (head_grounds s.head) (table_grounds s) head; columns = tt; lines = tt }

    pub title_stops : length s.entries ≡ s.titles → (e : WriteRefusal) → Some e ≡ titles_ground 0 s.entries → Checked s (Err e)
    title_stops count e is = stops e (grind (arith, nat_tests))

-- the numbers of the line for all journals, as they were counted under the layout l
module _ (layout l : Layout) (n count : ℕ) (ytd : Bool) (cells : List ℕ) (ts : List TitleOfList) (head : Head) (u : Usage) where
  abbrev s : Subject
  s = record { layout = layout; titles = count; cells = cells; entries = map entry_of ts; head = head }

  module _ (headed : None ≡ first_ground (head_grounds head)) (counted : length ts ≡ count) (titles : None ≡ titles_ground 0 s.entries) (scheme : l ≡ layout) (columns : n ≡ length l.headings) (table : length cells ≡ length ts * n * 2) (shown : ytd ≡ l.ytd) (is : u ≡ usage_by (html_sum cells n (length ts)) (pdf_sum cells n (length ts)) n) where
    long : length s.entries ≡ count
    long = length-map ts entry_of ∙ counted

    same : n ≡ columns_of s
    same = columns ∙ ap (λ (x : Layout). length x.headings) scheme

    fits : length cells ≡ count * columns_of s * 2
    fits = table ∙ (λ i. counted i * same i * 2)

    low : list_all is_low (table_numbers layout.ytd (columns_of s) (report_about s).lines) ≡ list_all is_low (shown_numbers ytd u)
    low =
        low_table cells (columns_of s) s.entries layout.ytd
        ∙ sym ((λ i. list_all is_low (shown_numbers ((shown ∙ ap (λ (x : Layout). x.ytd) scheme) i) ((is ∙ summed cells n ts) i))) ∙ ap (λ k. list_all is_low (shown_numbers layout.ytd (totals k (lines_from cells k 0 s.entries)))) same)

    pub high_stops : list_all is_low (shown_numbers ytd u) ≡ false → Checked s (Err Number)
    high_stops high = stops s headed Number (let f = fits in let g = low ∙ high in let h = long in grind (arith, nat_tests))

    pub low_passes : list_all is_low (shown_numbers ytd u) ≡ true → (c : Counted) → c.table.columns ≡ n → lines_of c.table ≡ lines_from cells n 0 s.entries → Checked s (Ok c)
    low_passes fine c its ls =
        let none : None ≡ first_ground (table_grounds s) = let f = fits in let g = low ∙ fine in let h = long in grind (arith, nat_tests) in
        record {
          refused = none ∙ first_none (head_grounds head) (table_grounds s) headed;
          columns = its ∙ same;
          lines = ls ∙ ap (λ k. lines_from cells k 0 s.entries) same;
        }

module _ (s : Subject) (room : ℕ) where
  grouped : first_ground ((head_grounds s.head ++ table_grounds s) ++ buffer_ground s room ∷ []) ≡ first_ground (grounds s room)
  grouped = ap first_ground (append_assoc (head_grounds s.head) (table_grounds s) (buffer_ground s room ∷ []))

  pub answer_refused : (e : WriteRefusal) → Checked s (Err e) → Err e ≡ answer s room
  answer_refused e is = ap (λ g. outcome g (length (text_about s))) (first_some e (head_grounds s.head ++ table_grounds s) (buffer_ground s room ∷ []) is.refused ∙ grouped)

  module _ (c : Counted) (is : Checked s (Ok c)) where
    left : first_ground (buffer_ground s room ∷ []) ≡ first_ground (grounds s room)
    left = first_none (head_grounds s.head ++ table_grounds s) (buffer_ground s room ∷ []) is.refused ∙ grouped

    pub answer_short : room < length (text_about s) → Err Buffer ≡ answer s room
    answer_short short = rw (← left, lt-leb (length (text_about s)) room short) refl

    pub answer_given : length (text_about s) ≤ room → Ok (length (text_about s)) ≡ answer s room
    answer_given fits = rw (← left, le-leb (length (text_about s)) room fits) refl

-- the text of a report is that of its layout, its head and its lines
pub text_is : (s : Subject) (l : Layout) (ls : List Line) → l ≡ s.layout → ls ≡ (report_about s).lines → report_text l (record { head = s.head; lines = ls }) ≡ text_about s
text_is s l ls layout same = λ i. report_text (layout i) (record { head = s.head; lines = same i })
