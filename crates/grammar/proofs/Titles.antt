-- A title's line.
use Rattle.std.proofs.Common.{◌≡◌, ℕ, ◌+◌, ◌≤◌, Bool, true, false, List, [], ◌∷◌, ◌++◌, map, length, decimal, sum, sym, refl, ap, ◌∙◌, append_assoc, append-nil, arith, length-append}
use Rattle.std.proofs.lemmas.Grind.{common_steps}
use Rattle.std.proofs.lemmas.Bool.Decides.{nat_tests}
use mathlib.Core.List.{map-append}
use Rattle.std.specs.List.{list_all}
use Rattle.texts.specs.Texts.{is_text}
use Rattle.titles.specs.Titles.{Entry, is_blank_or_issn, issn_bytes, new_entry}
use Rattle.reports.proofs.Low.{all_pass_append}
use Rattle.reports.specs.Reports.{Usage, is_low, shown_numbers, ytd_numbers}
use Rattle.reports.specs.Written.{title_line}
use Rattle.cells.proofs.Judges.{issn_judge, number_judge, sum_judge, text_judge, word_judge}
use Rattle.cells.proofs.Reading.{Clean}
use Rattle.grammar.specs.Files.{line_of}
use Rattle.grammar.specs.Lines.{Row, entry_at, names_at, none, row_at, usage_at, year_to_date_at}
use Rattle.grammar.specs.Sound.{SoundYear}
use Rattle.grammar.proofs.Cells.{cell, ended, ended_parts, five_cells, line_cells}
use Rattle.grammar.proofs.Numbers.{numbers_spell, some_figures}
use Rattle.grammar.proofs.Spelling.{Anything, Spells, close, follow, give, restate}

-- the year to date by format, where it makes up the total
abbrev GoodYear : ℕ → ℕ × ℕ → Type 0
GoodYear total v = (v.0 + v.1 ≡ total) × (is_low total ≡ true) × (is_low v.0 ≡ true) × (is_low v.1 ≡ true)

year_spell : (total : ℕ) → Spells (year_to_date_at total) Anything (GoodYear total) (λ v. ended true (decimal total ∷ decimal v.0 ∷ decimal v.1 ∷ []))
year_spell total =
    restate (λ v good. (good.1.1.0.0, good.0.1, good.1.0, good.1.1.0.1)) (λ v good. ((omega arith, good.1), (good.2, ((good.0, good.3), tt)))) (λ v good. simp (append_assoc, append-nil))
    (follow (λ (v : ℕ × ℕ). total) (cell (sum_judge 0 total) false) (λ t made. follow (λ v. v.0) (cell number_judge false) (λ h good. follow (λ v. v.1) (cell (sum_judge h total) true) (λ f good. give (h, f) (refl, (refl, (omega (arith, made.0), tt))) (λ v k i. (k.1.0 i, k.0 i))))))

-- a title's numbers: one to each column, the year to date that belongs to them, and none too high to be shown
abbrev pub GoodUsage : Bool → ℕ → Usage → Type 0
GoodUsage ytd n u = (length u.columns ≡ n) × SoundYear ytd u × (list_all is_low (shown_numbers ytd u) ≡ true)

abbrev Low : List ℕ → Type 0
Low ns = list_all is_low ns ≡ true

low_up : (ns : List ℕ) (a b c : ℕ) → Low ns → is_low a ≡ true → is_low b ≡ true → is_low c ≡ true → Low (ns ++ (a ∷ b ∷ c ∷ []))
low_up ns a b c low x y z = grind (arith, nat_tests, all_pass_append)

low_down : (ns : List ℕ) (a b c : ℕ) → Low (ns ++ (a ∷ b ∷ c ∷ [])) → Low ns × (is_low a ≡ true) × (is_low b ≡ true) × (is_low c ≡ true)
low_down ns a b c low = grind (arith, nat_tests, all_pass_append)

-- the numbers as they are read: the columns, and the year to date
usage_text : (u : Usage) → ended false (map decimal u.columns) ++ (ended true (map decimal (ytd_numbers true u)) ++ []) ≡ ended true (map decimal (shown_numbers true u))
usage_text u =
    let all = ended_parts (map decimal u.columns) (map decimal (ytd_numbers true u)) refl in
    let split = map-append decimal u.columns (ytd_numbers true u) in
    grind (arith, common_steps)

pub usage_spell : (ytd : Bool) (n : ℕ) → Spells (usage_at ytd n) Anything (GoodUsage ytd n) (λ u. ended true (map decimal (shown_numbers ytd u)))
usage_spell true n =
    restate (λ u good. let y = good.1.0 in (good.0.0, y.0, low_up u.columns (sum u.columns) u.html u.pdf good.0.1 y.1 y.2 y.3))
    (λ u good. let low = low_down u.columns (sum u.columns) u.html u.pdf good.2 in ((good.0, low.0), ((good.1, low.1, low.2, low.3), tt))) (λ u good. usage_text u)
    (follow (λ (u : Usage). u.columns) (numbers_spell false n) (λ x good. follow (λ u. (u.html, u.pdf)) (year_spell (sum x)) (λ y good. give (record { columns = x; html = y.0; pdf = y.1 }) (refl, (refl, tt)) (λ u k i. record { columns = k.1.0 i; html = (k.0 i).0; pdf = (k.0 i).1 }))))
usage_spell false n =
    restate (λ u good. (good.1.0.0, good.0, ap (list_all is_low) (append-nil u.columns) ∙ good.1.0.1))
    (λ u good. (good.1, ((good.0, sym (ap (list_all is_low) (append-nil u.columns)) ∙ good.2), tt)))
    (λ u good. append-nil (ended true (map decimal u.columns)) ∙ ap (λ ns. ended true (map decimal ns)) (sym (append-nil u.columns)))
    (close {Known = SoundYear false} (follow (λ (u : Usage). u.columns) (numbers_spell true n) (λ x good. give (record { columns = x; html = 0; pdf = 0 }) (refl, (refl, refl)) (λ u k i. record { columns = k.0 i; html = k.1.0 i; pdf = k.1.1 i }))))

-- the five cells that say which title it is
abbrev pub GoodEntry : Entry → Type 0
GoodEntry e = (is_text e.name ≡ true) × (is_text e.publisher ≡ true) × (is_blank_or_issn e.print ≡ true) × (is_blank_or_issn e.online ≡ true)

module _ (platform : List ℕ) (clean : Clean platform) where
  names_spell : Spells (names_at platform) Anything (λ v. (is_text v.0 ≡ true) × (is_text v.1 ≡ true)) (λ v. ended false (v.0 ∷ v.1 ∷ platform ∷ []))
  names_spell =
      restate (λ v good. (good.0, good.1.0)) (λ v good. (good.0, (good.1, (tt, tt)))) (λ v good. simp (append_assoc, append-nil))
      (follow (λ (v : List ℕ × List ℕ). v.0) (cell text_judge false) (λ n good. follow (λ v. v.1) (cell text_judge false) (λ b good. follow (λ v. tt) (cell (word_judge platform clean) false) (λ w good. give (n, b) (refl, (refl, (refl, tt))) (λ v k i. (k.1.1.0 i, k.1.0 i))))))

  entry_spell : Spells (entry_at platform) Anything GoodEntry (λ e. ended false (e.name ∷ e.publisher ∷ platform ∷ issn_bytes e.print ∷ issn_bytes e.online ∷ []))
  entry_spell =
      restate (λ e good. (good.0.0, good.0.1, good.1.0, good.1.1.0)) (λ e good. ((good.0, good.1), (good.2, (good.3, tt))))
      (λ e good. five_cells e.name e.publisher platform (issn_bytes e.print) (issn_bytes e.online) [] ∙ append-nil (ended false (e.name ∷ e.publisher ∷ platform ∷ issn_bytes e.print ∷ issn_bytes e.online ∷ [])))
      (follow (λ (e : Entry). (e.name, e.publisher)) names_spell (λ n good. follow (λ e. e.print) (cell issn_judge false) (λ p good. follow (λ e. e.online) (cell issn_judge false) (λ o good. give (new_entry n.0 n.1 p o) (refl, (refl, (refl, tt))) (λ e k i. new_entry (k.1.1.0 i).0 (k.1.1.0 i).1 (k.1.0 i) (k.0 i))))))

some_shown : (ytd : Bool) (u : Usage) → 1 ≤ length u.columns → none (map decimal (shown_numbers ytd u)) ≡ false
some_shown ytd u some =
    let e = length-append u.columns (ytd_numbers ytd u) in
    some_figures (shown_numbers ytd u) (length (shown_numbers ytd u)) (omega arith) refl

-- a title's line under a scheme of n columns
abbrev pub GoodRow : Bool → ℕ → Row → Type 0
GoodRow ytd n r = GoodEntry r.entry × GoodUsage ytd n r.usage

abbrev pub row_text : Bool → List ℕ → Row → List ℕ
row_text ytd platform r = title_line ytd platform (line_of r)

-- the line as it is read: five cells, and the numbers
row_text_lem : (ytd : Bool) (platform : List ℕ) (r : Row) → 1 ≤ length r.usage.columns → ended false (r.entry.name ∷ r.entry.publisher ∷ platform ∷ issn_bytes r.entry.print ∷ issn_bytes r.entry.online ∷ []) ++ (ended true (map decimal (shown_numbers ytd r.usage)) ++ []) ≡ row_text ytd platform r
row_text_lem ytd platform r some =
    let e = r.entry in
    let five = e.name ∷ e.publisher ∷ platform ∷ issn_bytes e.print ∷ issn_bytes e.online ∷ [] in
    let numbers = map decimal (shown_numbers ytd r.usage) in
    ap (λ m. ended false five ++ m) (append-nil (ended true numbers))
    ∙ ended_parts five numbers (some_shown ytd r.usage some)
    ∙ line_cells e.name (e.publisher ∷ platform ∷ issn_bytes e.print ∷ issn_bytes e.online ∷ numbers)

pub row_spell : (ytd : Bool) (n : ℕ) (platform : List ℕ) → 1 ≤ n → Clean platform → Spells (row_at ytd n platform) Anything (GoodRow ytd n) (row_text ytd platform)
row_spell ytd n platform some clean =
    restate (λ r good. (good.0, good.1.0)) (λ r good. (good.0, (good.1, tt))) (λ r good. row_text_lem ytd platform r (omega (arith, good.1.0)))
    (follow (λ (r : Row). r.entry) (entry_spell platform clean) (λ e good. follow (λ r. r.usage) (usage_spell ytd n) (λ u good. give (record { entry = e; usage = u }) (refl, (refl, tt)) (λ r k i. record { entry = k.1.0 i; usage = k.0 i }))))
