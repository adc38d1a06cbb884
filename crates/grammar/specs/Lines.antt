-- What each line of a report's file says. Each reading begins at a place, and ends at the place behind what it read.
use Rattle.std.specs.Prelude.{ℕ, zero, suc, ◌+◌, Bool, true, false, ◌&&◌, List, [], ◌∷◌, ◌++◌, Ok, codes, sum, Result, ◌==◌}
use Rattle.columns.specs.Layouts.{Layout}
use Rattle.titles.specs.Titles.{Entry, new_entry}
use Rattle.reports.specs.declared.header.Date.{Date}
use Rattle.reports.specs.Reports.{Usage}
use Rattle.reports.specs.Written.{ytd_headings}
use Rattle.cells.specs.declared.fault.LineFault.{LineFault}
use Rattle.cells.specs.Judged.{date_at, issn_at, note_at, number_at, sum_at, text_at, word_at}
use Rattle.cells.specs.Places.{Place, and_then}

-- a reading of A from a place on
abbrev pub Reads : Type 0 → Type 0
Reads A = Place → Result (A × Place) LineFault

abbrev pub none : List (List ℕ) → Bool
none [] = true
none (w ∷ ws) = false

-- these words to the end of the line
abbrev pub words_at : List (List ℕ) → Reads (Unit {0})
words_at [] p = Ok (tt, p)
words_at (w ∷ ws) p = and_then (word_at w (none ws) p) (λ x. words_at ws x.1)

-- so many numbers, the last of which ends the line where `ends` says so
abbrev pub numbers_at : Bool → ℕ → Reads (List ℕ)
numbers_at ends zero p = Ok ([], p)
numbers_at ends (suc m) p =
    and_then (number_at (ends && m == 0) p) (λ x. and_then (numbers_at ends m x.1) (λ y. Ok (x.0 ∷ y.0, y.1)))

-- line 1: which report it is, and what it counts
abbrev pub kind_at : Layout → Reads (Unit {0})
kind_at l p = and_then (word_at l.report false p) (λ x. word_at l.description true x.1)

-- what lines 2 to 4 say: whom the report is for, and when it was run
pub record Occasion : Type 0 where
  pub criteria : List ℕ
  pub date : Date

abbrev pub occasion_at : Reads Occasion
occasion_at p =
    and_then (text_at true p) (λ c. and_then (word_at (codes "Date run:") true c.1) (λ w. and_then (date_at true w.1) (λ d. Ok (record { criteria = c.0; date = d.0 }, d.1))))

-- line 5: the headings
abbrev pub heading_words : Layout → List (List ℕ)
heading_words l =
    [] ∷ codes "Publisher" ∷ codes "Platform" ∷ codes "Print ISSN" ∷ codes "Online ISSN" ∷ (l.headings ++ ytd_headings l.ytd)

-- how many numbers a line shows
abbrev pub figure_count : Bool → ℕ → ℕ
figure_count true n = n + 3
figure_count false n = n

-- what line 6 shows, right or not
pub record Shown : Type 0 where
  pub publisher : List ℕ
  pub platform : List ℕ
  pub figures : List ℕ

-- the first three cells of line 6
abbrev pub total_label_at : Reads (List ℕ × List ℕ)
total_label_at p =
    and_then (word_at (codes "Total for all journals") false p) (λ w. and_then (note_at false w.1) (λ b. and_then (text_at false b.1) (λ t. Ok ((b.0, t.0), t.1))))

-- line 6, under a scheme of n columns
abbrev pub totals_at : Bool → ℕ → Reads Shown
totals_at ytd n p =
    and_then (total_label_at p) (λ x. and_then (word_at [] false x.1) (λ y. and_then (word_at [] false y.1) (λ z. and_then (numbers_at true (figure_count ytd n) z.1) (λ f. Ok (record { publisher = x.0.0; platform = x.0.1; figures = f.0 }, f.1)))))

-- a title's year to date, which makes up the sum of its columns: YTD Total, YTD HTML, and YTD PDF
abbrev pub year_to_date_at : ℕ → Reads (ℕ × ℕ)
year_to_date_at total p =
    and_then (sum_at 0 total false p) (λ t. and_then (number_at false t.1) (λ h. and_then (sum_at h.0 total true h.1) (λ f. Ok ((h.0, f.0), f.1))))

-- a title's numbers; where the year to date is not shown, its sums are taken for 0
abbrev pub usage_at : Bool → ℕ → Reads Usage
usage_at true n p =
    and_then (numbers_at false n p) (λ x. and_then (year_to_date_at (sum x.0) x.1) (λ y. Ok (record { columns = x.0; html = y.0.0; pdf = y.0.1 }, y.1)))
usage_at false n p = and_then (numbers_at true n p) (λ x. Ok (record { columns = x.0; html = 0; pdf = 0 }, x.1))

-- a title's name and publisher, before the platform of line 6
abbrev pub names_at : List ℕ → Reads (List ℕ × List ℕ)
names_at platform p =
    and_then (text_at false p) (λ n. and_then (text_at false n.1) (λ b. and_then (word_at platform false b.1) (λ w. Ok ((n.0, b.0), w.1))))

abbrev pub entry_at : List ℕ → Reads Entry
entry_at platform p =
    and_then (names_at platform p) (λ n. and_then (issn_at false n.1) (λ i. and_then (issn_at false i.1) (λ o. Ok (new_entry n.0.0 n.0.1 i.0 o.0, o.1))))

-- what a title's line says: the title, and its numbers
pub record Row : Type 0 where
  pub entry : Entry
  pub usage : Usage

abbrev pub row_at : Bool → ℕ → List ℕ → Reads Row
row_at ytd n platform p =
    and_then (entry_at platform p) (λ e. and_then (usage_at ytd n e.1) (λ u. Ok (record { entry = e.0; usage = u.0 }, u.1)))
