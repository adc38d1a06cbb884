-- How a report is written: lines of cells with commas between them, each ended by CR LF.
use Rattle.std.specs.Prelude.{ℕ, ◌+◌, ◌/◌, ◌%◌, Bool, true, false, List, [], ◌∷◌, ◌++◌, map, length, codes, decimal}
use Rattle.std.specs.List.{flat_map}
use Rattle.columns.specs.Calendar.{digits}
use Rattle.columns.specs.Layouts.{Layout}
use Rattle.reports.specs.Reports.{Head, Line, Report, Usage, shared_publisher, shown_numbers, totals}

abbrev pub line_end : List ℕ
line_end = 13 ∷ 10 ∷ []

-- a cell with the comma before it
abbrev pub next_cell : List ℕ → List ℕ
next_cell text = 44 ∷ text

-- a line, by its first cell and the others
abbrev pub line_text : List ℕ → List (List ℕ) → List ℕ
line_text first others = first ++ (flat_map next_cell others ++ line_end)

-- a number below 100, in two digits
abbrev pub two_digits : ℕ → List ℕ
two_digits n = (48 + n / 10) ∷ (48 + n % 10) ∷ []

-- a date, as 2009-03-01
abbrev pub date_text : ℕ → ℕ → ℕ → List ℕ
date_text y m d = digits y ++ (codes "-" ++ (two_digits m ++ (codes "-" ++ two_digits d)))

abbrev pub ytd_headings : Bool → List (List ℕ)
ytd_headings true = codes "YTD Total" ∷ codes "YTD HTML" ∷ codes "YTD PDF" ∷ []
ytd_headings false = []

-- a line of the table: its five texts, and its numbers
abbrev pub usage_line : Bool → List ℕ → List ℕ → List ℕ → List ℕ → List ℕ → Usage → List ℕ
usage_line ytd name publisher platform print online u =
    line_text name (publisher ∷ platform ∷ print ∷ online ∷ map decimal (shown_numbers ytd u))

-- the four lines above the table
abbrev pub front_text : Layout → Head → List ℕ
front_text l h =
    line_text l.report (l.description ∷ []) ++ (line_text h.criteria [] ++ (line_text (codes "Date run:") [] ++ line_text (date_text h.year h.month h.day) []))

abbrev pub heading_line : Layout → List ℕ
heading_line l =
    line_text [] (codes "Publisher" ∷ codes "Platform" ∷ codes "Print ISSN" ∷ codes "Online ISSN" ∷ (l.headings ++ ytd_headings l.ytd))

abbrev pub total_line : Bool → ℕ → List ℕ → List Line → List ℕ
total_line ytd n platform ls =
    usage_line ytd (codes "Total for all journals") (shared_publisher ls) platform [] [] (totals n ls)

abbrev pub title_line : Bool → List ℕ → Line → List ℕ
title_line ytd platform t = usage_line ytd t.name t.publisher platform t.print t.online t.usage

-- the whole report
abbrev pub report_text : Layout → Report → List ℕ
report_text l r =
    front_text l r.head ++ (heading_line l ++ (total_line l.ytd (length l.headings) r.head.platform r.lines ++ flat_map (title_line l.ytd r.head.platform) r.lines))
