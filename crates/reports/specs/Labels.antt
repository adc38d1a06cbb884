-- The five cells with which a line of the table begins.
use Rattle.std.specs.Prelude.{ℕ, Bool, List, [], ◌∷◌, ◌++◌}
use Rattle.std.specs.List.{flat_map}
use Rattle.reports.specs.declared.line.Label.{Label}
use Rattle.reports.specs.Reports.{Usage}
use Rattle.reports.specs.Written.{next_cell, usage_line}

-- without the end of the line
abbrev pub label_text : Label → List ℕ
label_text l = l.name.now ++ flat_map next_cell (l.publisher.now ∷ l.platform.now ∷ l.print.now ∷ l.online.now ∷ [])

-- the line that begins so
abbrev pub labelled_line : Bool → Label → Usage → List ℕ
labelled_line ytd l u =
    usage_line ytd l.name.now l.publisher.now l.platform.now l.print.now l.online.now u
