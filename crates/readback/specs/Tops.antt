-- What was read of the lines above the titles.
use Rattle.std.specs.Prelude.{ℕ, List, [], ◌∷◌, codes}
use Rattle.readback.specs.declared.top.Occasion as lent
use Rattle.readback.specs.declared.top.Top as lents
use Rattle.readback.specs.declared.top.TotalLabel.{TotalLabel}
use Rattle.grammar.specs.Files.{Top}
use Rattle.grammar.specs.Lines.{Occasion, Shown}

-- the words before the columns' headings
abbrev pub label_words : List (List ℕ)
label_words = [] ∷ codes "Publisher" ∷ codes "Platform" ∷ codes "Print ISSN" ∷ codes "Online ISSN" ∷ []

abbrev pub occasion_of : lent.Occasion → Occasion
occasion_of o = record { criteria = o.criteria.now; date = o.date }

abbrev pub label_of : TotalLabel → List ℕ × List ℕ
label_of t = (t.publisher.now, t.platform.now)

-- line 6 with these numbers
abbrev pub shown_by : List ℕ → TotalLabel → Shown
shown_by figures t = record { publisher = t.publisher.now; platform = t.platform.now; figures = figures }

abbrev pub top_by : List ℕ → lents.Top → Top
top_by figures t = record { occasion = occasion_of t.occasion; shown = shown_by figures t.label }
