use Rattle.std.proofs.Common.{◌≡◌, ◌++◌, take}
use Rattle.runs.specs.Past.{Past}
use Rattle.runs.specs.Law.{Stands}
use Rattle.ledger.specs.Views.{books, setup}
use Rattle.replay.specs.Rows.{steps_of, Told}
use Rattle.replay.proofs.runner.lead.Given as goal

abbrev pub invariant-loop-entry : goal.invariant-loop-entry
invariant-loop-entry g l =
    let at = setup g.R.ReaderRule g.S.ColumnScheme in
    (l.ledger.terms ≡ l.initial.ledger.terms)
    × (steps_of l.entry-items ≡ steps_of l.initial.entry-items)
    × ((before : Past) → Stands (at l.initial.ledger.terms) before (books l.initial.ledger l.initial.waiting l.initial.cells)
    → (p : Past) × Told (g.Src.Source.items l.initial.source) (take l.entry-index l.entry-items) p (g.Src.Source.items l.source) × Stands (at l.ledger.terms) (p ++ before) (books l.ledger l.waiting l.cells))
