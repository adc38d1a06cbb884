-- The columns before this one are counted.
use Rattle.std.proofs.Common.{◌≡◌, ℕ}
use Rattle.reports.specs.Counting.{Gives, usage_of}
use Rattle.reports.specs.Tables.{usage_by}
use Rattle.reports.proofs.counts.Counts.by_column.Given as goal

abbrev pub invariant-loop-column : goal.invariant-loop-column
invariant-loop-column g l = record {
  counted : l.counts.columns ≡ l.column;
  usage : (html pdf : ℕ → ℕ) → Gives (goal.F-post g l.formats) l.columns html pdf → usage_of l.counts ≡ usage_by html pdf l.column;
}
