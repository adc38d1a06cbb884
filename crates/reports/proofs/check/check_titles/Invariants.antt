-- The titles before this one are what they should be.
use Rattle.std.proofs.Common.{◌≡◌, map, drop}
use Rattle.titles.specs.Titles.{entry_of}
use Rattle.reports.specs.Answers.{titles_ground}
use Rattle.reports.proofs.check.check_titles.Given as goal

abbrev pub invariant-loop-index : goal.invariant-loop-index
invariant-loop-index l = titles_ground l.index (drop l.index (map entry_of l.titles)) ≡ titles_ground 0 (map entry_of l.titles)
