use Rattle.std.proofs.Common.{◌≡◌, ◌++◌, drop}
use Rattle.cells.specs.Cells.{place_of}
use Rattle.reports.specs.Written.{ytd_headings}
use Rattle.grammar.specs.Lines.{words_at}
use Rattle.readback.proofs.top.read_headings.Given as goal

abbrev pub invariant-loop-column : goal.invariant-loop-column
invariant-loop-column g l =
    words_at (drop l.column (g.S.ColumnScheme.layout l.scheme).headings ++ ytd_headings l.ytd) (place_of l.cells) ≡ words_at ((g.S.ColumnScheme.layout l.scheme).headings ++ ytd_headings l.ytd) (place_of l.initial.cells)
