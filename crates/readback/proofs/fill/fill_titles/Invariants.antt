use Rattle.std.proofs.Common.{◌≡◌, ◌-◌}
use Rattle.cells.specs.Cells.{place_of}
use Rattle.readback.specs.Answers.{held_by}
use Rattle.readback.specs.Lent.{SameLent}
use Rattle.readback.specs.Passes.{filled_row, new_filling, over}
use Rattle.readback.proofs.fill.fill_titles.Given as goal

abbrev pub invariant-loop-title : goal.invariant-loop-title
invariant-loop-title g l =
    let s = g.S.ColumnScheme.layout l.scheme in
    SameLent l.initial.tables l.tables
    × (over (filled_row s) (512 - l.title) s l.platform (place_of l.cells) (record { count = l.title; tables = held_by l.tables }) ≡ over (filled_row s) 512 s l.platform (place_of l.initial.cells) (new_filling (held_by l.initial.tables)))
