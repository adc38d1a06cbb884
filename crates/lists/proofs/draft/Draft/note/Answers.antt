use Rattle.std.proofs.Common.{◌≡◌, ◌<◌, ◌≤◌, Some, Ok, Err, rules, ap, ◌∙◌}
use Rattle.std.proofs.lemmas.Result.{err_from_is_err_and}
use Rattle.groups.specs.Views.{frame_of}
use Rattle.titles.specs.Places.{map_ok}
use Rattle.lists.specs.Entries.{known_of, last_of}
use Rattle.lists.proofs.Fielding.{field_by_bytes}
use Rattle.lists.proofs.draft.Draft.note.Goals as goal

pub returns-in_err-hold-clause-noted : goal.returns-in_err-hold-clause-noted
returns-in_err-hold-clause-noted c =
    let p = err_from_is_err_and c.from_residual-in_err-hold.result c.from_residual-in_err-hold.ensures.1 in
    let f = frame_of c.args.block.now in
    let rises : last_of c.args.self.now < f.tag = search rules in
    let below : f.tag ≤ 4 = search rules in
    let whole : f.contents ≡ Some c.in_ok-bytes.bytes.now = search rules in
    let said = field_by_bytes (last_of c.args.self.now) f c.in_ok-bytes.bytes.now (known_of c.args.self.now) (Err _) rises below whole (rw c.in_ok-field.ensures at c.in_err-hold.ensures) in
    ap (map_ok (λ _. known_of c.hold.new.self)) (p.1 ∙ ap Err p.2) ∙ said

pub returns-clause-noted : goal.returns-clause-noted
returns-clause-noted c =
    let f = frame_of c.args.block.now in
    let rises : last_of c.args.self.now < f.tag = search rules in
    let below : f.tag ≤ 4 = search rules in
    let whole : f.contents ≡ Some c.in_ok-bytes.bytes.now = search rules in
    field_by_bytes (last_of c.args.self.now) f c.in_ok-bytes.bytes.now (known_of c.args.self.now) (Ok _) rises below whole (rw c.in_ok-field.ensures at c.in_ok-hold.ensures)
