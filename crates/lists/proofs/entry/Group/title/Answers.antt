use Rattle.std.proofs.Common.{◌+◌, Err, ap, sym, ◌∙◌, arith}
use Rattle.groups.specs.Views.{frame_of, left}
use Rattle.lists.specs.Entries.{known_of, last_of, read_fields}
use Rattle.lists.proofs.Fielding.{faulty_field, field_passed, refused_field}
use Rattle.lists.proofs.Unfit.{cause_within}
use Rattle.lists.proofs.entry.Group.title.Goals as goal

-- the fault lies in the field, and the field in the group
pub fault_at-requires-clause-byte : goal.fault_at-requires-clause-byte
fault_at-requires-clause-byte c =
    let group = c.args.self.now in
    let row = c.loop-field in
    let field = frame_of c.in-Some.field in
    let refused = refused_field (last_of row.draft) field (known_of row.draft) c.in-Err.cause c.in-Err.ensures.noted in
    omega (arith, group.fits, c.in-Some.ensures.steps.within, cause_within (last_of row.draft) field c.in-Err.cause (group.place + 3 + field.place) refused)

pub returns-in-Err : goal.returns-in-Err
returns-in-Err c =
    let group = c.args.self.now in
    let row = c.loop-field in
    let field = frame_of c.in-Some.field in
    let refused = refused_field (last_of row.draft) field (known_of row.draft) c.in-Err.cause c.in-Err.ensures.noted in
    let faulty = faulty_field group.number group.place (last_of row.draft) (known_of row.draft) field (left c.next.new.self) c.in-Err.cause refused in
    let came = ap (read_fields group.number group.place (last_of row.draft) (known_of row.draft)) c.in-Some.ensures.steps.came in
    ap Err c.fault_at.ensures ∙ sym faulty ∙ sym came ∙ row.invariant.whole

pub loop-field-preserved : goal.loop-field-preserved
loop-field-preserved c =
    let group = c.args.self.now in
    let row = c.loop-field in
    let came = ap (read_fields group.number group.place (last_of row.draft) (known_of row.draft)) c.in-Some.ensures.steps.came in
    let passed = field_passed group.number group.place (last_of row.draft) (known_of row.draft) (frame_of c.in-Some.field) (left c.next.new.self) (known_of c.note.new.self) c.in_default.ensures.noted in
    let last = ap (λ last. read_fields group.number group.place last (known_of c.note.new.self) (left c.next.new.self)) c.in_default.ensures.last in
    record { whole = last ∙ sym passed ∙ sym came ∙ row.invariant.whole; within = omega (arith, c.in-Some.ensures.steps.within) }

pub returns : goal.returns
returns c =
    let group = c.args.self.now in
    let row = c.loop-field in
    let came = ap (read_fields group.number group.place (last_of row.draft) (known_of row.draft)) c.in-None.ensures.steps.came.0 in
    c.finish.ensures ∙ sym came ∙ row.invariant.whole
