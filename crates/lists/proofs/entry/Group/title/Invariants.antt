use Rattle.std.proofs.Common.{◌≡◌, ◌≤◌, length}
use Rattle.groups.specs.Views.{ends, left}
use Rattle.lists.specs.Entries.{known_of, last_of, read_fields, read_group}
use Rattle.lists.proofs.entry.Group.title.Given as goal

-- what is left gives the whole
abbrev pub invariant-loop-field : goal.invariant-loop-field
invariant-loop-field l = record {
  whole : read_fields l.self.number l.self.place (last_of l.draft) (known_of l.draft) (left l.field-iterator) ≡ read_group l.self.number l.self.place l.self.contents.now;
  within : ends l.field-iterator ≤ length l.self.contents.now;
}
