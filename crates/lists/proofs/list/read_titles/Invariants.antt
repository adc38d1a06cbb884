use Rattle.std.proofs.Common.{◌≤◌}
use Rattle.groups.specs.Views.{left}
use Rattle.lists.specs.Lists.{read_entries, read_list}
use Rattle.lists.proofs.Filling.{Filling}
use Rattle.lists.proofs.list.read_titles.Given as goal

-- the titles so far are read, and those that are left are still to come
abbrev pub invariant-loop-group : goal.invariant-loop-group
invariant-loop-group l = record {
  filling : Filling (read_list l.list) (read_entries l.count (left l.group-iterator)) l.count l.initial.table l.table;
  few : l.count ≤ 512;
}
