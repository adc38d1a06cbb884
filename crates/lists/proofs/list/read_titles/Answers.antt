use Rattle.std.proofs.Common.{◌≡◌, ◌+◌, Ok, rules, ap, sym, subst, ◌∙◌}
use Rattle.groups.specs.Views.{left}
use Rattle.titles.specs.Titles.{entry_of}
use Rattle.lists.specs.Lists.{before, read_entries, read_list}
use Rattle.lists.proofs.Filling.{Filling, filling_more, filling_past}
use Rattle.lists.proofs.list.read_titles.Goals as goal
use Rattle.lists.proofs.list.read_titles.Goals.{then-count-table, else-count-table}

pub loop-group-preserved : goal.loop-group-preserved
loop-group-preserved c =
    let row = c.loop-group in
    let said = read_list c.args.list.now in
    let old = c.args.table.now in
    let title = c.in_ok-title.title in
    let others = read_entries (row.count + 1) (left c.next.new.self) in
    let came : read_entries row.count (left row.group-iterator) ≡ before (Ok (entry_of title)) others =
    ap (read_entries row.count) c.in-Some.ensures.steps.came ∙ ap (λ r. before r others) (sym c.in_ok-title.ensures) in
    let filling = subst (λ r. Filling said r row.count old row.table) came row.invariant.filling in
    record {
      filling = elim c.if-count-table.branch [
        | then-count-table w ↦ rw w.table-is (filling_more said others row.count old row.table title filling w.if-count-table.true)
        | else-count-table w ↦ rw w.table-is (filling_past said others row.count old row.table title filling w.if-count-table.false)
      ];
      few = search rules;
    }
