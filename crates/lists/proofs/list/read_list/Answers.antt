use Rattle.std.proofs.Common.{◌≡◌, ℕ, ◌<◌, ◌≤◌, true, ◌↔◌, List, length, get_or, Ok, Err, Result, Fits, w8, rules, ap, ◌∙◌, arith}
use Rattle.std.proofs.ByRecursion.{All-from_get_or}
use Rattle.std.specs.List.{AllByRecursion}
use Rattle.titles.specs.declared.title.Title.{Title}
use Rattle.titles.specs.Titles.{Entry, is_entry}
use Rattle.lists.specs.declared.fault.ListFault.{ListFault}
use Rattle.lists.specs.declared.fault.ListRefusal.{ListRefusal}
use Rattle.lists.specs.declared.fault.ListRefusal.TheVariants.{Broken}
use Rattle.lists.specs.Broken.{FaultyList}
use Rattle.lists.specs.Lists.{Filled, RefusedWith, TableAfter, answer, read_list}
use Rattle.lists.specs.Written.{SpelledList, written_list}
use Rattle.lists.proofs.Answering.{granted_if_said, refused_as_broken, refused_as_short, refused_for, said_if_granted}
use Rattle.lists.proofs.Breaking.{broken_where}
use Rattle.lists.proofs.Listed.{spelled_list, spells_if_said}
use Rattle.lists.proofs.Writing.{written_list_lem}
use Rattle.lists.proofs.list.read_list.Goals as goal

-- the answer and the table say the rest
answered : (list : List ℕ) (r : Result ℕ ListRefusal) (old new : List Title) → ((i : ℕ) → Fits w8 (get_or list i 0)) → r ≡ answer (length old) (read_list list) → TableAfter r (read_list list) old new → record {
  read : r ≡ answer (length old) (read_list list);
  table : TableAfter r (read_list list) old new;
  exact : (es : List Entry) → (read_list list ≡ Ok es) ↔ SpelledList list es;
  granted : (es : List Entry) → ((r ≡ Ok (length es)) × Filled es old new) ↔ (SpelledList list es × (length es ≤ length old));
  broken : RefusedWith 10 r ↔ ((es : List Entry) → SpelledList list es → ⊥);
  told : (fault : ListFault) → (r ≡ Err (Broken fault)) ↔ FaultyList list fault;
  short : RefusedWith 11 r ↔ ((es : List Entry) × SpelledList list es × (length old < length es));
  written : (es : List Entry) → AllByRecursion (λ e. is_entry e ≡ true) es → 1 ≤ length es → length es ≤ 512 → length es ≤ length old → list ≡ written_list es → (r ≡ Ok (length es)) × Filled es old new;
}
answered list r old new fits read table =
    let bytes = All-from_get_or (λ b. b < 256) list 0 (λ i _. omega (arith, fits i)) in
    let exact : (es : List Entry) → (read_list list ≡ Ok es) ↔ SpelledList list es = λ es. (spells_if_said list es bytes, spelled_list list es) in
    record {
      read = read;
      table = table;
      exact = exact;
      granted = λ es. (
        λ h. let k = said_if_granted (read_list list) r old new es read table h.0 h.1 in ((exact es).0 k.0, k.1),
        λ h. granted_if_said (read_list list) r old new es read table ((exact es).1 h.0) h.1,
      );
      broken = refused_as_broken (read_list list) r (length old) (SpelledList list) read exact;
      told = λ fault. refused_for (read_list list) r (length old) fault (FaultyList list fault) read (broken_where list fault bytes);
      short = refused_as_short (read_list list) r (length old) (SpelledList list) read exact;
      written = λ es right some few room e. granted_if_said (read_list list) r old new es read table (ap read_list e ∙ spelled_list _ es (written_list_lem es right some few)) room;
    }

pub returns-in_err-count : goal.returns-in_err-count
returns-in_err-count c = answered c.args.list.now c.from_residual.result c.args.table.now c.args.table.now c.type_inv.list (search rules) (search rules)

pub returns-then-count-table : goal.returns-then-count-table
returns-then-count-table c = answered c.args.list.now _ c.args.table.now c.args.table.now c.type_inv.list (search rules) (search rules)

pub returns : goal.returns
returns c = answered c.args.list.now (Ok c.in_ok-count.count) c.args.table.now c.read_titles-2.new.table c.type_inv.list (search rules) (search rules)
