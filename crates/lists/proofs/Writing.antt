-- A list that is written spells the entries that were written.
use Rattle.std.proofs.Common.{◌≡◌, ◌≤◌, true, List, [], ◌∷◌, map, length, refl, rules}
use Rattle.std.specs.List.{AllByRecursion}
use Rattle.groups.specs.Written.{written_row}
use Rattle.titles.specs.Titles.{Entry, is_entry}
use Rattle.lists.specs.Written.{SpellAll, SpelledList, Spells, fields_of, written_list}

written_spells : (e : Entry) → is_entry e ≡ true → Spells (written_row (fields_of e)) e
written_spells e h = record {
  fields = fields_of e;
  bytes = refl;
  rising = search rules;
  name = refl;
  publisher = refl;
  print = refl;
  online = refl;
  right = h;
}

all_spell : (es : List Entry) → AllByRecursion (λ e. is_entry e ≡ true) es → SpellAll (map (λ e. written_row (fields_of e)) es) es
all_spell [] h = tt
all_spell (e ∷ es) h = (written_spells e h.0, all_spell es h.1)

pub written_list_lem : (es : List Entry) → AllByRecursion (λ e. is_entry e ≡ true) es → 1 ≤ length es → length es ≤ 512 → SpelledList (written_list es) es
written_list_lem es h some few = record { parts = map (λ e. written_row (fields_of e)) es; bytes = refl; spell = all_spell es h; some = some; few = few }
