-- A list is right exactly where it spells entries.
use Rattle.std.proofs.Common.{◌≡◌, ℕ, ◌+◌, ◌<◌, ◌≤◌, List, [], ◌∷◌, map, length, Some, Ok, Err, Result, sym, refl, ap, ◌∙◌, subst, arith}
use Rattle.std.specs.List.{AllByRecursion}
use Rattle.groups.specs.Frames.{Frame, bytes_of, frames}
use Rattle.groups.specs.Written.{Bytes, placed}
use Rattle.groups.proofs.Spelling.{contents_are_bytes, row_spelled}
use Rattle.groups.proofs.Whole.{Whole, pair_of, whole_blocks_close}
use Rattle.groups.proofs.Writing.{whole_row_written}
use Rattle.titles.specs.Titles.{Entry}
use Rattle.lists.specs.declared.fault.ListFault.{ListFault}
use Rattle.lists.specs.Entries.{read_entry, read_group}
use Rattle.lists.specs.Lists.{before, read_entries, read_list}
use Rattle.lists.specs.Written.{SpellAll, SpelledList, group_of, written_groups}
use Rattle.lists.proofs.Listing.{head_of}
use Rattle.lists.proofs.Spelling.{spelled_group, spells_if_read}

spelled_entries : (n i : ℕ) (parts : List (List ℕ)) (es : List Entry) → SpellAll parts es → n + length es ≤ 512 → read_entries n (placed i (map group_of parts)) ≡ Ok es
spelled_entries n i [] [] s h = refl
spelled_entries n i [] (e ∷ es) s h = absurd s
spelled_entries n i (p ∷ parts) [] s h = absurd s
spelled_entries n i (p ∷ parts) (e ∷ es) s h = grind (arith, spelled_group n i p e s.0, spelled_entries (n + 1) (i + 3 + length p) parts es s.1)

spelled_some : (parts : List (List ℕ)) (es : List Entry) → SpellAll parts es → 1 ≤ length es → length es ≤ 512 → read_list (written_groups parts) ≡ Ok es
spelled_some [] [] s some few = absurd (omega arith)
spelled_some [] (e ∷ es) s some few = absurd s
spelled_some (p ∷ parts) es s some few = ap (read_entries 0) (whole_row_written 0 (map group_of (p ∷ parts))) ∙ spelled_entries 0 0 (p ∷ parts) es s (omega arith)

-- a list that spells entries says them
pub spelled_list : (bs : List ℕ) (es : List Entry) → SpelledList bs es → read_list bs ≡ Ok es
spelled_list bs es s = ap read_list s.bytes ∙ spelled_some s.parts es s.spell s.some s.few

-- the group of an entry that is read
pub record Grouped (n : ℕ) (f : Frame) (e : Entry) : Type 0 where
  pub contents : List ℕ
  pub below : n < 512
  pub tag : f.tag ≡ 48
  pub whole : f.contents ≡ Some contents
  pub says : read_group n f.place contents ≡ Ok e

pub grouped : (n : ℕ) (f : Frame) (e : Entry) → read_entry n f ≡ Ok e → Grouped n f e
grouped n f e r = grind arith

-- what is known of blocks that are entries and nothing else
record Said (n : ℕ) (fs : List Frame) (es : List Entry) : Type 0 where
  parts : List (List ℕ)
  whole : AllByRecursion Whole fs
  groups : map pair_of fs ≡ map group_of parts
  spell : AllByRecursion Bytes parts → SpellAll parts es
  few : n ≤ 512 → n + length es ≤ 512

said_first : (n : ℕ) (f : Frame) (fs : List Frame) (es : List Entry) (r : Result Entry ListFault) → read_entry n f ≡ r → ((es : List Entry) → read_entries (n + 1) fs ≡ Ok es → Said (n + 1) fs es) → before r (read_entries (n + 1) fs) ≡ Ok es → Said n (f ∷ fs) es
said_first n f fs es (Err fault) h others e = cc
said_first n f fs es (Ok x) h others e =
    let k = head_of x (read_entries (n + 1) fs) es e in
    let g = grouped n f x h in
    let s = others k.tail k.later in
    let b = ap bytes_of g.whole in
    let t = g.tag in
    subst (λ (es : List Entry). Said n (f ∷ fs) es) (sym k.first) (record {
      parts = g.contents ∷ s.parts;
      whole = (g.whole ∙ ap Some (sym b), s.whole);
      groups = λ j. (t j, b j) ∷ s.groups j;
      spell = λ bytes. (spells_if_read n f.place g.contents x bytes.0 g.says, s.spell bytes.1);
      few = λ _. omega (arith, g.below, s.few);
    })

said_all : (n : ℕ) (fs : List Frame) (es : List Entry) → read_entries n fs ≡ Ok es → Said n fs es
said_all n [] es e = grind arith
said_all n (f ∷ fs) es e = said_first n f fs es (read_entry n f) refl (said_all (n + 1) fs) e

parts_are_bytes : (parts : List (List ℕ)) → AllByRecursion (λ b. Bytes b.1) (map group_of parts) → AllByRecursion Bytes parts
parts_are_bytes [] b = tt
parts_are_bytes (p ∷ parts) b = (b.0, parts_are_bytes parts b.1)

some_said : (x : ℕ) (bs : List ℕ) (parts : List (List ℕ)) (es : List Entry) → SpellAll parts es → x ∷ bs ≡ written_groups parts → 1 ≤ length es
some_said x bs [] es s e = cc
some_said x bs (p ∷ parts) [] s e = absurd s
some_said x bs (p ∷ parts) (y ∷ es) s e = omega arith

-- and one that says entries spells them
pub spells_if_said : (bs : List ℕ) (es : List Entry) → Bytes bs → read_list bs ≡ Ok es → SpelledList bs es
spells_if_said [] es b e = cc
spells_if_said (x ∷ bs) es b e =
    let k = said_all 0 (frames 0 (x ∷ bs)) es e in
    let close = whole_blocks_close 0 (x ∷ bs) k.whole ∙ ap (placed 0) k.groups in
    let spelled = row_spelled 0 (x ∷ bs) (map group_of k.parts) b close in
    let spell = k.spell (parts_are_bytes k.parts (contents_are_bytes (map group_of k.parts) (subst Bytes spelled b))) in
    record { parts = k.parts; bytes = spelled; spell = spell; some = some_said x bs k.parts es spell spelled; few = omega (arith, k.few (omega arith)) }
