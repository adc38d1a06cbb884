-- A list is broken exactly where the groups that spell titles end.
use Rattle.std.proofs.Common.{◌≡◌, ℕ, ◌+◌, ◌<◌, ◌≤◌, ◌↔◌, List, [], ◌∷◌, ◌++◌, map, length, drop, Some, Ok, Err, Option, Result, sym, refl, ap, ◌∙◌, inl, inr, add-zero, zero-add, arith}
use Rattle.std.proofs.ByRecursion.{All-drop}
use Rattle.std.proofs.lemmas.List.{length-append}
use Rattle.groups.specs.Frames.{Frame, choose, counted, frames, new_frame}
use Rattle.groups.specs.Written.{Bytes, placed, written_row}
use Rattle.groups.proofs.Dividing.{first_block, first_frame}
use Rattle.groups.proofs.Spelling.{block_before, counted_are_bytes, counted_spelled}
use Rattle.groups.proofs.Writing.{row_written}
use Rattle.titles.specs.Titles.{Entry}
use Rattle.lists.specs.declared.fault.ListCause.TheVariants.{BrokenGroup, SurplusGroup}
use Rattle.lists.specs.declared.fault.ListFault.{ListFault}
use Rattle.lists.specs.Broken.{FaultyList, WrongGroup, WrongRest}
use Rattle.lists.specs.Entries.{group_contents, read_entry, read_group}
use Rattle.lists.specs.Faults.{group_fault}
use Rattle.lists.specs.Lists.{before, read_entries, read_list}
use Rattle.lists.specs.Written.{SpellAll, group_of, written_groups}
use Rattle.lists.proofs.Faulting.{faulty_if_told, group_told}
use Rattle.lists.proofs.Listed.{grouped}
use Rattle.lists.proofs.Listing.{read_from_first}
use Rattle.lists.proofs.Walking.{by_blocks}
use Rattle.lists.proofs.Spelling.{spelled_group, spells_if_read}

-- what the entry n says, by the contents of its group
abbrev by_contents : ℕ → ℕ → Option (List ℕ) → Result Entry ListFault
by_contents n place o = choose o (Err (group_fault n place BrokenGroup)) (read_group n place)

within_512 : (n : ℕ) (f : Frame) → n < 512 → read_entry n f ≡ by_contents n f.place (group_contents f)
within_512 n f l = grind arith

past_512 : (n : ℕ) (f : Frame) → 512 ≤ n → read_entry n f ≡ Err (group_fault n f.place SurplusGroup)
past_512 n f l = grind arith

-- what is wrong with a block is what its entry says
entry_told : (n : ℕ) (f : Frame) (fault : ListFault) → WrongGroup n f fault → read_entry n f ≡ Err fault
entry_told n f fault (inl s) = grind (arith, past_512 n f)
entry_told n f fault (inr (inl s)) = grind (arith, within_512 n f)
entry_told n f fault (inr (inr s)) = let told = group_told n f.place s.0 fault s.3 in grind (arith, within_512 n f)

wrong_contents : (n : ℕ) (f : Frame) (fault : ListFault) (o : Option (List ℕ)) → group_contents f ≡ o → n < 512 → ((p : List ℕ) → o ≡ Some p → Bytes p) → by_contents n f.place o ≡ Err fault → WrongGroup n f fault
wrong_contents n f fault o h l b e = grind (arith, faulty_if_told)

entry_wrong : (n : ℕ) (f : Frame) (fault : ListFault) → n ≤ 512 → ((p : List ℕ) → group_contents f ≡ Some p → Bytes p) → read_entry n f ≡ Err fault → WrongGroup n f fault
entry_wrong n f fault l b e = grind (arith, past_512, within_512, wrong_contents)

-- groups that spell titles are passed
spelled_then : (n i : ℕ) (parts : List (List ℕ)) (es : List Entry) (fs : List Frame) (fault : ListFault) → SpellAll parts es → n + length es ≤ 512 → read_entries (n + length es) fs ≡ Err fault → read_entries n (placed i (map group_of parts) ++ fs) ≡ Err fault
spelled_then n i [] [] fs fault s l e = grind arith
spelled_then n i [] (x ∷ es) fs fault s l e = absurd s
spelled_then n i (p ∷ parts) [] fs fault s l e = absurd s
spelled_then n i (p ∷ parts) (x ∷ es) fs fault s l e =
    grind (arith, within_512 n (new_frame i 48 (Some p)), spelled_group n i p x s.0, spelled_then (n + 1) (i + 3 + length p) parts es fs fault s.1)

-- groups from the byte i of the list on, the first being that of the entry n, that go wrong
record Breaks (n i : ℕ) (bs : List ℕ) (fault : ListFault) : Type 0 where
  parts : List (List ℕ)
  entries : List Entry
  rest : List ℕ
  spell : SpellAll parts entries
  few : n + length entries ≤ 512
  bytes : bs ≡ written_groups parts ++ rest
  wrong : WrongRest (n + length entries) (i + length (written_groups parts)) rest fault

contents_bytes : (f : Frame) (p : List ℕ) → group_contents f ≡ Some p → f.contents ≡ Some p
contents_bytes f p e = grind arith

-- the same fault, by equal numbers
wrong_at : (n k i j : ℕ) (rest : List ℕ) (fault : ListFault) → n ≡ k → i ≡ j → WrongRest n i rest fault → WrongRest k j rest fault
wrong_at n k i j rest fault a b w = grind arith

later_broken : (x : Entry) (others : Result (List Entry) ListFault) (fault : ListFault) → before (Ok x) others ≡ Err fault → others ≡ Err fault
later_broken x others fault e = grind arith

-- the same of each such row
abbrev Breaking : ListFault → ℕ → List ℕ → Type 0
Breaking fault i bs = (n : ℕ) → n ≤ 512 → Bytes bs → read_entries n (frames i bs) ≡ Err fault → Breaks n i bs fault

breaks_first : (i tag : ℕ) (bs : List ℕ) (fault : ListFault) (n : ℕ) (r : Result Entry ListFault) → read_entry n (new_frame i tag (counted bs)) ≡ r → ((p : List ℕ) → counted bs ≡ Some p → Breaking fault (i + 3 + length p) (drop (2 + length p) bs)) → n ≤ 512 → Bytes bs → read_entries n (frames i (tag ∷ bs)) ≡ Err fault → Breaks n i (tag ∷ bs) fault
breaks_first i tag bs fault n (Err x) h later c b e =
    let f : Frame = new_frame i tag (counted bs) in
    let first = first_block i tag bs in
    let said = sym (ap (λ r. before r (read_entries (n + 1) first.0)) h) ∙ sym (ap (read_entries n) first.1) ∙ e in
    let wrong = entry_wrong n f fault c (λ p k. counted_are_bytes bs p b (contents_bytes f p k)) cc in
    record { parts = []; entries = []; rest = tag ∷ bs; spell = tt; few = omega arith; bytes = refl; wrong = simp add-zero wrong }
breaks_first i tag bs fault n (Ok x) h later c b e =
    let g = grouped n (new_frame i tag (counted bs)) x h in
    let p : List ℕ = g.contents in
    let behind : List ℕ = drop (2 + length p) bs in
    let first = first_frame i tag bs p behind g.whole refl in
    let said = sym (ap (λ r. before r (read_entries (n + 1) (frames (i + 3 + length p) behind))) (rw g.whole at h)) ∙ sym (ap (read_entries n) first) ∙ e in
    let r = later p g.whole (n + 1) (omega (arith, g.below)) (All-drop (λ b. b < 256) (2 + length p) bs b) (later_broken x (read_entries (n + 1) (frames (i + 3 + length p) behind)) fault said) in
    record {
      parts = p ∷ r.parts;
      entries = x ∷ r.entries;
      rest = r.rest;
      spell = (spells_if_read n i p x (counted_are_bytes bs p b g.whole) g.says, r.spell);
      few = omega (arith, r.few);
      bytes = block_before tag p bs behind (map group_of r.parts) r.rest (counted_spelled bs p b g.whole) r.bytes ∙ ap (λ t. written_row ((t, p) ∷ map group_of r.parts) ++ r.rest) g.tag;
      wrong = wrong_at (n + 1 + length r.entries) (n + length (x ∷ r.entries)) (i + 3 + length p + length (written_groups r.parts)) (i + length (written_groups (p ∷ r.parts))) r.rest fault (omega arith) (omega (arith, length-append p (written_groups r.parts))) r.wrong;
    }

faulty_if_broken : (bs : List ℕ) (fault : ListFault) → Bytes bs → read_list bs ≡ Err fault → FaultyList bs fault
faulty_if_broken [] fault b e =
    record { parts = []; entries = []; rest = []; spell = tt; few = omega arith; bytes = refl; wrong = (refl, cc) }
faulty_if_broken (x ∷ bs) fault b e =
    let s = by_blocks (Breaking fault)
    (λ i n c b e. cc)
    (λ i tag bs later n c b e. breaks_first i tag bs fault n (read_entry n (new_frame i tag (counted bs))) refl later c b.1 e)
    0 (x ∷ bs) 0 (omega arith) b e in
    record { parts = s.parts; entries = s.entries; rest = s.rest; spell = s.spell; few = omega (arith, s.few); bytes = s.bytes; wrong = simp zero-add at s.wrong }

broken_by : (parts : List (List ℕ)) (es : List Entry) (rest : List ℕ) (fault : ListFault) → SpellAll parts es → length es ≤ 512 → WrongRest (length es) (length (written_groups parts)) rest fault → read_list (written_groups parts ++ rest) ≡ Err fault
broken_by [] [] [] fault s l w = ap Err (sym w.1)
broken_by [] (x ∷ es) [] fault s l w = absurd s
broken_by (p ∷ parts) [] [] fault s l w = absurd s
broken_by (p ∷ parts) (x ∷ es) [] fault s l w = absurd (omega (arith, w.0))
broken_by parts es (tag ∷ rest) fault s l w =
    let k : ℕ = length (written_groups parts) in
    let first = first_block k tag rest in
    let told = ap (read_entries (length es)) first.1 ∙ ap (λ r. before r (read_entries (length es + 1) first.0)) (entry_told (length es) (new_frame k tag (counted rest)) fault w) in
    read_from_first (written_groups parts ++ tag ∷ rest) (λ z. omega (arith, length-append (written_groups parts) (tag ∷ rest)))
    ∙ ap (read_entries 0) (row_written 0 (map group_of parts) (tag ∷ rest))
    ∙ spelled_then 0 0 parts es (frames (0 + k) (tag ∷ rest)) fault s (omega arith) ((λ j. read_entries (zero-add (length es) j) (frames (zero-add k j) (tag ∷ rest))) ∙ told)

-- a list has the fault that lies behind the groups that spell titles, and no other
pub broken_where : (bs : List ℕ) (fault : ListFault) → Bytes bs → (read_list bs ≡ Err fault) ↔ FaultyList bs fault
broken_where bs fault b = (faulty_if_broken bs fault b, λ s. ap read_list s.bytes ∙ broken_by s.parts s.entries s.rest fault s.spell s.few s.wrong)
