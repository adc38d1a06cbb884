-- A group is at fault exactly where the fields that may stand end.
use Rattle.std.proofs.Common.{◌≡◌, ℕ, ◌+◌, ◌<◌, List, [], ◌∷◌, ◌++◌, length, drop, Some, None, Err, Option, sym, refl, ap, ◌∙◌, add-zero, zero-add, arith}
use Rattle.std.proofs.ByRecursion.{All-drop}
use Rattle.std.proofs.lemmas.List.{length-append}
use Rattle.groups.specs.Frames.{bytes_of, counted, frames, new_frame}
use Rattle.groups.specs.Written.{Bytes, placed, written_block, written_row}
use Rattle.groups.proofs.Dividing.{first_block, first_frame}
use Rattle.groups.proofs.Spelling.{block_before, counted_spelled}
use Rattle.groups.proofs.Writing.{row_written}
use Rattle.lists.specs.declared.fault.ListCause.{ListCause}
use Rattle.lists.specs.declared.fault.ListFault.{ListFault}
use Rattle.lists.specs.Broken.{FaultyGroup, Proper, WrongField, last_tag}
use Rattle.lists.specs.Entries.{Known, known_at, noted, nothing_known, read_fields, read_group}
use Rattle.lists.specs.Fields.{cause_of}
use Rattle.lists.proofs.Fielding.{faulty_field, next_field, stands_if_clear}
use Rattle.lists.proofs.Proper.{proper_passed}
use Rattle.lists.proofs.Walking.{by_blocks}

-- what is wrong behind the fields is what the group says
wrong_told : (n place k last : ℕ) (known : Known) (rest : List ℕ) (fault : ListFault) → WrongField n place k last known rest fault → read_fields n place last known (frames k rest) ≡ Err fault
wrong_told n place k last known rest fault w = grind arith

pub group_told : (n place : ℕ) (p : List ℕ) (fault : ListFault) → FaultyGroup n place p fault → read_group n place p ≡ Err fault
group_told n place p fault s =
    ap (read_group n place) s.bytes
    ∙ ap (read_fields n place 0 nothing_known) (row_written 0 s.fields s.rest ∙ ap (λ k. placed 0 s.fields ++ frames k s.rest) (zero-add (length (written_row s.fields))))
    ∙ proper_passed n place 0 0 nothing_known s.fields (frames (length (written_row s.fields)) s.rest) s.proper
    ∙ wrong_told n place (length (written_row s.fields)) (last_tag 0 s.fields) (known_at nothing_known (placed 0 s.fields)) s.rest fault s.wrong

-- fields from the byte i of the contents on that go wrong
record Stops (n place i last : ℕ) (known : Known) (bs : List ℕ) (fault : ListFault) : Type 0 where
  fields : List (ℕ × List ℕ)
  rest : List ℕ
  proper : Proper last fields
  bytes : bs ≡ written_row fields ++ rest
  wrong : WrongField n place (i + length (written_row fields)) (last_tag last fields) (known_at known (placed i fields)) rest fault

-- the same of each such row
abbrev Stopping : ℕ → ℕ → ListFault → ℕ → List ℕ → Type 0
Stopping n place fault i bs = (last : ℕ) (known : Known) → Bytes bs → read_fields n place last known (frames i bs) ≡ Err fault → Stops n place i last known bs fault

stops_first : (n place i tag : ℕ) (bs : List ℕ) (fault : ListFault) (last : ℕ) (known : Known) (o : Option ListCause) → cause_of last (new_frame i tag (counted bs)) ≡ o → ((p : List ℕ) → counted bs ≡ Some p → Stopping n place fault (i + 3 + length p) (drop (2 + length p) bs)) → Bytes bs → read_fields n place last known (frames i (tag ∷ bs)) ≡ Err fault → Stops n place i last known (tag ∷ bs) fault
stops_first n place i tag bs fault last known (Some cause) h later b e =
    let first = first_block i tag bs in
    let told = faulty_field n place last known (new_frame i tag (counted bs)) first.0 cause h in
    let said = sym (ap (read_fields n place last known) first.1) ∙ e in
    record { fields = []; rest = tag ∷ bs; proper = tt; bytes = refl; wrong = simp add-zero (cause, h, cc) }
stops_first n place i tag bs fault last known None h later b e =
    let s = stands_if_clear last (new_frame i tag (counted bs)) h in
    let p : List ℕ = bytes_of (counted bs) in
    let behind : List ℕ = drop (2 + length p) bs in
    let first = first_frame i tag bs p behind s.whole refl in
    let next = next_field n place last known (new_frame i tag (Some p)) (frames (i + 3 + length p) behind) (rw s.whole at h) in
    let r = later p s.whole tag (noted tag p known) (All-drop (λ b. b < 256) (2 + length p) bs b) (sym next ∙ sym (ap (read_fields n place last known) first) ∙ e) in
    let k : i + 3 + length p + length (written_row r.fields) ≡ i + length (written_block tag p ++ written_row r.fields) = omega (arith, length-append p (written_row r.fields)) in
    record {
      fields = (tag, p) ∷ r.fields;
      rest = r.rest;
      proper = ((s.rises, s.known, s.clear), r.proper);
      bytes = block_before tag p bs behind r.fields r.rest (counted_spelled bs p b s.whole) r.bytes;
      wrong = rw k at r.wrong;
    }

pub faulty_if_told : (n place : ℕ) (p : List ℕ) (fault : ListFault) → Bytes p → read_group n place p ≡ Err fault → FaultyGroup n place p fault
faulty_if_told n place p fault b e =
    let s = by_blocks (Stopping n place fault)
    (λ i last known b e. record { fields = []; rest = []; proper = tt; bytes = refl; wrong = grind arith })
    (λ i tag bs later last known b e. stops_first n place i tag bs fault last known (cause_of last (new_frame i tag (counted bs))) refl later b.1 e)
    0 p 0 nothing_known b e in
    record { fields = s.fields; rest = s.rest; proper = s.proper; bytes = s.bytes; wrong = simp zero-add at s.wrong }
