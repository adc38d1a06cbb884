-- One field of a group: it may stand, or it is the fault of the group.
use Rattle.std.proofs.Common.{◌≡◌, ℕ, ◌+◌, ◌<◌, ◌≤◌, List, ◌∷◌, Some, None, Ok, Err, Result, arith, rules}
use Rattle.groups.specs.Frames.{Frame, bytes_of, choose}
use Rattle.groups.proofs.Whole.{Whole}
use Rattle.lists.specs.declared.fault.FieldFault.{FieldFault}
use Rattle.lists.specs.declared.fault.ListCause.{ListCause}
use Rattle.lists.specs.declared.fault.ListCause.TheVariants.{Field}
use Rattle.lists.specs.Entries.{Known, fault_at, noted, read_fields, with_bytes, with_field}
use Rattle.lists.specs.Fields.{cause_of, field_fault}

-- the cause of a field whose tag may stand and whose bytes are all there is the fault of its bytes
pub cause_of_bytes : (last : ℕ) (f : Frame) (bs : List ℕ) → last < f.tag → f.tag ≤ 4 → f.contents ≡ Some bs → cause_of last f ≡ choose (field_fault f.tag bs) None (λ fault. Some (Field fault))
cause_of_bytes last f bs a b e = grind arith

-- an answer about the bytes of a field, as one about the field
abbrev pub as_cause : Result Known FieldFault → Result Known ListCause
as_cause (Ok known) = Ok known
as_cause (Err fault) = Err (Field fault)

-- what the bytes of such a field say is what the field says
pub field_by_bytes : (last : ℕ) (f : Frame) (bs : List ℕ) (known : Known) (r : Result Known FieldFault) → last < f.tag → f.tag ≤ 4 → f.contents ≡ Some bs → r ≡ with_bytes f.tag bs known → as_cause r ≡ with_field last f known
field_by_bytes last f bs known r a b e h = search rules

-- a field that may stand is noted with what is known
pub next_field : (n place last : ℕ) (known : Known) (f : Frame) (fs : List Frame) → cause_of last f ≡ None → read_fields n place last known (f ∷ fs) ≡ read_fields n place f.tag (noted f.tag (bytes_of f.contents) known) fs
next_field n place last known f fs e = cc

-- one that may not is the fault of the group
pub faulty_field : (n place last : ℕ) (known : Known) (f : Frame) (fs : List Frame) (cause : ListCause) → cause_of last f ≡ Some cause → read_fields n place last known (f ∷ fs) ≡ Err (fault_at n (place + 3 + f.place) f.tag cause)
faulty_field n place last known f fs cause e = cc

-- a field that is noted leaves what the others say
pub field_passed : (n place last : ℕ) (known : Known) (f : Frame) (fs : List Frame) (k : Known) → Ok k ≡ with_field last f known → read_fields n place last known (f ∷ fs) ≡ read_fields n place f.tag k fs
field_passed n place last known f fs k e = grind arith

-- and one that is refused has a cause, which the group tells
pub refused_field : (last : ℕ) (f : Frame) (known : Known) (cause : ListCause) → Err cause ≡ with_field last f known → cause_of last f ≡ Some cause
refused_field last f known cause e = grind arith

-- a field that may stand behind one with the tag `last`
pub record Stands (last : ℕ) (f : Frame) : Type 0 where
  pub rises : last < f.tag
  pub known : f.tag ≤ 4
  pub whole : Whole f
  pub clear : field_fault f.tag (bytes_of f.contents) ≡ None

pub stands_if_clear : (last : ℕ) (f : Frame) → cause_of last f ≡ None → Stands last f
stands_if_clear last f e = search rules
