-- An unfit byte is one of the field's.
use Rattle.std.proofs.Common.{◌≡◌, ℕ, ◌+◌, ◌<◌, ◌≤◌, Bool, List, [], ◌∷◌, length, Some, None, Option, arith}
use Rattle.groups.specs.Frames.{Frame, choose, size}
use Rattle.titles.specs.Issns.{may_stand}
use Rattle.titles.specs.Places.{first_unfit}
use Rattle.lists.specs.declared.fault.FieldFault.{FieldFault}
use Rattle.lists.specs.declared.fault.ListCause.{ListCause}
use Rattle.lists.specs.declared.fault.ListCause.TheVariants.{Field}
use Rattle.lists.specs.Faults.{byte_of, field_fault_place}
use Rattle.lists.specs.Fields.{cause_of, field_fault, issn_fault, text_fault}

-- the first byte that may not stand is one of those
first_within : (may : ℕ → ℕ → Bool) (i : ℕ) (bs : List ℕ) (k : ℕ) → first_unfit may i bs ≡ Some k → k < i + length bs
first_within may i [] k e = cc
first_within may i (b ∷ bs) k e = grind (arith, first_within may (i + 1) bs k)

text_fault_within : (bs : List ℕ) (fault : FieldFault) (k : ℕ) → text_fault bs ≡ Some fault → field_fault_place fault ≡ Some k → k < length bs
text_fault_within bs fault k h p = grind arith

issn_fault_within : (bs : List ℕ) (fault : FieldFault) (k : ℕ) → issn_fault bs ≡ Some fault → field_fault_place fault ≡ Some k → k < length bs
issn_fault_within bs fault k h p = grind (arith, first_within may_stand 0 bs k)

fault_within : (tag : ℕ) (bs : List ℕ) (fault : FieldFault) (k : ℕ) → field_fault tag bs ≡ Some fault → field_fault_place fault ≡ Some k → k < length bs
fault_within tag bs fault k h p = grind (arith, text_fault_within, issn_fault_within)

-- where the bytes of a field are at fault, the fault lies in the field
bytes_within : (bs : List ℕ) (o : Option FieldFault) (cause : ListCause) (place : ℕ) → ((fault : FieldFault) (k : ℕ) → o ≡ Some fault → field_fault_place fault ≡ Some k → k < length bs) → choose o None (λ fault. Some (Field fault)) ≡ Some cause → byte_of cause place ≤ place + (3 + length bs)
bytes_within bs o cause place within e = grind arith

-- a cause lies in its field, whose tag stands at this place
pub cause_within : (last : ℕ) (f : Frame) (cause : ListCause) (place : ℕ) → cause_of last f ≡ Some cause → byte_of cause place ≤ place + size f.contents
cause_within last f cause place e =
    let within = λ (bs : List ℕ). bytes_within bs (field_fault f.tag bs) cause place (fault_within f.tag bs) in grind (arith, within)
