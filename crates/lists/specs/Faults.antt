-- The faults of a title list, and where they lie.
use Rattle.std.specs.Prelude.{ℕ, ◌+◌, Option}
use Rattle.groups.specs.Frames.{choose}
use Rattle.titles.specs.Issns.{issn_fault_place}
use Rattle.titles.specs.Texts.{text_fault_place}
use Rattle.lists.specs.declared.fault.FieldFault.{FieldFault}
use Rattle.lists.specs.declared.fault.FieldFault.TheVariants.{Text, Issn}
use Rattle.lists.specs.declared.fault.ListCause.{ListCause}
use Rattle.lists.specs.declared.fault.ListCause.TheVariants.{NoGroup, SurplusGroup, BrokenGroup, MisplacedTag, CutField, Field, MissingField}
use Rattle.lists.specs.declared.fault.ListFault.{ListFault}
use Rattle.lists.specs.declared.fault.ListRefusal.{ListRefusal}
use Rattle.lists.specs.declared.fault.ListRefusal.TheVariants.{Broken, TableTooShort}

abbrev pub new_fault : ℕ → ℕ → ℕ → ListCause → ListFault
new_fault entry field byte cause = record { entry = entry; field = field; byte = byte; cause = cause }

-- a fault of the whole group that stands at this place
abbrev pub group_fault : ℕ → ℕ → ListCause → ListFault
group_fault entry place cause = new_fault entry 0 place cause

-- the byte at fault among those of the field; a wrong length lies at none
abbrev pub field_fault_place : FieldFault → Option ℕ
field_fault_place (Text fault) = text_fault_place fault
field_fault_place (Issn fault) = issn_fault_place fault

-- the field that a cause is told of, where it lies at one with this tag: 0, unless the field is missing or its bytes are at
-- fault
abbrev pub field_of : ListCause → ℕ → ℕ
field_of NoGroup tag = 0
field_of SurplusGroup tag = 0
field_of BrokenGroup tag = 0
field_of MisplacedTag tag = 0
field_of CutField tag = 0
field_of (Field fault) tag = tag
field_of MissingField tag = tag

-- the byte where a cause lies, when the field's tag stands at this place: the unfit byte, or the last sign of an ISSN with a
-- wrong sum, which stands behind the tag and the two bytes of the length; else the tag
abbrev pub byte_of : ListCause → ℕ → ℕ
byte_of NoGroup place = place
byte_of SurplusGroup place = place
byte_of BrokenGroup place = place
byte_of MisplacedTag place = place
byte_of CutField place = place
byte_of (Field fault) place = choose (field_fault_place fault) place (λ unfit. place + 3 + unfit)
byte_of MissingField place = place

-- the refusals by their numbers
abbrev pub refusal_number : ListRefusal → ℕ
refusal_number (Broken fault) = 10
refusal_number TableTooShort = 11
