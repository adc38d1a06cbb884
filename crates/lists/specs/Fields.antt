-- The fields of a group, and why one may not stand.
use Rattle.std.specs.Borrow.{Bor}
use Rattle.std.specs.Prelude.{◌≡◌, ℕ, ◌<◌, ◌≤◌, Bool, cond, ◌||◌, List, [], ◌∷◌, Some, None, Ok, Err, Option, Result, nat_le, nat_lt}
use Rattle.groups.specs.Frames.{Frame, choose}
use Rattle.titles.specs.declared.issn.Issn.{Issn as IssnOfTitle}
use Rattle.titles.specs.Issns.{read_issn}
use Rattle.titles.specs.Texts.{read_text}
use Rattle.lists.specs.declared.fault.FieldFault.{FieldFault}
use Rattle.lists.specs.declared.fault.FieldFault.TheVariants.{Text, Issn}
use Rattle.lists.specs.declared.fault.ListCause.{ListCause}
use Rattle.lists.specs.declared.fault.ListCause.TheVariants.{MisplacedTag, CutField, Field}
use Rattle.lists.specs.declared.field.Field.{Field as NamedField}
use Rattle.lists.specs.declared.field.Field.TheVariants.{Name, Publisher, Print, Online}

-- the tag of a field
abbrev pub tag_of : NamedField → ℕ
tag_of Name = 1
tag_of Publisher = 2
tag_of Print = 3
tag_of Online = 4

-- the field with this tag, or the cause that no field has it
abbrev pub Tagged : ℕ → Result NamedField ListCause → Type 0
Tagged tag (Ok field) = tag_of field ≡ tag
Tagged tag (Err cause) = (cause ≡ MisplacedTag) × (1 ≤ tag → 4 < tag)

-- the fault of an answer, turned into that of a field
abbrev pub fault_in : {A E : Type 0} → (E → FieldFault) → Result A E → Option FieldFault
fault_in turned (Ok x) = None
fault_in turned (Err e) = Some (turned e)

-- what is wrong with bytes that should be a text
abbrev pub text_fault : List ℕ → Option FieldFault
text_fault bs = fault_in Text (read_text bs)

-- what is wrong with bytes that should be an ISSN; none of them is a blank one
abbrev pub issn_fault : List ℕ → Option FieldFault
issn_fault [] = None
issn_fault (b ∷ bs) = fault_in Issn (read_issn (b ∷ bs))

-- what is wrong with the bytes behind a tag: 1 name and 2 publisher are texts, 3 print and 4 online are ISSNs
abbrev pub field_fault : ℕ → List ℕ → Option FieldFault
field_fault tag bs = cond (nat_le tag 2) (text_fault bs) (issn_fault bs)

abbrev pub ok_in : {A E : Type 0} → Result A E → Option A
ok_in (Ok x) = Some x
ok_in (Err e) = None

-- the ISSN that bytes are; none of them is a blank one
abbrev pub issn_of : List ℕ → Option IssnOfTitle
issn_of bs = ok_in (read_issn bs)

-- the tag is no field's, or not above the one before it
abbrev pub misplaced : ℕ → ℕ → Bool
misplaced last tag = nat_le tag last || nat_lt 4 tag

-- why the field f may not stand behind one with the tag `last`: first its tag, then its end, then its bytes
abbrev pub cause_of : ℕ → Frame → Option ListCause
cause_of last f =
    cond (misplaced last f.tag) (Some MisplacedTag) (choose f.contents (Some CutField) (λ bs. choose (field_fault f.tag bs) None (λ fault. Some (Field fault))))

-- the bytes themselves, where they have no fault
abbrev pub read_bytes : Option FieldFault → List ℕ → Result (List ℕ) FieldFault
read_bytes fault bs = choose fault (Ok bs) Err

-- what the lent bytes hold
abbrev pub held_or : {E : Type 0} → Result (Bor (List ℕ)) E → Result (List ℕ) E
held_or (Ok r) = Ok r.now
held_or (Err e) = Err e
