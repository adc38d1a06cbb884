-- What a group says: an entry of the list.
use Rattle.std.specs.Prelude.{ℕ, ◌+◌, cond, List, [], ◌∷◌, Some, None, Ok, Err, Option, Result, ◌==◌, nat_le}
use Rattle.groups.specs.Frames.{Frame, bytes_of, choose, contents_under, frames, held}
use Rattle.titles.specs.declared.issn.Issn.{Issn}
use Rattle.titles.specs.Titles.{Entry, new_entry}
use Rattle.lists.specs.declared.draft.Draft.{Draft}
use Rattle.lists.specs.declared.fault.FieldFault.{FieldFault}
use Rattle.lists.specs.declared.fault.ListCause.{ListCause}
use Rattle.lists.specs.declared.fault.ListCause.TheVariants.{SurplusGroup, BrokenGroup, MissingField}
use Rattle.lists.specs.declared.fault.ListFault.{ListFault}
use Rattle.lists.specs.declared.field.Field.{Field}
use Rattle.lists.specs.declared.field.Field.TheVariants.{Name, Publisher}
use Rattle.lists.specs.Faults.{byte_of, field_of, group_fault, new_fault}
use Rattle.lists.specs.Fields.{cause_of, field_fault, issn_of, tag_of}

-- what is known of an entry from some of its fields
pub record Known : Type 0 where
  pub name : Option (List ℕ)
  pub publisher : Option (List ℕ)
  pub print : Option Issn
  pub online : Option Issn

-- what a draft in lent bytes says
abbrev pub known_of : Draft → Known
known_of d = record { name = held d.name; publisher = held d.publisher; print = d.print; online = d.online }

-- the tag of the field that was noted last, or 0
abbrev pub last_of : Draft → ℕ
last_of d = choose d.last 0 tag_of

abbrev pub nothing_known : Known
nothing_known = record { name = None; publisher = None; print = None; online = None }

-- with the bytes behind a tag: they are those of the field with this tag
abbrev pub noted : ℕ → List ℕ → Known → Known
noted tag bs known = record {
  name = cond (1 == tag) (Some bs) known.name;
  publisher = cond (2 == tag) (Some bs) known.publisher;
  print = cond (3 == tag) (issn_of bs) known.print;
  online = cond (4 == tag) (issn_of bs) known.online;
}

-- the same if these bytes have no fault, else their fault
abbrev pub with_bytes : ℕ → List ℕ → Known → Result Known FieldFault
with_bytes tag bs known = choose (field_fault tag bs) (Ok (noted tag bs known)) Err

-- with a field that may stand behind one with the tag `last`, else why it may not
abbrev pub with_field : ℕ → Frame → Known → Result Known ListCause
with_field last f known = choose (cause_of last f) (Ok (noted f.tag (bytes_of f.contents) known)) Err

-- with each field
abbrev pub known_at : Known → List Frame → Known
known_at known [] = known
known_at known (f ∷ fs) = known_at (noted f.tag (bytes_of f.contents) known) fs

-- the entry, if its name and its publisher are there, else the first of these fields that is not
abbrev pub complete : Known → Result Entry Field
complete known =
    choose known.name (Err Name) (λ name. choose known.publisher (Err Publisher) (λ publisher. Ok (new_entry name publisher known.print known.online)))

-- the fault of a field of the entry n that stands at this place of the list
abbrev pub fault_at : ℕ → ℕ → ℕ → ListCause → ListFault
fault_at n place tag cause = new_fault n (field_of cause tag) (byte_of cause place) cause

-- the fault of the first field that has one; the field before them has the tag `last`, and the first byte of the
-- group's fields stands at the byte `start` of the list
abbrev pub first_fault : ℕ → ℕ → ℕ → List Frame → Option ListFault
first_fault n start last [] = None
first_fault n start last (f ∷ fs) =
    choose (cause_of last f) (first_fault n start f.tag fs) (λ cause. Some (fault_at n (start + f.place) f.tag cause))

-- the entry n, if it is complete, else the fault of the field that is missing, which lies at the group
abbrev pub entry_or : ℕ → ℕ → Result Entry Field → Result Entry ListFault
entry_or n place (Ok e) = Ok e
entry_or n place (Err field) = Err (new_fault n (tag_of field) place MissingField)

-- what the fields of the entry n say, whose group stands at `place`, where some is known from fields before them, the
-- last of which has the tag `last`: the first fault; else what is missing; else the entry
abbrev pub read_fields : ℕ → ℕ → ℕ → Known → List Frame → Result Entry ListFault
read_fields n place last known fs = choose (first_fault n (place + 3) last fs) (entry_or n place (complete (known_at known fs))) Err

-- what the contents of the group at `place` say
abbrev pub read_group : ℕ → ℕ → List ℕ → Result Entry ListFault
read_group n place contents = read_fields n place 0 nothing_known (frames 0 contents)

-- the fields of a block, if it is a group (tag 0x30) and whole
abbrev pub group_contents : Frame → Option (List ℕ)
group_contents f = contents_under 48 f

-- what the entry n says, by its block; a list has no entry 512
abbrev pub read_entry : ℕ → Frame → Result Entry ListFault
read_entry n f =
    cond (nat_le 512 n) (Err (group_fault n f.place SurplusGroup)) (choose (group_contents f) (Err (group_fault n f.place BrokenGroup)) (read_group n f.place))
