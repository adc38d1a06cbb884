-- What is wrong with a list that spells no titles.
use Rattle.std.specs.Prelude.{◌≡◌, ℕ, ◌+◌, ◌<◌, ◌≤◌, ◌⊎◌, List, [], ◌∷◌, ◌++◌, length, Some, None, Err}
use Rattle.groups.specs.Frames.{Frame, counted, new_frame}
use Rattle.groups.specs.Written.{placed, written_row}
use Rattle.titles.specs.Titles.{Entry}
use Rattle.lists.specs.declared.fault.ListCause.{ListCause}
use Rattle.lists.specs.declared.fault.ListCause.TheVariants.{NoGroup, SurplusGroup, BrokenGroup, MissingField}
use Rattle.lists.specs.declared.fault.ListFault.{ListFault}
use Rattle.lists.specs.declared.field.Field.{Field}
use Rattle.lists.specs.Entries.{Known, complete, fault_at, group_contents, known_at, nothing_known}
use Rattle.lists.specs.Faults.{group_fault, new_fault}
use Rattle.lists.specs.Fields.{cause_of, field_fault, tag_of}
use Rattle.lists.specs.Written.{SpellAll, written_groups}

-- fields that may stand: the tags rise from behind `last`, and the bytes behind each have no fault
abbrev pub Proper : ℕ → List (ℕ × List ℕ) → Type 0
Proper last [] = Unit {0}
Proper last (f ∷ fields) = ((last < f.0) × (f.0 ≤ 4) × (field_fault f.0 f.1 ≡ None)) × Proper f.0 fields

-- the tag of the last field
abbrev pub last_tag : ℕ → List (ℕ × List ℕ) → ℕ
last_tag last [] = last
last_tag last (f ∷ fields) = last_tag f.0 fields

-- what is wrong with the entry n behind fields that may stand, the last of which has the tag `last`: where nothing is
-- left, the name or the publisher is missing, which lies at the group; else the next field may not stand, whose tag is
-- the byte k of the group's contents
abbrev pub WrongField : ℕ → ℕ → ℕ → ℕ → Known → List ℕ → ListFault → Type 0
WrongField n place k last known [] fault = (field : Field) × (complete known ≡ Err field) × (fault ≡ new_fault n (tag_of field) place MissingField)
WrongField n place k last known (tag ∷ bs) fault =
    (cause : ListCause) × (cause_of last (new_frame k tag (counted bs)) ≡ Some cause) × (fault ≡ fault_at n (place + 3 + k) tag cause)

-- the contents of the group at `place` begin with fields that may stand, and go wrong behind them
pub record FaultyGroup (n place : ℕ) (contents : List ℕ) (fault : ListFault) : Type 0 where
  pub fields : List (ℕ × List ℕ)
  pub rest : List ℕ
  pub proper : Proper 0 fields
  pub bytes : contents ≡ written_row fields ++ rest
  pub wrong : WrongField n place (length (written_row fields)) (last_tag 0 fields) (known_at nothing_known (placed 0 fields)) rest fault

-- what is wrong with the block that begins the entry n: it is the 513th; or no whole group; or its contents are wrong
abbrev pub WrongGroup : ℕ → Frame → ListFault → Type 0
WrongGroup n f fault =
    ((n ≡ 512) × (fault ≡ group_fault n f.place SurplusGroup)) ⊎ (((n < 512) × (group_contents f ≡ None) × (fault ≡ group_fault n f.place BrokenGroup)) ⊎ ((p : List ℕ) × (n < 512) × (group_contents f ≡ Some p) × FaultyGroup n f.place p fault))

-- what is wrong behind n groups that spell titles, from the byte `place` on: there is none of them and nothing else; or
-- the next block is wrong
abbrev pub WrongRest : ℕ → ℕ → List ℕ → ListFault → Type 0
WrongRest n place [] fault = (n ≡ 0) × (fault ≡ group_fault 0 0 NoGroup)
WrongRest n place (tag ∷ bs) fault = WrongGroup n (new_frame place tag (counted bs)) fault

-- the list begins with groups that spell titles, 512 at most, and goes wrong behind them
pub record FaultyList (bs : List ℕ) (fault : ListFault) : Type 0 where
  pub parts : List (List ℕ)
  pub entries : List Entry
  pub rest : List ℕ
  pub spell : SpellAll parts entries
  pub few : length entries ≤ 512
  pub bytes : bs ≡ written_groups parts ++ rest
  pub wrong : WrongRest (length entries) (length (written_groups parts)) rest fault
