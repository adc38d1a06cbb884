-- Fields that may stand: what each holds is what is known in the end.
use Rattle.std.proofs.Common.{◌≡◌, ℕ, ◌+◌, ◌<◌, ◌≤◌, cond, eqb, ◌⊎◌, List, [], ◌∷◌, ◌++◌, length, Some, None, Option, refl, ap, ◌∙◌, inl, inr, ⊎_elim, arith}
use Rattle.std.proofs.lemmas.Bool.{cases_Bool, eqb-true}
use Rattle.groups.specs.Frames.{Frame, choose, new_frame}
use Rattle.groups.specs.Written.{placed}
use Rattle.lists.specs.declared.fault.ListCause.TheVariants.{Field}
use Rattle.lists.specs.Broken.{Proper, last_tag}
use Rattle.lists.specs.Entries.{Known, known_at, noted, read_fields}
use Rattle.lists.specs.Fields.{field_fault, issn_of}
use Rattle.lists.specs.Written.{Rising, behind}
use Rattle.lists.proofs.Fielding.{cause_of_bytes, next_field}

pub rising_if_proper : (last : ℕ) (fields : List (ℕ × List ℕ)) → Proper last fields → Rising last fields
rising_if_proper last [] p = tt
rising_if_proper last (f ∷ fields) p = grind (arith, rising_if_proper f.0 fields p.1)

behind_first : (tag : ℕ) (p : List ℕ) (fields : List (ℕ × List ℕ)) → behind tag ((tag, p) ∷ fields) ≡ p
behind_first tag p fields = grind arith

behind_other : (t tag : ℕ) (p : List ℕ) (fields : List (ℕ × List ℕ)) → (t ≡ tag → ⊥) → behind t ((tag, p) ∷ fields) ≡ behind t fields
behind_other t tag p fields other = grind arith

-- where the bytes behind each tag have no fault, the fields may stand
pub proper_if_held : (last : ℕ) (fields : List (ℕ × List ℕ)) → Rising last fields → ((t : ℕ) → last < t → t ≤ 4 → field_fault t (behind t fields) ≡ None) → Proper last fields
proper_if_held last [] r h = tt
proper_if_held last (f ∷ fields) r h = grind (arith, behind_first, behind_other, proper_if_held f.0 fields, h)

-- such fields are passed
pub proper_passed : (n place last i : ℕ) (known : Known) (fields : List (ℕ × List ℕ)) (fs : List Frame) → Proper last fields → read_fields n place last known (placed i fields ++ fs) ≡ read_fields n place (last_tag last fields) (known_at known (placed i fields)) fs
proper_passed n place last i known [] fs p = refl
proper_passed n place last i known (f ∷ fields) fs p =
    let frame : Frame = new_frame i f.0 (Some f.1) in
    let clear = cause_of_bytes last frame f.1 p.0.0 p.0.1 refl ∙ ap (λ o. choose o None (λ fault. Some (Field fault))) p.0.2 in
    next_field n place last known frame (placed (i + 3 + length f.1) fields ++ fs) clear
    ∙ proper_passed n place f.0 (i + 3 + length f.1) (noted f.0 f.1 known) fields fs p.1

-- what is known behind one tag: the value of the last field that has it
abbrev pub part : {V : Type 0} → ℕ → (List ℕ → Option V) → Option V → List (ℕ × List ℕ) → Option V
part t value known [] = known
part t value known (f ∷ fields) = part t value (cond (eqb t f.0) (value f.1) known) fields

-- what is known in the end, tag by tag
pub record Parts (known : Known) (fields : List (ℕ × List ℕ)) (all : Known) : Type 0 where
  pub name : all.name ≡ part 1 Some known.name fields
  pub publisher : all.publisher ≡ part 2 Some known.publisher fields
  pub print : all.print ≡ part 3 issn_of known.print fields
  pub online : all.online ≡ part 4 issn_of known.online fields

pub parts : (i : ℕ) (known : Known) (fields : List (ℕ × List ℕ)) → Parts known fields (known_at known (placed i fields))
parts i known [] = record { name = refl; publisher = refl; print = refl; online = refl }
parts i known (f ∷ fields) = grind (arith, parts (i + 3 + length f.1) (noted f.0 f.1 known) fields)

part_stays : {V : Type 0} (t : ℕ) (value : List ℕ → Option V) (known : Option V) (last : ℕ) (fields : List (ℕ × List ℕ)) → Proper last fields → t ≤ last → part t value known fields ≡ known
part_stays t value known last [] p h = refl
part_stays t value known last (f ∷ fields) p h = grind (arith, part_stays t value known f.0 fields)

-- a tag that no field has; or the one field that has it says what is known behind it
abbrev Absent : {V : Type 0} → ℕ → (List ℕ → Option V) → Option V → List (ℕ × List ℕ) → Type 0
Absent t value known fields = (part t value known fields ≡ known) × (behind t fields ≡ [])

record Present {V : Type 0} (t : ℕ) (value : List ℕ → Option V) (known : Option V) (fields : List (ℕ × List ℕ)) : Type 0 where
  is : part t value known fields ≡ value (behind t fields)
  right : field_fault t (behind t fields) ≡ None

absent_or_present : {V : Type 0} (t : ℕ) (value : List ℕ → Option V) (known : Option V) (last : ℕ) (fields : List (ℕ × List ℕ)) → Proper last fields → Absent t value known fields ⊎ Present t value known fields
absent_or_present t value known last [] p = inl (refl, refl)
absent_or_present t value known last (f ∷ fields) p =
    ⊎_elim
    (λ e. let same = eqb-true t f.0 e in
    let stays = part_stays t value (value f.1) f.0 fields p.1 (omega arith) in
    inr (record { is = grind arith; right = grind arith }))
    (λ e. grind (arith, absent_or_present t value known f.0 fields p.1))
    (cases_Bool (eqb t f.0))

-- what a field of a text says
pub text_found : (t last : ℕ) (fields : List (ℕ × List ℕ)) (x : List ℕ) → Proper last fields → part t Some None fields ≡ Some x → (behind t fields ≡ x) × (field_fault t x ≡ None)
text_found t last fields x p e = grind (arith, absent_or_present)

pub text_there : (t last : ℕ) (fields : List (ℕ × List ℕ)) (x : List ℕ) → Proper last fields → behind t fields ≡ x → (length x ≡ 0 → ⊥) → part t Some None fields ≡ Some x
text_there t last fields x p e some = grind (arith, absent_or_present)

-- what a field of an ISSN says; where there is none, it is blank
pub issn_found : (t last : ℕ) (fields : List (ℕ × List ℕ)) → Proper last fields → field_fault t [] ≡ None → (part t issn_of None fields ≡ issn_of (behind t fields)) × (field_fault t (behind t fields) ≡ None)
issn_found t last fields p blank = grind (arith, absent_or_present t issn_of None last fields)
