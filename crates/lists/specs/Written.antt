-- How a title list is written, and which bytes spell titles.
use Rattle.std.specs.Prelude.{◌≡◌, ℕ, ◌<◌, ◌≤◌, true, cond, List, [], ◌∷◌, map, length, ◌==◌}
use Rattle.groups.specs.Written.{written_row}
use Rattle.titles.specs.Titles.{Entry, is_entry, issn_bytes}

-- the fields of an entry, by their tags; that of a blank ISSN has no byte
abbrev pub fields_of : Entry → List (ℕ × List ℕ)
fields_of e = (1, e.name) ∷ (2, e.publisher) ∷ (3, issn_bytes e.print) ∷ (4, issn_bytes e.online) ∷ []

-- a group with these contents
abbrev pub group_of : List ℕ → ℕ × List ℕ
group_of contents = (48, contents)

-- groups with these contents, one after the other
abbrev pub written_groups : List (List ℕ) → List ℕ
written_groups parts = written_row (map group_of parts)

-- a list of these entries
abbrev pub written_list : List Entry → List ℕ
written_list es = written_groups (map (λ e. written_row (fields_of e)) es)

-- the bytes behind a tag; none where no field has it
abbrev pub behind : ℕ → List (ℕ × List ℕ) → List ℕ
behind tag [] = []
behind tag (f ∷ fields) = cond (tag == f.0) f.1 (behind tag fields)

-- the tags are those of fields, and rise from behind `last`
abbrev pub Rising : ℕ → List (ℕ × List ℕ) → Type 0
Rising last [] = Unit {0}
Rising last (f ∷ fields) = ((last < f.0) × (f.0 ≤ 4)) × Rising f.0 fields

-- the contents of a group spell an entry: it is right, and they are fields whose tags rise and which hold what it says;
-- so a blank ISSN has an empty field or none
pub record Spells (contents : List ℕ) (e : Entry) : Type 0 where
  pub fields : List (ℕ × List ℕ)
  pub bytes : contents ≡ written_row fields
  pub rising : Rising 0 fields
  pub name : behind 1 fields ≡ e.name
  pub publisher : behind 2 fields ≡ e.publisher
  pub print : behind 3 fields ≡ issn_bytes e.print
  pub online : behind 4 fields ≡ issn_bytes e.online
  pub right : is_entry e ≡ true

-- group by group
abbrev pub SpellAll : List (List ℕ) → List Entry → Type 0
SpellAll [] [] = Unit {0}
SpellAll [] (e ∷ es) = ⊥
SpellAll (p ∷ parts) [] = ⊥
SpellAll (p ∷ parts) (e ∷ es) = Spells p e × SpellAll parts es

-- a list that holds 1 to 512 groups and nothing else, each of which spells its entry
pub record SpelledList (bs : List ℕ) (es : List Entry) : Type 0 where
  pub parts : List (List ℕ)
  pub bytes : bs ≡ written_groups parts
  pub spell : SpellAll parts es
  pub some : 1 ≤ length es
  pub few : length es ≤ 512
