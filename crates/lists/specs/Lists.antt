-- What a title list says, and the table that it is read into.
use Rattle.std.specs.Prelude.{◌≡◌, ℕ, ◌+◌, ◌≤◌, cond, List, [], ◌∷◌, map, length, take, drop, Ok, Err, Result, nat_le}
use Rattle.groups.specs.Frames.{Frame, frames}
use Rattle.titles.specs.declared.title.Title.{Title}
use Rattle.titles.specs.Places.{map_ok}
use Rattle.titles.specs.Titles.{Entry, entry_of}
use Rattle.lists.specs.declared.fault.ListCause.TheVariants.{NoGroup}
use Rattle.lists.specs.declared.fault.ListFault.{ListFault}
use Rattle.lists.specs.declared.fault.ListRefusal.{ListRefusal}
use Rattle.lists.specs.declared.fault.ListRefusal.TheVariants.{Broken, TableTooShort}
use Rattle.lists.specs.Entries.{read_entry}
use Rattle.lists.specs.Faults.{group_fault, refusal_number}

-- an entry before others, where none of them has a fault
abbrev pub before : Result Entry ListFault → Result (List Entry) ListFault → Result (List Entry) ListFault
before (Ok e) others = map_ok (λ es. e ∷ es) others
before (Err fault) others = Err fault

-- the entries from the number n on, or the fault of the first that has one
abbrev pub read_entries : ℕ → List Frame → Result (List Entry) ListFault
read_entries n [] = Ok []
read_entries n (f ∷ fs) = before (read_entry n f) (read_entries (n + 1) fs)

-- the entries of a list, or its first fault
abbrev pub read_list : List ℕ → Result (List Entry) ListFault
read_list [] = Err (group_fault 0 0 NoGroup)
read_list (b ∷ bs) = read_entries 0 (frames 0 (b ∷ bs))

-- the answer to the reading of a list into a table of this length
abbrev pub answer : ℕ → Result (List Entry) ListFault → Result ℕ ListRefusal
answer size (Ok es) = cond (nat_le (length es) size) (Ok (length es)) (Err TableTooShort)
answer size (Err fault) = Err (Broken fault)

-- the answer is the refusal with this number
abbrev pub RefusedWith : ℕ → Result ℕ ListRefusal → Type 0
RefusedWith number (Ok n) = ⊥
RefusedWith number (Err refusal) = refusal_number refusal ≡ number

-- the first entries of the table say what the list says, and the others are those that it held
pub record Filled (es : List Entry) (old new : List Title) : Type 0 where
  pub read : map entry_of (take (length es) new) ≡ es
  pub others : drop (length es) new ≡ drop (length es) old

-- a list that is right has its titles in the table, and none more
abbrev pub FilledFrom : Result (List Entry) ListFault → List Title → List Title → Type 0
FilledFrom (Ok es) old new = Filled es old new
FilledFrom (Err fault) old new = ⊥

-- the table after an answer: filled, or as it was
abbrev pub TableAfter : Result ℕ ListRefusal → Result (List Entry) ListFault → List Title → List Title → Type 0
TableAfter (Ok n) said old new = FilledFrom said old new
TableAfter (Err refusal) said old new = new ≡ old

-- the list is right, and the table has room for its titles
abbrev pub Fits : Result (List Entry) ListFault → ℕ → Type 0
Fits (Ok es) size = length es ≤ size
Fits (Err fault) size = ⊥
