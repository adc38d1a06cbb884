-- What the answer to the reading of a list says of the list and of the table.
use Rattle.std.proofs.Common.{◌≡◌, ℕ, ◌<◌, ◌≤◌, ◌↔◌, List, length, Ok, Err, Result, refl, arith}
use Rattle.titles.specs.declared.title.Title.{Title}
use Rattle.titles.specs.Titles.{Entry}
use Rattle.lists.specs.declared.fault.ListFault.{ListFault}
use Rattle.lists.specs.declared.fault.ListRefusal.{ListRefusal}
use Rattle.lists.specs.declared.fault.ListRefusal.TheVariants.{Broken}
use Rattle.lists.specs.Lists.{Filled, RefusedWith, TableAfter, answer}

abbrev Said : Type 0
Said = Result (List Entry) ListFault

-- a right list that has room is granted, and the table is filled
pub granted_if_said : (said : Said) (r : Result ℕ ListRefusal) (old new : List Title) (es : List Entry) → r ≡ answer (length old) said → TableAfter r said old new → said ≡ Ok es → length es ≤ length old → (r ≡ Ok (length es)) × Filled es old new
granted_if_said said r old new es e t s h = grind arith

-- and where it is granted, the list is right, says what the table holds, and has room
pub said_if_granted : (said : Said) (r : Result ℕ ListRefusal) (old new : List Title) (es : List Entry) → r ≡ answer (length old) said → TableAfter r said old new → r ≡ Ok (length es) → Filled es old new → (said ≡ Ok es) × (length es ≤ length old)
said_if_granted said r old new es e t g f = grind arith

-- it is refused with 10 exactly where it says nothing
pub refused_as_broken : (said : Said) (r : Result ℕ ListRefusal) (size : ℕ) (Spelled : List Entry → Type 0) → r ≡ answer size said → ((es : List Entry) → (said ≡ Ok es) ↔ Spelled es) → RefusedWith 10 r ↔ ((es : List Entry) → Spelled es → ⊥)
refused_as_broken (Ok es) r size Spelled e exact = let s = (exact es).0 refl in grind arith
refused_as_broken (Err fault) r size Spelled e exact = (λ h es s. let k = (exact es).1 s in cc, λ none. grind arith)

-- and with 11 exactly where it says more than there is room for
pub refused_as_short : (said : Said) (r : Result ℕ ListRefusal) (size : ℕ) (Spelled : List Entry → Type 0) → r ≡ answer size said → ((es : List Entry) → (said ≡ Ok es) ↔ Spelled es) → RefusedWith 11 r ↔ ((es : List Entry) × Spelled es × (size < length es))
refused_as_short said r size Spelled e exact = grind arith

-- and as broken with a fault exactly where it has that fault
pub refused_for : (said : Said) (r : Result ℕ ListRefusal) (size : ℕ) (fault : ListFault) (Faulty : Type 0) → r ≡ answer size said → (said ≡ Err fault) ↔ Faulty → (r ≡ Err (Broken fault)) ↔ Faulty
refused_for said r size fault Faulty e exact = grind arith
