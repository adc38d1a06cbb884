-- What a whole run promises. `at` says what the terms of a ledger fix; the tables, the items that the source has still to
-- come and the entries are named as they were before the run, and with a prime as they are after it.
use Rattle.std.specs.Prelude.{◌≡◌, ℕ, true, List, ◌∷◌, ◌++◌, length, is_ok, Ok, Err, Result}
use Rattle.records.specs.Items.{Item}
use Rattle.records.specs.declared.request.Request.{Request}
use Rattle.runs.specs.Rules.{Setup}
use Rattle.runs.specs.Past.{granted, Past, settling}
use Rattle.runs.specs.Law.{Stands}
use Rattle.ledger.specs.declared.state.Open.{Open}
use Rattle.ledger.specs.declared.state.Settled.{Settled}
use Rattle.ledger.specs.declared.state.Terms.{Terms}
use Rattle.ledger.specs.declared.state.Unopened.{Unopened}
use Rattle.ledger.specs.Answers.{number}
use Rattle.ledger.specs.Openings.{openable}
use Rattle.ledger.specs.Views.{books, settled_books_of}
use Rattle.replay.specs.declared.row.Entry.{Entry}
use Rattle.replay.specs.Rows.{steps_of, Told}

-- a row of steps on an open ledger: with whatever past the ledger stood, it stands with the calls that the entries tell
-- put into that past
pub record Leads {R S : Type 0} (at : Terms R S → Setup) (old new : Open R S) (waiting : List Request) (cells : List ℕ) (waiting' : List Request) (cells' : List ℕ) (xs xs' : List Item) (entries entries' : List Entry) : Type 0 where
  pub terms : new.terms ≡ old.terms
  -- the steps stay what they were, and only the replies are entered
  pub steps : steps_of entries' ≡ steps_of entries
  pub law : (before : Past) → Stands (at old.terms) before (books old waiting cells) → (p : Past) × Told xs entries' p xs' × Stands (at new.terms) (p ++ before) (books new waiting' cells')

-- the run was led to its end: the calls that the entries tell, and the settling after them, are a past with which the
-- settled ledger stands; a refused opening leaves everything as it was
abbrev pub Led : {R S : Type 0} → (Terms R S → Setup) → R → S → ℕ → ℕ → List Request → List ℕ → List Request → List ℕ → List Item → List Item → List Entry → List Entry → Result (Settled R S) (Unopened R S) → Type 0
Led at rule scheme titles limit waiting cells waiting' cells' xs xs' entries entries' (Ok s) =
    (s.last.terms.rule ≡ rule) × (s.last.terms.scheme ≡ scheme) × (s.last.terms.titles ≡ titles) × (s.last.terms.limit ≡ limit) × (s.last.terms.slots ≡ length waiting)
    × ((p : Past) × Told xs entries' p xs' × Stands (at s.last.terms) (settling true granted ∷ p) (settled_books_of s waiting' cells'))
Led at rule scheme titles limit waiting cells waiting' cells' xs xs' entries entries' (Err e) =
    (e.rule ≡ rule) × (e.scheme ≡ scheme) × (number e.refusal ≡ 9)
    × (waiting' ≡ waiting) × (cells' ≡ cells) × (xs' ≡ xs) × (entries' ≡ entries)

-- a run under a scheme with so many columns
pub record Runs {R S : Type 0} (at : Terms R S → Setup) (columns : ℕ) (rule : R) (scheme : S) (titles limit : ℕ) (waiting : List Request) (cells : List ℕ) (waiting' : List Request) (cells' : List ℕ) (xs xs' : List Item) (entries entries' : List Entry) (r : Result (Settled R S) (Unopened R S)) : Type 0 where
  pub opened : is_ok r ≡ openable titles columns limit (length waiting) (length cells)
  -- the steps stay what they were, and only the replies are entered
  pub steps : steps_of entries' ≡ steps_of entries
  pub led : Led at rule scheme titles limit waiting cells waiting' cells' xs xs' entries entries' r
