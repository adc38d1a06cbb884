-- What belongs in a cell, and what is wrong with one that holds something else.
use Rattle.std.specs.Prelude.{◌≡◌, ℕ, ◌+◌, Bool, cond, List, [], ◌∷◌, Some, None, Ok, Err, Option, Result, ◌==◌}
use Rattle.std.specs.Str.{bytes_eq}
use Rattle.texts.specs.Texts.{is_text}
use Rattle.titles.specs.declared.issn.Issn.{Issn}
use Rattle.titles.specs.declared.issn.IssnFault.{IssnFault}
use Rattle.titles.specs.Issns.{read_issn}
use Rattle.reports.specs.declared.header.Date.{Date}
use Rattle.cells.specs.declared.cell.Cell.{Cell}
use Rattle.cells.specs.declared.fault.Cause.{Cause}
use Rattle.cells.specs.declared.fault.Cause.TheVariants.{WrongText, WrongNumber, WrongSum}
use Rattle.cells.specs.declared.fault.CellFault.{CellFault}
use Rattle.cells.specs.declared.fault.LineFault.{LineFault}
use Rattle.cells.specs.Cells.{Found, cell_at, found}
use Rattle.cells.specs.Dates.{read_date}
use Rattle.cells.specs.Faults.{closed, fault_at, unended}
use Rattle.cells.specs.Numbers.{number_of}
use Rattle.cells.specs.Places.{Place, and_then, onward, seen}

-- a judged cell: its content's fault first, then whether the line ends with it just where it should
abbrev pub settle : {A : Type 0} → Bool → Result A Cause → Found → Place → Result (A × Place) LineFault
settle last (Ok x) f p = and_then (closed last f.spot) (λ _. Ok (x, p))
settle last (Err cause) f p = Err (fault_at f.spot cause)

-- the next cell, by what is judged of the bytes in it
abbrev pub read_cell : {A : Type 0} → (List ℕ → Result A Cause) → Bool → Place → Result (A × Place) LineFault
read_cell judge last p = onward unended (cell_at p) (λ x. settle last (judge x.0.body) x.0 x.1)

-- r is the answer of a reading that then stands at q: the next cell is not ended, or it is settled by what a judge, who
-- may say only so of it, says of it
abbrev pub JudgedBy : {A : Type 0} → (Cell → Result A Cause → Type 0) → Bool → Result (Found × Place) CellFault → Result A LineFault → Place → Type 0
JudgedBy {A} may last (Err f) r q = r ≡ Err (unended f)
JudgedBy {A} may last (Ok x) r q =
    (c : Cell) × (found c ≡ x.0) × ((j : Result A Cause) × (may c j × (seen (λ v. v) r q ≡ settle last j x.0 x.1)))

abbrev pub or_else : {A : Type 0} → Cause → Option A → Result A Cause
or_else cause None = Err cause
or_else cause (Some x) = Ok x

-- just this text, or blank where it has no bytes
abbrev pub word_in : List ℕ → List ℕ → Result (Unit {0}) Cause
word_in word bs = cond (bytes_eq bs word) (Ok tt) (Err WrongText)

abbrev pub text_in : List ℕ → Result (List ℕ) Cause
text_in bs = cond (is_text bs) (Ok bs) (Err WrongText)

-- blank, or a text
abbrev pub note_in : List ℕ → Result (List ℕ) Cause
note_in [] = Ok []
note_in (b ∷ bs) = text_in (b ∷ bs)

abbrev pub issn_or : Result Issn IssnFault → Result (Option Issn) Cause
issn_or (Ok issn) = Ok (Some issn)
issn_or (Err fault) = Err WrongText

-- blank, or a right ISSN
abbrev pub issn_in : List ℕ → Result (Option Issn) Cause
issn_in [] = Ok None
issn_in (b ∷ bs) = issn_or (read_issn (b ∷ bs))

abbrev pub date_or : List ℕ → Result Date Cause
date_or bs = or_else WrongText (read_date bs)

abbrev pub number_in : List ℕ → Result ℕ Cause
number_in bs = or_else WrongNumber (number_of bs)

-- a number that makes up the whole together with the part
abbrev pub sum_in : ℕ → ℕ → List ℕ → Result ℕ Cause
sum_in part whole bs = and_then (number_in bs) (λ n. cond (part + n == whole) (Ok n) (Err WrongSum))

abbrev pub word_at : List ℕ → Bool → Place → Result (Unit {0} × Place) LineFault
word_at word = read_cell (word_in word)

abbrev pub text_at : Bool → Place → Result (List ℕ × Place) LineFault
text_at = read_cell text_in

abbrev pub note_at : Bool → Place → Result (List ℕ × Place) LineFault
note_at = read_cell note_in

abbrev pub issn_at : Bool → Place → Result (Option Issn × Place) LineFault
issn_at = read_cell issn_in

abbrev pub date_at : Bool → Place → Result (Date × Place) LineFault
date_at = read_cell date_or

abbrev pub number_at : Bool → Place → Result (ℕ × Place) LineFault
number_at = read_cell number_in

abbrev pub sum_at : ℕ → ℕ → Bool → Place → Result (ℕ × Place) LineFault
sum_at part whole = read_cell (sum_in part whole)
