-- What each kind of cell spells, and a line as a row of cells.
use Rattle.std.proofs.Common.{◌≡◌, ℕ, Bool, true, false, ◌&&◌, List, [], ◌∷◌, ◌++◌, Result, sym, refl, ◌∙◌, append_assoc, arith}
use Rattle.std.proofs.lemmas.Grind.{common_steps}
use Rattle.reports.specs.Written.{line_text}
use Rattle.cells.specs.declared.fault.Cause.{Cause}
use Rattle.cells.specs.Cells.{end_text}
use Rattle.cells.specs.Judged.{read_cell}
use Rattle.cells.specs.Places.{behind}
use Rattle.cells.proofs.Reading.{Judges, behind_rest, cell_complete, cell_sound}
use Rattle.grammar.specs.Lines.{none}
use Rattle.grammar.proofs.Spelling.{Anything, Spells}

pub cell : {A : Type 0} {judge : List ℕ → Result A Cause} {Good : A → Type 0} {text : A → List ℕ} → Judges judge Good text → (last : Bool) → Spells (read_cell judge last) Anything Good (λ v. text v ++ end_text last)
cell {text = text} judges last = record {
  sound = λ p y h. let s = cell_sound judges last p y h in (tt, s.0, s.1.0 ∙ sym (append_assoc (text y.0) (end_text last) y.1.rest));
  complete = λ v p m known good e. (behind last p m, cell_complete judges last v p m good (e ∙ append_assoc (text v) (end_text last) m), behind_rest last p m);
}

-- cells with their ends, the last of which ends the line where `ends` says so
abbrev pub ended : Bool → List (List ℕ) → List ℕ
ended ends [] = []
ended ends (c ∷ cs) = c ++ (end_text (ends && none cs) ++ ended ends cs)

pub line_cells : (first : List ℕ) (others : List (List ℕ)) → ended true (first ∷ others) ≡ line_text first others
line_cells first [] = refl
line_cells first (c ∷ cs) = let rest = line_cells c cs in grind (arith, common_steps)

none_behind : (xs ys : List (List ℕ)) → none ys ≡ false → none (xs ++ ys) ≡ false
none_behind [] ys some = some
none_behind (x ∷ xs) ys some = refl

pub ended_parts : (xs ys : List (List ℕ)) → none ys ≡ false → ended false xs ++ ended true ys ≡ ended true (xs ++ ys)
ended_parts [] ys some = refl
ended_parts (x ∷ xs) ys some = let rest = ended_parts xs ys some in grind (arith, common_steps, none_behind)

-- the cells before a line's numbers, as they are read: three and two
pub five_cells : (a b c d e more : List ℕ) → ended false (a ∷ b ∷ c ∷ []) ++ ((d ++ end_text false) ++ ((e ++ end_text false) ++ more)) ≡ ended false (a ∷ b ∷ c ∷ d ∷ e ∷ []) ++ more
five_cells a b c d e more = simp append_assoc
