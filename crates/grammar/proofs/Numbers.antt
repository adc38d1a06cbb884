-- Rows of numbers.
use Rattle.std.proofs.Common.{◌≡◌, ℕ, zero, suc, ◌≤◌, Bool, true, false, ◌&&◌, eqb, List, [], ◌∷◌, ◌++◌, map, length, decimal, sym, refl, ap, arith}
use Rattle.std.proofs.lemmas.Grind.{common_steps}
use Rattle.std.proofs.lemmas.Bool.{eq-eqb, ne_eqb}
use Rattle.std.specs.List.{list_all}
use Rattle.reports.specs.Reports.{is_low}
use Rattle.cells.specs.Cells.{end_text}
use Rattle.cells.proofs.Judges.{number_judge}
use Rattle.grammar.specs.Lines.{none, numbers_at}
use Rattle.grammar.proofs.Cells.{cell, ended}
use Rattle.grammar.proofs.Spelling.{Anything, Spells, close, follow, give, restate}

-- a row of so many numbers that may be shown
abbrev pub Figures : ℕ → List ℕ → Type 0
Figures n ns = (length ns ≡ n) × (list_all is_low ns ≡ true)

abbrev head_of : List ℕ → ℕ
head_of [] = 0
head_of (n ∷ ns) = n

abbrev tail_of : List ℕ → List ℕ
tail_of [] = []
tail_of (n ∷ ns) = ns

abbrev Nonempty : List ℕ → Type 0
Nonempty ns = 1 ≤ length ns

only_so : (n : ℕ) (ns v : List ℕ) → tail_of v ≡ ns → head_of v ≡ n → Nonempty v → v ≡ n ∷ ns
only_so n ns v t h some = grind (arith, common_steps)

-- one number more
abbrev Grown : ℕ → List ℕ → Type 0
Grown m v = Nonempty v × ((is_low (head_of v) ≡ true) × (Figures m (tail_of v) × Unit {0}))

grown_up : (m : ℕ) (v : List ℕ) → Grown m v → Figures (suc m) v
grown_up m v g = grind (arith, common_steps)

grown_down : (m : ℕ) (v : List ℕ) → Figures (suc m) v → Grown m v
grown_down m v f = grind (arith, common_steps)

last_number : (ns : List ℕ) (m : ℕ) → length ns ≡ m → eqb m 0 ≡ none (map decimal ns)
last_number [] m long = eq-eqb m 0 (omega arith)
last_number (n ∷ ns) m long = ne_eqb m 0 (λ z. omega arith)

numbers_text : (ends : Bool) (m : ℕ) (v : List ℕ) → Figures (suc m) v → (decimal (head_of v) ++ end_text (ends && eqb m 0)) ++ (ended ends (map decimal (tail_of v)) ++ []) ≡ ended ends (map decimal v)
numbers_text ends m [] f = absurd (omega (arith, f.0))
numbers_text ends m (n ∷ ns) f =
    let long : suc (length ns) ≡ suc m = f.0 in
    let last = last_number ns m (omega arith) in
    grind (arith, common_steps)

nothing : (v : List ℕ) → length v ≡ 0 → v ≡ []
nothing v e = grind (arith, common_steps)

pub numbers_spell : (ends : Bool) (n : ℕ) → Spells (numbers_at ends n) Anything (Figures n) (λ ns. ended ends (map decimal ns))
numbers_spell ends zero =
    restate (λ v good. (ap length good.0, ap (list_all is_low) good.0)) (λ v good. (nothing v good.0, tt)) (λ v good. sym (ap (λ ns. ended ends (map decimal ns)) (nothing v good.0)))
    (close (give {Known = λ v. v ≡ []} [] refl (λ w k. k)))
numbers_spell ends (suc m) =
    restate (grown_up m) (grown_down m) (numbers_text ends m)
    (close {Known = Nonempty} (follow head_of (cell number_judge (ends && eqb m 0)) (λ n low. follow tail_of (numbers_spell ends m) (λ ns good. give (n ∷ ns) (refl, (refl, (omega arith))) (λ v k. only_so n ns v k.0 k.1.0 k.1.1)))))

pub some_figures : (ns : List ℕ) (m : ℕ) → 1 ≤ m → length ns ≡ m → none (map decimal ns) ≡ false
some_figures ns m some long = grind (arith, common_steps)
