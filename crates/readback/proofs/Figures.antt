-- The numbers of line 6 against the sums, from the left.
use Rattle.std.proofs.Common.{◌≡◌, ℕ, suc, ◌+◌, ◌-◌, ◌≤◌, Bool, true, false, cond, not, eqb, ltb, List, [], ◌∷◌, ◌++◌, length, take, drop, set, sum, Some, None, Ok, Err, Option, Result, sym, refl, ap, ◌∙◌, arith}
use Rattle.std.proofs.Math.Seq.{take-append-add}
use Rattle.std.proofs.lemmas.List.{append-nil, set-append_right, take_at}
use Rattle.std.proofs.lemmas.Bool.Decides.{nat_tests}
use Rattle.std.specs.List.{position, position_or_len, zip}
use Rattle.cells.specs.declared.fault.Cause.TheVariants.{WrongSum}
use Rattle.cells.specs.declared.fault.LineFault.{LineFault}
use Rattle.cells.specs.Faults.{new_fault}
use Rattle.reports.specs.Reports.{Usage, shown_numbers}
use Rattle.grammar.specs.Files.{sums_against}
use Rattle.grammar.specs.Lines.{figure_count}

-- a pair of numbers that differ
abbrev pub differ : ℕ × ℕ → Bool
differ p = not (eqb p.0 p.1)

-- a wrong number, by its place behind the column c
abbrev pub told : ℕ → Option ℕ → Result (Unit {0}) LineFault
told c None = Ok tt
told c (Some place) = Err (new_fault 6 (c + place) WrongSum)

one_on : (c k : ℕ) (b : Bool) → told (c + 1) (cond b (Some k) None) ≡ told c (cond b (Some (1 + k)) None)
one_on c k true = let z : c + 1 + k ≡ c + (1 + k) = omega arith in ap (λ n. Err (new_fault 6 n WrongSum)) z
one_on c k false = refl

-- one number more, equal to its sum or not, before others of which the first wrong one is at k
turn : (c : ℕ) (b : Bool) (k many : ℕ) (r : Result (Unit {0}) LineFault) → r ≡ told (c + 1) (cond (ltb k many) (Some k) None) → cond b r (Err (new_fault 6 c WrongSum)) ≡ told c (cond (ltb (cond (not (not b)) (1 + k) 0) (suc many)) (Some (cond (not (not b)) (1 + k) 0)) None)
turn c true k many r e =
    let same : ltb k many ≡ ltb (1 + k) (suc many) = grind (arith, nat_tests) in
    e ∙ one_on c k (ltb k many) ∙ ap (λ b. told c (cond b (Some (1 + k)) None)) same
turn c false k many r e =
    let some : true ≡ ltb 0 (suc many) = grind (arith, nat_tests) in
    let z : c ≡ c + 0 = omega arith in
    ap (λ n. Err (new_fault 6 n WrongSum)) z ∙ ap (λ b. told c (cond b (Some 0) None)) some

pub first_told : (c : ℕ) (figures sums : List ℕ) → sums_against c figures sums ≡ told c (position differ (zip figures sums))
first_told c [] sums = refl
first_told c (n ∷ figures) [] = refl
first_told c (n ∷ figures) (m ∷ sums) =
    turn c (eqb n m) (position_or_len differ (zip figures sums)) (length (zip figures sums)) (sums_against (c + 1) figures sums) (first_told (c + 1) figures sums)

-- sums behind the last number are not looked at
against_front : (c : ℕ) (figures sums : List ℕ) → sums_against c figures sums ≡ sums_against c figures (take (length figures) sums)
against_front c [] sums = refl
against_front c (n ∷ figures) [] = refl
against_front c (n ∷ figures) (m ∷ sums) = ap (λ r. cond (eqb n m) r (Err (new_fault 6 c WrongSum))) (against_front (c + 1) figures sums)

pub against_shown : (figures sums shown : List ℕ) (n : ℕ) → length figures ≡ n → take n sums ≡ shown → sums_against 6 figures sums ≡ sums_against 6 figures shown
against_shown figures sums shown n many e =
    against_front 6 figures sums ∙ ap (λ k. sums_against 6 figures (take k sums)) many ∙ ap (sums_against 6 figures) e
