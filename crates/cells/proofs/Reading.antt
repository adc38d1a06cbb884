-- A cell is read just where the text of a value stands that its judge takes for good.
use Rattle.std.proofs.Common.{◌≡◌, ℕ, Bool, true, false, eqb, List, [], ◌∷◌, ◌++◌, length, drop, Some, None, Ok, Option, Result, sym, refl, subst, arith}
use mathlib.Core.Bool.{beq}
use Rattle.cells.specs.declared.fault.Cause.{Cause}
use Rattle.cells.specs.Cells.{Cut, Found, cell_at, cell_or, cut, end_here, end_text, found_in, new_cut, spot_at}
use Rattle.cells.specs.Faults.{unended}
use Rattle.cells.specs.Judged.{read_cell, settle}
use Rattle.cells.specs.Places.{Place, behind}
use Rattle.cells.proofs.Granted.{onward_ok}
use Rattle.cells.proofs.Walking.{end_stands, ended_later, ended_with}

-- the walk went over the text and its end, from p to q
abbrev pub Passed : List ℕ → Bool → Place → Place → Type 0
Passed text last p q = (p.rest ≡ text ++ (end_text last ++ q.rest)) × (q ≡ behind last p q.rest)

pub behind_rest : (last : Bool) (p : Place) (rest : List ℕ) → (behind last p rest).rest ≡ rest
behind_rest last p rest = grind arith

-- a cut puts the bytes apart and loses none
abbrev Parts : List ℕ → Cut → Type 0
Parts bs c = bs ≡ c.body ++ (end_text c.last ++ c.rest)

by_end : (b : ℕ) (bs : List ℕ) (c : Cut) (o : Option Bool) → end_here (b ∷ bs) ≡ o → ((d : Cut) → cut bs ≡ Some d → Parts bs d) → cut (b ∷ bs) ≡ Some c → Parts (b ∷ bs) c
by_end b bs c None here inner e = let later = ended_later b bs here in grind (arith, inner)
by_end b bs c (Some last) here inner e =
    let stands = end_stands (b ∷ bs) last here in
    let is = ended_with last (drop (length (end_text last)) (b ∷ bs)) in
    grind arith

cut_sound : (bs : List ℕ) (c : Cut) → cut bs ≡ Some c → Parts bs c
cut_sound [] c e = cc
cut_sound (b ∷ bs) c e = by_end b bs c (end_here (b ∷ bs)) refl (cut_sound bs) e

-- bytes of which none is a comma or a CR, so that none may end a cell
abbrev pub Clean : List ℕ → Type 0
Clean [] = Unit {0}
Clean (b ∷ bs) = (eqb b 44 ≡ false) × (eqb b 13 ≡ false) × Clean bs

cut_clean : (body : List ℕ) (last : Bool) (rest : List ℕ) → Clean body → cut (body ++ (end_text last ++ rest)) ≡ Some (new_cut body last rest)
cut_clean [] last rest clean = ended_with last rest
cut_clean (b ∷ body) last rest clean =
    let comma = clean.0 in
    let feed = clean.1 in
    let later = cut_clean body last rest clean.2 in
    grind arith

-- a cell that was granted was cut off, was judged well, and ended where it should
found_cut : (p : Place) (o : Option Cut) (x : Found × Place) → cell_or p o ≡ Ok x → (c : Cut) × (o ≡ Some c) × ((found_in c.body (spot_at p c.last), behind c.last p c.rest) ≡ x)
found_cut p None x e = cc
found_cut p (Some c) x e = (c, refl, cc)

settled : {A : Type 0} (last : Bool) (r : Result A Cause) (f : Found) (q : Place) (y : A × Place) → settle last r f q ≡ Ok y → (r ≡ Ok y.0) × (f.spot.last ≡ last) × (q ≡ y.1)
settled last r f q y e = (grind arith, grind arith, grind arith)

flag_self : (b : Bool) → beq b b ≡ true
flag_self b = grind arith

-- a judge grants just the good values, each where its text stands, and no such text may end a cell
pub record Judges {A : Type 0} (judge : List ℕ → Result A Cause) (Good : A → Type 0) (text : A → List ℕ) : Type 0 where
  pub sound : (bs : List ℕ) (v : A) → judge bs ≡ Ok v → Good v × (bs ≡ text v)
  pub complete : (v : A) → Good v → (judge (text v) ≡ Ok v) × Clean (text v)

module _ {A : Type 0} {judge : List ℕ → Result A Cause} {Good : A → Type 0} {text : A → List ℕ} (judges : Judges judge Good text) (last : Bool) where
  pub cell_sound : (p : Place) (y : A × Place) → read_cell judge last p ≡ Ok y → Good y.0 × Passed (text y.0) last p y.1
  cell_sound p y granted =
      let read = onward_ok unended (cell_at p) (λ x. settle last (judge x.0.body) x.0 x.1) y granted in
      let at = found_cut p (cut p.rest) read.0 read.1 in
      let c = at.0 in
      let is = settled last (judge c.body) (found_in c.body (spot_at p c.last)) (behind c.last p c.rest) y (subst (λ (x : Found × Place). settle last (judge x.0.body) x.0 x.1 ≡ Ok y) (sym at.2) read.2) in
      let good = judges.sound c.body y.0 is.0 in
      let parts = cut_sound p.rest c at.1 in
      let left = behind_rest c.last p c.rest in
      (good.0, (cc, cc))

  pub cell_complete : (v : A) (p : Place) (rest : List ℕ) → Good v → p.rest ≡ text v ++ (end_text last ++ rest) → read_cell judge last p ≡ Ok (v, behind last p rest)
  cell_complete v p rest good stands =
      let granted = judges.complete v good in
      let cutting = cut_clean (text v) last rest granted.1 in
      let ends = flag_self last in
      grind arith
