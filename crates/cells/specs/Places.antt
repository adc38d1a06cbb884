-- Where a walk over a file stands, and how readings follow one another.
use Rattle.std.specs.Prelude.{ℕ, ◌+◌, Bool, true, false, List, Ok, Err, Result}

-- what is left of the file, and the line and the column of the cell that comes next
pub record Place : Type 0 where
  pub rest : List ℕ
  pub line : ℕ
  pub column : ℕ

abbrev pub start : List ℕ → Place
start file = record { rest = file; line = 1; column = 1 }

-- the place behind a cell, where the bytes `rest` are left: in the next column, or in the next line
abbrev pub behind : Bool → Place → List ℕ → Place
behind false p rest = record { rest = rest; line = p.line; column = p.column + 1 }
behind true p rest = record { rest = rest; line = p.line + 1; column = 1 }

-- a granted answer, by what it means, with the place where the walk then stands
abbrev pub seen : {A B P E : Type 0} → (A → B) → Result A E → P → Result (B × P) E
seen f (Ok x) p = Ok (f x, p)
seen f (Err e) p = Err e

-- one reading, and where it is granted another
abbrev pub and_then : {A B E : Type 0} → Result A E → (A → Result B E) → Result B E
and_then (Ok x) g = g x
and_then (Err e) g = Err e

-- the same, where a fault of the first becomes one of the layer above
abbrev pub onward : {A B E F : Type 0} → (E → F) → Result A E → (A → Result B F) → Result B F
onward up (Ok x) g = g x
onward up (Err e) g = Err (up e)
