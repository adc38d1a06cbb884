-- What a granted answer came from.
use Rattle.std.proofs.Common.{◌≡◌, Bool, true, cond, Some, None, Ok, Err, Result, refl, arith}
use Rattle.std.specs.Bool.{then_some}
use Rattle.cells.specs.Places.{and_then, onward}

-- a fault is not granted
pub no_ok : {A E : Type 0} (e : E) (y : A) → ◌≡◌ {A = Result A E} (Err e) (Ok y) → ⊥
no_ok e y p = cc

pub ok_same : {A E : Type 0} (x y : A) → ◌≡◌ {A = Result A E} (Ok x) (Ok y) → x ≡ y
ok_same x y p = cc

-- where one reading follows another, both were granted
pub then_ok : {A B E : Type 0} (r : Result A E) (g : A → Result B E) (y : B) → and_then r g ≡ Ok y → (x : A) × (r ≡ Ok x) × (g x ≡ Ok y)
then_ok (Ok x) g y p = (x, refl, p)
then_ok (Err e) g y p = cc

pub onward_ok : {A B E F : Type 0} (up : E → F) (r : Result A E) (g : A → Result B F) (y : B) → onward up r g ≡ Ok y → (x : A) × (r ≡ Ok x) × (g x ≡ Ok y)
onward_ok up (Ok x) g y p = (x, refl, p)
onward_ok up (Err e) g y p = cc

-- the same of what may be missing
pub some_same : {A : Type 0} (x y : A) → Some x ≡ Some y → x ≡ y
some_same x y p = cc
