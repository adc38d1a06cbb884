-- The first byte that may not stand where it does, and a granted answer turned into another.
use Rattle.std.specs.Prelude.{ℕ, ◌+◌, Bool, cond, List, [], ◌∷◌, Some, None, Ok, Err, Option, Result}

-- the first place, counted from i, whose byte may not stand there
abbrev pub first_unfit : (ℕ → ℕ → Bool) → ℕ → List ℕ → Option ℕ
first_unfit may_stand i [] = None
first_unfit may_stand i (b ∷ bs) = cond (may_stand i b) (first_unfit may_stand (i + 1) bs) (Some i)

abbrev pub map_ok : {A B E : Type 0} → (A → B) → Result A E → Result B E
map_ok f (Ok x) = Ok (f x)
map_ok f (Err e) = Err e
