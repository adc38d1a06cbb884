-- Numbers as a report shows them.
use Rattle.std.specs.Prelude.{ℕ, ◌+◌, ◌-◌, ◌*◌, Bool, true, false, cond, not, ◌&&◌, List, [], ◌∷◌, Some, None, Option, ◌==◌, nat_le}
use Rattle.std.specs.Str.{all_ascii_digits}

-- digits as one number, behind the number n of the digits before them
abbrev pub read_on : ℕ → List ℕ → ℕ
read_on n [] = n
read_on n (b ∷ bs) = read_on (n * 10 + (b - 48)) bs

-- there is a byte, and no zero leads others
abbrev pub plain : List ℕ → Bool
plain [] = false
plain (b ∷ []) = true
plain (b ∷ c ∷ bs) = not (b == 48)

-- the number that bytes show: digits without a leading zero, at most 1,000,000,000
abbrev pub number_of : List ℕ → Option ℕ
number_of bs = cond (plain bs && (all_ascii_digits bs && nat_le (read_on 0 bs) 1000000000)) (Some (read_on 0 bs)) None
