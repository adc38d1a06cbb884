-- What it is to be a right ISSN, in terms of the numbers that it spells.
use Rattle.std.specs.Prelude.{◌≡◌, ℕ, ◌+◌, ◌*◌, ◌%◌, ◌<◌, ◌≤◌, cond, List, [], ◌∷◌, ◌==◌}

-- how a digit is written
abbrev pub digit : ℕ → ℕ
digit n = 48 + n

-- how a check value is written: a capital X stands for 10
abbrev pub check_sign : ℕ → ℕ
check_sign n = cond (n == 10) 88 (digit n)

-- four digits, a hyphen, three digits and a check sign, such that
-- the digits times 8 down to 2 and the check value sum to a multiple of 11
pub record Right (bs : List ℕ) : Type 0 where
  pub a : ℕ
  pub b : ℕ
  pub c : ℕ
  pub d : ℕ
  pub e : ℕ
  pub f : ℕ
  pub g : ℕ
  pub check : ℕ
  pub digits : (a < 10) × (b < 10) × (c < 10) × (d < 10) × (e < 10) × (f < 10) × (g < 10)
  pub value : check ≤ 10
  pub written : bs ≡ digit a ∷ digit b ∷ digit c ∷ digit d ∷ 45 ∷ digit e ∷ digit f ∷ digit g ∷ check_sign check ∷ []
  pub sum : (8 * a + 7 * b + 6 * c + 5 * d + 4 * e + 3 * f + 2 * g + check) % 11 ≡ 0
