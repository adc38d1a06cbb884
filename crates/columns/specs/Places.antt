-- Which column a request has.
use Rattle.std.specs.Prelude.{◌≡◌, ℕ, ◌+◌, ◌-◌, ◌<◌, ◌≤◌, Bool, cond, ◌&&◌, ◌||◌, ◌⊎◌, Some, None, Option, ◌==◌, nat_le, nat_lt}
use Rattle.std.specs.List.{find, range_with_len}
use Rattle.columns.specs.Calendar.{year_start, month_start, InYear, InMonth}

-- from a on, and before b
abbrev pub during : ℕ → ℕ → ℕ → Bool
during a b t = nat_le a t && nat_lt t b

-- the column of a request by month: the one, of the first n months of the year y, in which its second t lies
abbrev pub month_place : ℕ → ℕ → ℕ → Option ℕ
month_place y n t = find (λ m. during (month_start y m) (month_start y (m + 1)) t) (range_with_len 0 n)

-- what that means: a request has a column exactly if it was made in one of the first n months of the year y, and then
-- that month's
pub record MonthColumn (y n t : ℕ) (c : Option ℕ) : Type 0 where
  pub given : (m : ℕ) → m < n → InMonth y m t → c ≡ Some m
  pub only : (m : ℕ) → c ≡ Some m → (m < n) × InMonth y m t

-- the column of a year q of publication: none for a blank year or one after y, the last for one before p, and else
-- the years that lie between q and y
abbrev pub publication_place : ℕ → ℕ → ℕ → Option ℕ
publication_place y p q = cond (q == 0 || nat_lt y q) None (cond (nat_lt q p) (Some (y - p + 1)) (Some (y - q)))

-- the column of a request by its year q of publication, if its second t lies in the year y
abbrev pub year_place : ℕ → ℕ → ℕ → ℕ → Option ℕ
year_place y p t q = cond (during (year_start y) (year_start (y + 1)) t) (publication_place y p q) None

-- what that means: a request made in the year y has column k exactly if it was published k years before y and not
-- before p, and the column past these exactly if it was published before p; no other request has one
pub record YearColumn (y p t q : ℕ) (c : Option ℕ) : Type 0 where
  pub recent : (k : ℕ) → InYear y t → k ≤ y - p → q + k ≡ y → c ≡ Some k
  pub earlier : InYear y t → 1 ≤ q → q < p → c ≡ Some (y - p + 1)
  pub made : (k : ℕ) → c ≡ Some k → InYear y t
  pub only : (k : ℕ) → c ≡ Some k → ((k ≤ y - p) × (q + k ≡ y)) ⊎ ((k ≡ y - p + 1) × (1 ≤ q) × (q < p))
