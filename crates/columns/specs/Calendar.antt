-- The calendar of the years 2000 to 2099. Months count from 0, and seconds from the start of 2000.
use Rattle.std.specs.Prelude.{◌≡◌, ℕ, zero, suc, ◌+◌, ◌-◌, ◌*◌, ◌/◌, ◌%◌, ◌<◌, ◌≤◌, Bool, cond, ◌&&◌, List, [], ◌∷◌, Some, None, codes, Option, ◌==◌, slice_index}
use Rattle.records.specs.Requests.{within}
use Rattle.columns.specs.declared.calendar.Month.{Month}

-- the months' lengths in a common year
abbrev pub lengths : List ℕ
lengths = 31 ∷ 28 ∷ 31 ∷ 30 ∷ 31 ∷ 30 ∷ 31 ∷ 31 ∷ 30 ∷ 31 ∷ 30 ∷ 31 ∷ []

abbrev pub names : List (List ℕ)
names =
    codes "Jan" ∷ codes "Feb" ∷ codes "Mar" ∷ codes "Apr" ∷ codes "May" ∷ codes "Jun" ∷ codes "Jul" ∷ codes "Aug" ∷ codes "Sep" ∷ codes "Oct" ∷ codes "Nov" ∷ codes "Dec" ∷ []

-- every fourth year is a leap year
abbrev pub leap : ℕ → Bool
leap y = y % 4 == 0

-- the days of the month m of the year y: none past December
abbrev pub days_in : ℕ → ℕ → ℕ
days_in y m = cond (m == 1 && leap y) 29 (slice_index lengths m)

abbrev pub days_in_year : ℕ → ℕ
days_in_year y = cond (leap y) 366 365

-- the days of the n years from 2000 on
abbrev pub days_of_years : ℕ → ℕ
days_of_years zero = 0
days_of_years (suc n) = days_of_years n + days_in_year (2000 + n)

-- the days of the first n months of the year y
abbrev pub days_of_months : ℕ → ℕ → ℕ
days_of_months y zero = 0
days_of_months y (suc n) = days_of_months y n + days_in y n

-- the first second of the year y
abbrev pub year_start : ℕ → ℕ
year_start y = 86400 * days_of_years (y - 2000)

-- the first second of the month m of the year y, which is that after the last second of the month before
abbrev pub month_start : ℕ → ℕ → ℕ
month_start y m = year_start y + 86400 * days_of_months y m

-- the second t lies in the year y
pub record InYear (y t : ℕ) : Type 0 where
  pub known : (2000 ≤ y) × (y ≤ 2099)
  pub from : year_start y ≤ t
  pub to : t < year_start (y + 1)

-- the second t lies in the month m of the year y
pub record InMonth (y m t : ℕ) : Type 0 where
  pub known : (2000 ≤ y) × (y ≤ 2099)
  pub month : m < 12
  pub from : month_start y m ≤ t
  pub to : t < month_start y (m + 1)

-- r is the month of the second t, and none exactly past the last second of 2099
pub record MonthOf (t : ℕ) (r : Option Month) : Type 0 where
  pub lies : (d : Month) → r ≡ Some d → InMonth d.year d.month t
  pub only : (y m : ℕ) → InMonth y m t → r ≡ Some (record { year = y; month = m })
  pub past : r ≡ None → 3155759999 < t
  pub none : 3155759999 < t → r ≡ None

-- r is the month of the year y in which the second t lies, and none exactly where t does not lie in y
pub record MonthIn (y t : ℕ) (r : Option ℕ) : Type 0 where
  pub lies : (m : ℕ) → r ≡ Some m → InMonth y m t
  pub only : (m : ℕ) → InMonth y m t → r ≡ Some m
  pub outside : r ≡ None → InYear y t → ⊥

-- a date of 2000 to 2099, its month and day counted from 1
abbrev pub is_date : ℕ → ℕ → ℕ → Bool
is_date y m d = within 2000 2099 y && (within 1 12 m && within 1 (days_in y (m - 1)) d)

-- the last four decimal digits of a number, in ASCII
abbrev pub digits : ℕ → List ℕ
digits n = (48 + n / 1000 % 10) ∷ (48 + n / 100 % 10) ∷ (48 + n / 10 % 10) ∷ (48 + n % 10) ∷ []
