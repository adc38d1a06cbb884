-- How many days years and months have together, and in which month a second lies.
use Rattle.std.proofs.Common.{⊎_elim, subst, arith}
use Rattle.std.specs.Prelude.{◌≡◌, ℕ, zero, suc, ◌+◌, ◌-◌, ◌*◌, ◌/◌, ◌<◌, ◌≤◌, Some, None, refl}
use Rattle.std.proofs.lemmas.Bool.{cases_order}
use Rattle.std.proofs.lemmas.Bool.Decides.{nat_tests}
use Rattle.columns.specs.Calendar.{days_in_year, days_of_years, days_of_months, year_start, month_start, InYear, InMonth, MonthOf}
use Rattle.columns.specs.declared.calendar.Month.{Month}

-- the leap years among the first n are every fourth one, from the first on
pub days_of_years_lem : (n : ℕ) → days_of_years n ≡ 365 * n + (n + 3) / 4
days_of_years_lem zero = refl
days_of_years_lem (suc n) = let h = days_of_years_lem n in grind (arith, nat_tests)

-- twelve months are a year
pub twelve_months : (y : ℕ) → days_of_months y 12 ≡ days_in_year y
twelve_months y = grind (arith, nat_tests)

months_grow : (y m k : ℕ) → days_of_months y m ≤ days_of_months y (m + k)
months_grow y m zero = let e : m + 0 ≡ m = omega arith in rw e (omega arith)
months_grow y m (suc k) =
    let e : m + suc k ≡ suc (m + k) = omega arith in
    let h = months_grow y m k in
    rw e (omega arith)

-- later months begin later
pub months_later : (y m n : ℕ) → m ≤ n → days_of_months y m ≤ days_of_months y n
months_later y m n h = let e : m + (n - m) ≡ n = omega arith in rw e at (months_grow y m (n - m))

years_later : (y z : ℕ) → y ≤ z → year_start y ≤ year_start z
years_later y z h = let a = days_of_years_lem (y - 2000) in let b = days_of_years_lem (z - 2000) in omega arith

next_year : (y : ℕ) → 2000 ≤ y → year_start (y + 1) ≡ year_start y + 86400 * days_in_year y
next_year y h =
    let e : y + 1 - 2000 ≡ suc (y - 2000) = omega arith in
    let f : 2000 + (y - 2000) ≡ y = omega arith in
    rw (e, f) (omega arith)

-- a month lies in its year
pub in_year : (y m t : ℕ) → InMonth y m t → InYear y t
in_year y m t i =
    let a = months_later y (m + 1) 12 (omega arith) in
    let b = twelve_months y in
    let c = next_year y i.known.0 in
    record { known = i.known; from = omega arith; to = omega arith }

-- a second lies in one year at most
pub same_year : (y z t : ℕ) → InYear y t → InYear z t → y ≡ z
same_year y z t i j =
    ⊎_elim (λ e. e)
    (⊎_elim (λ l. let h = years_later (y + 1) z (omega arith) in absurd (omega arith)) (λ l. let h = years_later (z + 1) y (omega arith) in absurd (omega arith)))
    (cases_order y z)

-- and in one month of a year at most
pub same_month : (y m n t : ℕ) → month_start y m ≤ t → t < month_start y (m + 1) → month_start y n ≤ t → t < month_start y (n + 1) → m ≡ n
same_month y m n t a b c d =
    ⊎_elim (λ e. e)
    (⊎_elim (λ l. let h = months_later y (m + 1) n (omega arith) in absurd (omega arith)) (λ l. let h = months_later y (n + 1) m (omega arith) in absurd (omega arith)))
    (cases_order m n)

-- the calendar ends with 2099
pub in_calendar : (y t : ℕ) → InYear y t → t ≤ 3155759999
in_calendar y t i = let h = years_later (y + 1) 2100 (omega arith) in omega arith

-- the month in which a day falls is that of its seconds
pub month_of_day : (k m d t : ℕ) → k < 100 → days_of_years k + d ≡ t / 86400 → m < 12 → days_of_months (2000 + k) m ≤ d → d < days_of_months (2000 + k) (m + 1) → InMonth (2000 + k) m t
month_of_day k m d t h e l a b =
    let f : 2000 + k - 2000 ≡ k = omega arith in
    record { known = (omega arith, omega arith); month = l; from = rw f (omega arith); to = rw f (omega arith) }

pub month_known : (y m t : ℕ) → InMonth y m t → MonthOf t (Some (record { year = y; month = m }))
month_known y m t i = record {
  lies = λ d e. let f : record { year = y; month = m } ≡ d = cc in subst (λ (d : Month). InMonth d.year d.month t) f i;
  only = λ z n j.
      let e = same_year y z t (in_year y m t i) (in_year z n t j) in
      let f = (let k = rw e at i in same_month z m n t k.from k.to j.from j.to) in
      cc;
  past = λ e. cc;
  none = λ l. let h = in_calendar y t (in_year y m t i) in absurd (omega arith);
}

pub month_unknown : (t : ℕ) → 3155759999 < t → MonthOf t None
month_unknown t l = record {
  lies = λ d e. cc;
  only = λ y m i. let h = in_calendar y t (in_year y m t i) in absurd (omega arith);
  past = λ e. l;
  none = λ _. refl;
}
