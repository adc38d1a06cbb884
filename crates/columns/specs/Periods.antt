-- Which periods a column scheme can have.
use Rattle.std.specs.Prelude.{ℕ, ◌+◌, cond, ◌&&◌, Some, None, Option, nat_le}
use Rattle.records.specs.Requests.{within}
use Rattle.columns.specs.declared.period.PeriodRefusal.{PeriodRefusal}
use Rattle.columns.specs.declared.period.PeriodRefusal.TheVariants.{Year, LastMonth, FirstYear}

-- the number that a refusal bears
abbrev pub refusal_number : PeriodRefusal → ℕ
refusal_number Year = 9
refusal_number LastMonth = 9
refusal_number FirstYear = 9

-- the months 1 to m of the year y: y from 2000 to 2099, then m from 1 to 12
abbrev pub month_refusal : ℕ → ℕ → Option PeriodRefusal
month_refusal y m = cond (within 2000 2099 y) (cond (within 1 12 m) None (Some LastMonth)) (Some Year)

-- the year y and the years of publication from p on: y from 2000 to 2099, then p from y − 10 to y − 4
abbrev pub year_refusal : ℕ → ℕ → Option PeriodRefusal
year_refusal y p = cond (within 2000 2099 y) (cond (nat_le (p + 4) y && nat_le y (p + 10)) None (Some FirstYear)) (Some Year)
