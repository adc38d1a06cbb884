-- The month of a second, looked for in one year.
use Rattle.std.proofs.Common.{◌≡◌, ℕ, Bool, true, false, eqb, Some, None, refl, arith}
use Rattle.std.proofs.lemmas.Bool.{eqb-true, eqb-false}
use Rattle.std.specs.Bool.{then_some}
use Rattle.columns.specs.Calendar.{MonthIn, MonthOf}
use Rattle.columns.specs.Days.{in_calendar, in_year, same_year}
use Rattle.columns.specs.declared.calendar.Month.{Month}

pub none_within : (y t : ℕ) → MonthOf t None → MonthIn y t None
none_within y t h = record {
  lies = λ m e. cc;
  only = λ m i. let e = h.only y m i in cc;
  outside = λ e i. let l = h.past refl in let k = in_calendar y t i in absurd (omega arith);
}

pub some_within : (y t : ℕ) (d : Month) (b : Bool) → eqb d.year y ≡ b → MonthOf t (Some d) → MonthIn y t (then_some b d.month)
some_within y t d true e h =
    let f = eqb-true d.year y e in
    record {
      lies = λ m s. let n : d.month ≡ m = cc in rw (← f, ← n) (h.lies d refl);
      only = λ m i. let s = h.only y m i in cc;
      outside = λ n i. cc;
    }
some_within y t d false e h =
    let f = eqb-false d.year y e in
    record {
      lies = λ m s. cc;
      only = λ m i. let s = h.only y m i in let n : d.year ≡ y = cc in absurd (f n);
      outside = λ n i. absurd (f (same_year d.year y t (in_year d.year d.month t (h.lies d refl)) i));
    }
