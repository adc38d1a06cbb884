-- A date is read from ten bytes, which are how it is written.
use Rattle.std.proofs.Common.{◌≡◌, ℕ, ◌+◌, ◌-◌, ◌*◌, ◌≤◌, true, List, [], ◌∷◌, length, get_or, Some, None, sym, refl, ap, ◌∙◌, subst, ⊎_elim, arith, rules}
use Rattle.std.proofs.ByRecursion.{All-get_or}
use Rattle.std.proofs.lemmas.Slice.Eq.{bytes_eq-Decides, text_from_reads}
use Rattle.std.proofs.lemmas.Bool.{cases_Bool, cond-false}
use Rattle.std.proofs.lemmas.Bool.Decides.{nat_tests}
use Rattle.std.proofs.lemmas.Grind.{common_steps}
use Rattle.std.specs.Bool.{then_some}
use Rattle.std.specs.Char.{is_ascii_digit}
use Rattle.std.specs.List.{AllByRecursion}
use Rattle.columns.specs.Calendar.{digits, is_date, lengths}
use Rattle.reports.specs.declared.header.Date.{Date}
use Rattle.reports.specs.Written.{date_text}
use Rattle.cells.specs.Dates.{date_in, pair_in, read_date, shows_date}

abbrev pub new_date : ℕ → ℕ → ℕ → Date
new_date y m d = record { year = y; month = m; day = d }

-- between what the numbers of a real date lie
module _ (y m d : ℕ) (real : is_date y m d ≡ true) where
  year_known : (2000 ≤ y) × (y ≤ 2099)
  year_known = grind (arith, nat_tests)

  month_known : (1 ≤ m) × (m ≤ 12)
  month_known = grind (arith, nat_tests)

  day_known : d ≤ 31
  day_known =
      let month = month_known in
      let each : AllByRecursion (λ n. n ≤ 31) lengths = search rules in
      let common : get_or lengths (m - 1) 0 ≤ 31 = All-get_or (λ n. n ≤ 31) lengths (m - 1) 0 (omega arith) each in
      grind (arith, nat_tests)

-- ten bytes in the form of a date
pub record Formed (bs : List ℕ) : Type 0 where
  pub long : length bs ≡ 10
  pub hyphens : (get_or bs 4 0 ≡ 45) × (get_or bs 7 0 ≡ 45)
  pub century : (is_ascii_digit (get_or bs 0 0) ≡ true) × (is_ascii_digit (get_or bs 1 0) ≡ true)
  pub years : (is_ascii_digit (get_or bs 2 0) ≡ true) × (is_ascii_digit (get_or bs 3 0) ≡ true)
  pub month : (is_ascii_digit (get_or bs 5 0) ≡ true) × (is_ascii_digit (get_or bs 6 0) ≡ true)
  pub day : (is_ascii_digit (get_or bs 8 0) ≡ true) × (is_ascii_digit (get_or bs 9 0) ≡ true)

text_formed : (y m d : ℕ) → is_date y m d ≡ true → Formed (date_text y m d)
text_formed y m d real =
    let low = month_known y m d real in
    let short = day_known y m d real in
    record {
      long = refl;
      hyphens = (refl, refl);
      century = grind (arith, nat_tests);
      years = grind (arith, nat_tests);
      month = grind (arith, nat_tests);
      day = grind (arith, nat_tests);
    }

-- what a date that was read tells of the bytes
shown : (bs : List ℕ) (d : Date) → shows_date d bs ≡ true → (is_date d.year d.month d.day ≡ true) × (bs ≡ date_text d.year d.month d.day)
shown bs d e = (grind (arith, nat_tests), grind (arith, nat_tests, bytes_eq-Decides))

pub date_is : (bs : List ℕ) (d : Date) → read_date bs ≡ Some d → (is_date d.year d.month d.day ≡ true) × (bs ≡ date_text d.year d.month d.day)
date_is bs d e =
    let shows : shows_date (date_in bs) bs ≡ true = grind arith in
    let is : date_in bs ≡ d = grind arith in
    shown bs d (subst (λ (x : Date). shows_date x bs ≡ true) is shows)

-- bytes that are not in its form are no date
pub not_formed : (bs : List ℕ) → (Formed bs → ⊥) → None ≡ read_date bs
not_formed bs unfit =
    ⊎_elim
    (λ yes. let is = shown bs (date_in bs) yes in absurd (unfit (subst Formed (sym is.1) (text_formed _ _ _ is.0))))
    (λ none. sym (cond-false (shows_date (date_in bs) bs) (Some (date_in bs)) None none)) (cases_Bool (shows_date (date_in bs) bs))

pub not_patterned : (bs : List ℕ) → (length bs ≡ 10 → get_or bs 4 0 ≡ 45 → get_or bs 7 0 ≡ 45 → ⊥) → None ≡ read_date bs
not_patterned bs other = not_formed bs (λ f. other f.long f.hyphens.0 f.hyphens.1)

-- two digits, and the number that they show
pair_is : (tens ones n : ℕ) → Some n ≡ pair_in tens ones → (is_ascii_digit tens ≡ true) × (is_ascii_digit ones ≡ true) × (n ≡ (tens - 48) * 10 + (ones - 48))
pair_is tens ones n e = (grind (arith, nat_tests), grind (arith, nat_tests), grind (arith, nat_tests))

pub pair_none : (tens ones : ℕ) → None ≡ pair_in tens ones → (is_ascii_digit tens ≡ true) × (is_ascii_digit ones ≡ true) → ⊥
pair_none tens ones e digits = grind (arith, nat_tests)

between : (b : ℕ) → is_ascii_digit b ≡ true → (48 ≤ b) × (b ≤ 57)
between b e = grind (arith, nat_tests)

-- ten bytes in that form are how the date of their digits is written
module _ (bs : List ℕ) (f : Formed bs) where
  abbrev at : ℕ → ℕ
  at i = get_or bs i 0

  abbrev ten : List ℕ
  ten = at 0 ∷ at 1 ∷ at 2 ∷ at 3 ∷ at 4 ∷ at 5 ∷ at 6 ∷ at 7 ∷ at 8 ∷ at 9 ∷ []

  abbrev pair : ℕ → ℕ → ℕ
  pair i j = (at i - 48) * 10 + (at j - 48)

  abbrev date : Date
  date = new_date (pair 0 1 * 100 + pair 2 3) (pair 5 6) (pair 8 9)

  spelled : bs ≡ ten
  spelled = let long = f.long in grind (arith, common_steps)

  date_in_lem : date_in bs ≡ date
  date_in_lem =
      let year : (date_in ten).year ≡ pair 0 1 * 100 + pair 2 3 = omega arith in
      let month : (date_in ten).month ≡ pair 5 6 = omega arith in
      let day : (date_in ten).day ≡ pair 8 9 = omega arith in
      ap date_in spelled ∙ (λ i. new_date (year i) (month i) (day i))

  text_is : bs ≡ date_text date.year date.month date.day
  text_is =
      let a = between (at 0) f.century.0 in
      let b = between (at 1) f.century.1 in
      let c = between (at 2) f.years.0 in
      let d = between (at 3) f.years.1 in
      let e = between (at 5) f.month.0 in
      let g = between (at 6) f.month.1 in
      let h = between (at 8) f.day.0 in
      let k = between (at 9) f.day.1 in
      text_from_reads bs (date_text date.year date.month date.day) f.long
      (omega arith, (omega arith, (omega arith, (omega arith, (f.hyphens.0, (omega arith, (omega arith, (f.hyphens.1, (omega arith, (omega arith, tt))))))))))

  -- so the calendar decides
  formed_read : then_some (is_date date.year date.month date.day) date ≡ read_date bs
  formed_read =
      let read = date_in_lem in
      let written = text_is in
      grind (arith, nat_tests, bytes_eq-Decides)

-- the same, from the numbers that the pairs of digits show
module _ (bs : List ℕ) (century years month day : ℕ) (long : length bs ≡ 10) (hyphens : (get_or bs 4 0 ≡ 45) × (get_or bs 7 0 ≡ 45)) where
  pub pairs_read : Some century ≡ pair_in (get_or bs 0 0) (get_or bs 1 0) → Some years ≡ pair_in (get_or bs 2 0) (get_or bs 3 0) → Some month ≡ pair_in (get_or bs 5 0) (get_or bs 6 0) → Some day ≡ pair_in (get_or bs 8 0) (get_or bs 9 0) → then_some (is_date (century * 100 + years) month day) (new_date (century * 100 + years) month day) ≡ read_date bs
  pairs_read a b c d =
      let a' = pair_is (get_or bs 0 0) (get_or bs 1 0) century a in
      let b' = pair_is (get_or bs 2 0) (get_or bs 3 0) years b in
      let c' = pair_is (get_or bs 5 0) (get_or bs 6 0) month c in
      let d' = pair_is (get_or bs 8 0) (get_or bs 9 0) day d in
      let f : Formed bs = record {
        long = long;
        hyphens = hyphens;
        century = (a'.0, a'.1);
        years = (b'.0, b'.1);
        month = (c'.0, c'.1);
        day = (d'.0, d'.1);
      } in
      (λ i. then_some (is_date (a'.2 i * 100 + b'.2 i) (c'.2 i) (d'.2 i)) (new_date (a'.2 i * 100 + b'.2 i) (c'.2 i) (d'.2 i))) ∙ formed_read bs f

-- how a date is written reads back
module _ (d : Date) (real : is_date d.year d.month d.day ≡ true) where
  abbrev text : List ℕ
  text = date_text d.year d.month d.day

  text_shows : date_in text ≡ d
  text_shows =
      let known = year_known d.year d.month d.day real in
      let low = month_known d.year d.month d.day real in
      let short = day_known d.year d.month d.day real in
      let year : (date_in text).year ≡ d.year = omega arith in
      let month : (date_in text).month ≡ d.month = omega arith in
      let day : (date_in text).day ≡ d.day = omega arith in
      (λ i. new_date (year i) (month i) (day i))

  pub date_of : read_date text ≡ Some d
  date_of = let shows = text_shows in grind (arith, nat_tests, bytes_eq-Decides)
