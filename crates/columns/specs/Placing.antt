-- What column a request has, as a relation.
use Rattle.std.specs.Prelude.{◌≡◌, ℕ, zero, suc, ◌+◌, ◌-◌, ◌<◌, ◌≤◌, Bool, true, cond, ◌⊎◌, IfSome, Some, None, Option, ◌≢◌, nat_lt, refl}
use Rattle.std.proofs.Common.{⊎_elim, sym, ap, ◌∙◌, arith}
use Rattle.std.proofs.lemmas.Bool.{cases_Bool, cond-false}
use Rattle.std.proofs.lemmas.Bool.Decides.{nat_tests}
use Rattle.std.specs.List.{find, range_with_len}
use Rattle.columns.specs.Calendar.{year_start, month_start, InYear, InMonth}
use Rattle.columns.specs.Places.{during, month_place, MonthColumn, publication_place, year_place, YearColumn}
use Rattle.columns.specs.Days.{same_month}

no_some : {X : Type 0} (x : X) → None ≢ Some x
no_some x e = cc

during_true : (a b t : ℕ) → during a b t ≡ true → (a ≤ t) × (t < b)
during_true a b t e = (grind (arith, nat_tests), grind (arith, nat_tests))

true_during : (a b t : ℕ) → a ≤ t → t < b → during a b t ≡ true
true_during a b t h l = grind (arith, nat_tests)

module _ (test : ℕ → Bool) where
  -- what is found is one of the numbers, and passes
  pub first_passes : (a n c : ℕ) → find test (range_with_len a n) ≡ Some c → (c < a + n) × (test c ≡ true)
  first_passes a zero c e = cc
  first_passes a (suc n) c e = let r = first_passes (a + 1) n c in (grind (arith, r), grind (arith, r))

  -- if no other passes, one that passes is found
  pub first_finds : (a n c : ℕ) → a ≤ c → c < a + n → test c ≡ true → ((m : ℕ) → test m ≡ true → m ≡ c) → find test (range_with_len a n) ≡ Some c
  first_finds a zero c h l t only = absurd (omega arith)
  first_finds a (suc n) c h l t only = let r = first_finds (a + 1) n c in let o = only a in grind (arith, r, o)

-- months of a year, by column
module _ (y n t : ℕ) (known : (2000 ≤ y) × (y ≤ 2099)) (few : n ≤ 12) where
  abbrev in_month : ℕ → Bool
  in_month m = during (month_start y m) (month_start y (m + 1)) t

  pub month_place_lem : MonthColumn y n t (month_place y n t)
  month_place_lem = record {
    given = λ m l i.
        first_finds in_month 0 n m (omega arith) (omega arith) (true_during (month_start y m) (month_start y (m + 1)) t i.from i.to)
        (λ k u. let d = during_true (month_start y k) (month_start y (k + 1)) t u in same_month y k m t d.0 d.1 i.from i.to);
    only = λ m e.
        let p = first_passes in_month 0 n m e in
        let d = during_true (month_start y m) (month_start y (m + 1)) t p.1 in
        (omega arith, record { known = known; month = omega arith; from = d.0; to = d.1 });
  }

  -- the relation leaves no choice
  pub month_is_place : (c : Option ℕ) → MonthColumn y n t c → c ≡ month_place y n t
  month_is_place (Some m) h = let p = h.only m refl in sym (month_place_lem.given m p.0 p.1)
  month_is_place None h = at_none (month_place y n t) refl
    where
      at_none : (o : Option ℕ) → month_place y n t ≡ o → None ≡ o
      at_none None e = refl
      at_none (Some m) e = let p = month_place_lem.only m e in h.given m p.0 p.1

  -- the month of a request is its column
  pub month_found : (m : ℕ) → m < n → InMonth y m t → MonthColumn y n t (Some m)
  month_found m l i = record {
    given = λ k h j. ap Some (same_month y m k t i.from i.to j.from j.to);
    only = λ k e. let f : m ≡ k = cc in (omega arith, rw f at i);
  }

  -- a request of none of the months has no column
  pub month_missing : ((m : ℕ) → m < n → InMonth y m t → ⊥) → MonthColumn y n t None
  month_missing h = record { given = λ m l i. absurd (h m l i); only = λ m e. absurd (no_some m e) }

  pub month_below : IfSome (month_place y n t) (λ c. c < n)
  month_below = at (month_place y n t) refl
    where
      at : (o : Option ℕ) → month_place y n t ≡ o → IfSome o (λ c. c < n)
      at None e = tt
      at (Some m) e = (month_place_lem.only m e).0

-- years of publication, by column
module _ (y p : ℕ) where
  publication_recent : (k q : ℕ) → k ≤ y - p → q + k ≡ y → 1 ≤ q → p ≤ y → publication_place y p q ≡ Some k
  publication_recent k q h e l b = let f : y - q ≡ k = omega arith in grind (arith, nat_tests)

  publication_earlier : (q : ℕ) → 1 ≤ q → q < p → p ≤ y → publication_place y p q ≡ Some (y - p + 1)
  publication_earlier q h l b = grind (arith, nat_tests)

  -- the column of a year that is neither blank nor too late
  abbrev dated : ℕ → Option ℕ
  dated q = cond (nat_lt q p) (Some (y - p + 1)) (Some (y - q))

  publication_only : (k q : ℕ) → publication_place y p q ≡ Some k → ((k ≤ y - p) × (q + k ≡ y)) ⊎ ((k ≡ y - p + 1) × (1 ≤ q) × (q < p))
  publication_only k q e = grind (arith, nat_tests)

  module _ (t q : ℕ) (known : (2000 ≤ y) × (y ≤ 2099)) where
    abbrev in_time : Bool
    in_time = during (year_start y) (year_start (y + 1)) t

    abbrev placed : Option ℕ
    placed = publication_place y p q

    made_in : in_time ≡ true → InYear y t
    made_in u = let d = during_true (year_start y) (year_start (y + 1)) t u in record { known = known; from = d.0; to = d.1 }

    -- a request made in the year has the column of its year of publication
    pub year_within : InYear y t → year_place y p t q ≡ placed
    year_within i = grind (arith, nat_tests)

    -- and any other has none
    pub year_without : (InYear y t → ⊥) → year_place y p t q ≡ None
    year_without h = ⊎_elim (λ t. absurd (h (made_in t))) (λ t. cond-false in_time placed None t) (cases_Bool in_time)

    made_if : (k : ℕ) → year_place y p t q ≡ Some k → InYear y t
    made_if k e = made_in (grind arith)

    pub year_place_lem : 1 ≤ p → p ≤ y → YearColumn y p t q (year_place y p t q)
    year_place_lem some before = record {
      recent = λ k i h e. year_within i ∙ publication_recent k q h e (omega arith) before;
      earlier = λ i h l. year_within i ∙ publication_earlier q h l before;
      made = made_if;
      only = λ k e. publication_only k q (sym (year_within (made_if k e)) ∙ e);
    }

    pub year_below : p ≤ y → IfSome (year_place y p t q) (λ c. c < y - p + 2)
    year_below before = at (year_place y p t q) refl
      where
        at : (o : Option ℕ) → year_place y p t q ≡ o → IfSome o (λ c. c < y - p + 2)
        at None e = tt
        at (Some k) e =
            ⊎_elim (λ h. omega arith) (λ h. omega arith) (publication_only k q (sym (year_within (made_if k e)) ∙ e))
