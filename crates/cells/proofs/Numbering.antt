-- A number is read digit by digit, and what is read is how the number is written.
use Rattle.std.proofs.Common.{◌≡◌, ℕ, ◌+◌, ◌-◌, ◌*◌, ◌^◌, ◌<◌, ◌≤◌, true, false, ◌&&◌, List, [], ◌∷◌, length, get_or, drop, Some, None, decimal, sym, refl, ap, ◌∙◌, ⊎_elim, arith, rules}
use Rattle.std.proofs.lemmas.Fmt.{decimal_digit, decimal_nonempty, decimal-digits_value, digits_decimal, first_decimal, digits_value-decimal}
use Rattle.std.proofs.lemmas.List.{at_drop_all, at_drop_more}
use Rattle.std.proofs.lemmas.Str.Parse.{IsNumeralModel, numerals_by_fold}
use Rattle.std.proofs.lemmas.Bool.{and_left, cases_eq}
use Rattle.std.proofs.lemmas.Bool.Decides.{nat_tests}
use Rattle.std.specs.Char.{is_ascii_digit}
use Rattle.std.specs.Str.{all_ascii_digits}
use Rattle.cells.specs.Numbers.{number_of, plain, read_on}

-- what is read on is no less
grows : (n : ℕ) (bs : List ℕ) → n ≤ read_on n bs
grows n [] = omega arith
grows n (b ∷ bs) = let more = grows (n * 10 + (b - 48)) bs in omega arith

module _ (bs : List ℕ) where
  not_digits : all_ascii_digits bs ≡ false → None ≡ number_of bs
  not_digits e = grind (arith, nat_tests)

  not_low : 1000000000 < read_on 0 bs → None ≡ number_of bs
  not_low high = grind (arith, nat_tests)

  accepted : plain bs ≡ true → all_ascii_digits bs ≡ true → read_on 0 bs ≤ 1000000000 → Some (read_on 0 bs) ≡ number_of bs
  accepted p d l = grind (arith, nat_tests)

  -- where the number n is read from the first i bytes, and what is left gives the whole
  module _ (i n : ℕ) (digits : all_ascii_digits (drop i bs) ≡ all_ascii_digits bs) (value : read_on n (drop i bs) ≡ read_on 0 bs) where
    module _ (before : i < length bs) where
      abbrev here : ℕ
      here = get_or bs i 0

      abbrev later : List ℕ
      later = drop (i + 1) bs

      digits_here : all_ascii_digits bs ≡ (is_ascii_digit here && all_ascii_digits later)
      digits_here = sym digits ∙ at_drop_more all_ascii_digits bs i 0 before

      pub digits_more : is_ascii_digit here ≡ true → all_ascii_digits later ≡ all_ascii_digits bs
      digits_more e = sym (digits_here ∙ ap (λ t. t && all_ascii_digits later) e)

      pub value_more : read_on (n * 10 + (here - 48)) later ≡ read_on 0 bs
      value_more = sym (at_drop_more (read_on n) bs i 0 before) ∙ value

      pub digit_missing : is_ascii_digit here ≡ false → None ≡ number_of bs
      digit_missing e = not_digits (digits_here ∙ and_left (is_ascii_digit here) (all_ascii_digits later) e)

      pub high_already : 100000000 < n → None ≡ number_of bs
      high_already high =
          let more = grows (n * 10 + (here - 48)) later in
          let is = value_more in
          not_low (omega arith)

    module _ (past : length bs ≤ i) where
      all_read : n ≡ read_on 0 bs
      all_read = sym (at_drop_all (read_on n) bs i past) ∙ value

      pub high_in_all : 1000000000 < n → None ≡ number_of bs
      high_in_all high = let is = all_read in not_low (omega arith)

      pub read_all : plain bs ≡ true → n ≤ 1000000000 → Some n ≡ number_of bs
      read_all p low =
          let is = all_read in
          ap (λ x. Some x) is ∙ accepted p (sym digits ∙ at_drop_all all_ascii_digits bs i past) (omega arith)

-- the definition's own words for digits and their value
own : IsNumeralModel (λ ds. all_ascii_digits ds ≡ true) (read_on 0)
own = numerals_by_fold _ (search rules) read_on (search rules)

-- a row of bytes that is plain has a first one
plain_some : (bs : List ℕ) → plain bs ≡ true → 0 < length bs
plain_some [] e = cc
plain_some (b ∷ bs) e = omega arith

-- a number that was read is how it is written
plain_zero : (bs : List ℕ) → plain bs ≡ true → get_or bs 0 0 ≡ 48 → length bs ≡ 1
plain_zero [] e z = cc
plain_zero (b ∷ []) e z = refl
plain_zero (b ∷ c ∷ bs) e z = grind (arith, nat_tests)

pub number_is : (bs : List ℕ) (n : ℕ) → number_of bs ≡ Some n → (n ≤ 1000000000) × (bs ≡ decimal n)
number_is bs n e =
    let p : plain bs ≡ true = grind (arith, nat_tests) in
    let d : all_ascii_digits bs ≡ true = grind (arith, nat_tests) in
    let is : read_on 0 bs ≡ n = grind (arith, nat_tests) in
    let low : n ≤ 1000000000 = grind (arith, nat_tests) in
    (low, sym (decimal-digits_value own bs d (plain_some bs p) (plain_zero bs p) (omega arith)) ∙ ap decimal is)

-- how a number is written reads back
from_plain : (bs : List ℕ) → 0 < length bs → (get_or bs 0 0 ≡ 48 → length bs ≡ 1) → plain bs ≡ true
from_plain [] some zero_alone = absurd (omega arith)
from_plain (b ∷ []) some zero_alone = refl
from_plain (b ∷ c ∷ bs) some zero_alone = grind (arith, nat_tests)

module _ (n : ℕ) (low : n ≤ 1000000000) where
  short : n < 2 ^ 64
  short = omega arith

  zero_alone : get_or (decimal n) 0 0 ≡ 48 → length (decimal n) ≡ 1
  zero_alone z =
      ⊎_elim
      (λ (e : n ≡ 0). ap (λ x. length (decimal x)) e ∙ ap length (decimal_digit 0 (omega arith)))
      (λ (e : n ≡ 0 → ⊥). let some : 0 < n = omega arith in let first = first_decimal n some short in absurd (omega arith))
      (cases_eq n 0)

  pub decimal_digits : all_ascii_digits (decimal n) ≡ true
  decimal_digits = digits_decimal own n short

  pub number_of_lem : number_of (decimal n) ≡ Some n
  number_of_lem =
      let value : read_on 0 (decimal n) ≡ n = digits_value-decimal own n short in
      sym (accepted (decimal n) (from_plain (decimal n) (decimal_nonempty n short) zero_alone) decimal_digits (omega arith)) ∙ ap (λ x. Some x) value
