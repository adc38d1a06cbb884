-- What the parts of an ISSN add to its sum, or their first unfit byte.
use Rattle.std.specs.Prelude.{ℕ, ◌+◌, ◌*◌, cond, [], ◌∷◌, Some, None, Ok, Err, Option, Result}
use Rattle.titles.specs.declared.issn.IssnFault.{IssnFault}
use Rattle.titles.specs.declared.issn.IssnFault.TheVariants.{Unfit}
use Rattle.titles.specs.Issns.{check_value, digit_value, first_unfit_sign, is_check, is_digit}

abbrev pub digit_at : ℕ → ℕ → Result ℕ IssnFault
digit_at b i = cond (is_digit b) (Ok (digit_value b)) (Err (Unfit i))

abbrev pub check_at : ℕ → ℕ → Result ℕ IssnFault
check_at b i = cond (is_check b) (Ok (check_value b)) (Err (Unfit i))

-- a number, unless there is an unfit place
abbrev pub unless : Option ℕ → ℕ → Result ℕ IssnFault
unless None n = Ok n
unless (Some i) n = Err (Unfit i)

-- the four digits before the hyphen, times 8, 7, 6 and 5
abbrev pub front_sum : ℕ → ℕ → ℕ → ℕ → ℕ
front_sum a b c d = 8 * digit_value a + 7 * digit_value b + 6 * digit_value c + 5 * digit_value d

abbrev pub weigh_front : ℕ → ℕ → ℕ → ℕ → Result ℕ IssnFault
weigh_front a b c d = unless (first_unfit_sign 0 (a ∷ b ∷ c ∷ d ∷ [])) (front_sum a b c d)

-- the three digits behind it, times 4, 3 and 2, and the check sign
abbrev pub back_sum : ℕ → ℕ → ℕ → ℕ → ℕ
back_sum e f g check = 4 * digit_value e + 3 * digit_value f + 2 * digit_value g + check_value check

abbrev pub weigh_back : ℕ → ℕ → ℕ → ℕ → Result ℕ IssnFault
weigh_back e f g check = unless (first_unfit_sign 5 (e ∷ f ∷ g ∷ check ∷ [])) (back_sum e f g check)
