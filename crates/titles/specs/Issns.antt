-- What an ISSN is, and what is wrong with bytes that are none.
use Rattle.std.specs.Prelude.{ℕ, ◌+◌, ◌-◌, ◌*◌, ◌%◌, Bool, cond, ◌&&◌, ◌||◌, List, length, is_ok, Some, None, Ok, Err, Option, Result, ◌==◌, nat_le, slice_index}
use Rattle.titles.specs.declared.issn.Issn.{Issn}
use Rattle.titles.specs.declared.issn.IssnFault.{IssnFault}
use Rattle.titles.specs.declared.issn.IssnFault.TheVariants.{Length, Unfit, CheckSum}
use Rattle.titles.specs.Places.{first_unfit}

abbrev pub is_digit : ℕ → Bool
is_digit b = nat_le 48 b && nat_le b 57

-- a digit, or the capital X (88) that stands for 10
abbrev pub is_check : ℕ → Bool
is_check b = b == 88 || is_digit b

-- whether a byte may stand at a place: a hyphen (45) at 4, a check sign at 8, and a digit elsewhere
abbrev pub may_stand : ℕ → ℕ → Bool
may_stand i b = cond (i == 4) (b == 45) (cond (i == 8) (is_check b) (is_digit b))

abbrev pub first_unfit_sign : ℕ → List ℕ → Option ℕ
first_unfit_sign = first_unfit may_stand

abbrev pub digit_value : ℕ → ℕ
digit_value b = b - 48

abbrev pub check_value : ℕ → ℕ
check_value b = cond (b == 88) 10 (digit_value b)

-- the first seven digits times 8 down to 2, and the check sign, by the parts before and behind the hyphen
abbrev pub weighted : List ℕ → ℕ
weighted bs =
    (8 * digit_value (slice_index bs 0) + 7 * digit_value (slice_index bs 1) + 6 * digit_value (slice_index bs 2) + 5 * digit_value (slice_index bs 3)) + (4 * digit_value (slice_index bs 5) + 3 * digit_value (slice_index bs 6) + 2 * digit_value (slice_index bs 7) + check_value (slice_index bs 8))

abbrev pub right_sum : ℕ → Bool
right_sum n = n % 11 == 0

-- nine bytes, by the first of them that is unfit, if there is one
abbrev pub read_nine : Option ℕ → List ℕ → Result Issn IssnFault
read_nine (Some i) bs = Err (Unfit i)
read_nine None bs = cond (right_sum (weighted bs)) (Ok (record { bytes = bs })) (Err CheckSum)

-- the ISSN that shows as the bytes do, else what is wrong: first the length, then the form, then the sum
abbrev pub read_issn : List ℕ → Result Issn IssnFault
read_issn bs = cond (length bs == 9) (read_nine (first_unfit_sign 0 bs) bs) (Err Length)

abbrev pub is_issn : List ℕ → Bool
is_issn bs = is_ok (read_issn bs)

-- the byte at fault; a wrong length lies at none, and a wrong sum at the check sign
abbrev pub issn_fault_place : IssnFault → Option ℕ
issn_fault_place Length = None
issn_fault_place (Unfit i) = Some i
issn_fault_place CheckSum = Some 8
