-- What is wrong with bytes that are no text.
use Rattle.std.specs.Prelude.{ℕ, cond, not, ◌&&◌, List, length, Some, None, Ok, Err, Option, Result, nat_le}
use Rattle.std.specs.List.{position}
use Rattle.texts.specs.Texts.{fit}
use Rattle.titles.specs.declared.text.TextFault.{TextFault}
use Rattle.titles.specs.declared.text.TextFault.TheVariants.{Length, Unfit}

-- the first place of a byte that may not stand in a text
abbrev pub first_unfit_byte : List ℕ → Option ℕ
first_unfit_byte = position (λ b. not (fit b))

abbrev pub read_bytes : Option ℕ → List ℕ → Result (List ℕ) TextFault
read_bytes None bs = Ok bs
read_bytes (Some i) bs = Err (Unfit i)

-- the bytes themselves where they are a text, else what is wrong: first the length, then the bytes
abbrev pub read_text : List ℕ → Result (List ℕ) TextFault
read_text bs = cond (nat_le 1 (length bs) && nat_le (length bs) 200) (read_bytes (first_unfit_byte bs) bs) (Err Length)

-- the byte at fault; a wrong length lies at none
abbrev pub text_fault_place : TextFault → Option ℕ
text_fault_place Length = None
text_fault_place (Unfit i) = Some i
