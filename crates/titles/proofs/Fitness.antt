-- Bytes are a text exactly where nothing is wrong with them.
use Rattle.std.proofs.Common.{◌≡◌, ℕ, ◌+◌, not, List, [], ◌∷◌, is_some, is_ok, sym, refl, ap, ◌∙◌, arith}
use Rattle.std.proofs.lemmas.Bool.Decides.{nat_tests}
use Rattle.std.proofs.lemmas.Iterator.Adapters.{position_from-zero}
use Rattle.std.specs.List.{position_from}
use Rattle.texts.specs.Texts.{all_fit, fit, is_text}
use Rattle.titles.specs.Texts.{first_unfit_byte, read_text}

-- all bytes are fit exactly where none is the first unfit one
all_fit_from : (i : ℕ) (bs : List ℕ) → all_fit bs ≡ not (is_some (position_from (λ b. not (fit b)) i bs))
all_fit_from i [] = refl
all_fit_from i (b ∷ bs) = grind (arith, all_fit_from (i + 1) bs)

pub all_fit_lem : (bs : List ℕ) → all_fit bs ≡ not (is_some (first_unfit_byte bs))
all_fit_lem bs = all_fit_from 0 bs ∙ ap (λ o. not (is_some o)) (sym (position_from-zero (λ b. not (fit b)) bs))

pub read_text_lem : (bs : List ℕ) → is_ok (read_text bs) ≡ is_text bs
read_text_lem bs = grind (arith, nat_tests, all_fit_lem bs)
