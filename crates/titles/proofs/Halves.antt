-- Nine bytes are read by their halves: four digits, the hyphen, and the four signs behind it.
use Rattle.std.proofs.Common.{◌≡◌, ℕ, ◌+◌, Bool, true, false, cond, eqb, List, [], ◌∷◌, length, get_or, Some, None, Ok, Err, Option, Result, sym, refl, ap, ◌∙◌, arith}
use Rattle.std.proofs.lemmas.Slice.Eq.{text_from_reads}
use Rattle.titles.specs.declared.issn.Issn.{Issn}
use Rattle.titles.specs.declared.issn.IssnFault.{IssnFault}
use Rattle.titles.specs.declared.issn.IssnFault.TheVariants.{Unfit, CheckSum}
use Rattle.titles.specs.Issns.{is_check, is_digit, read_issn, read_nine, right_sum, weighted}
use Rattle.titles.specs.Weighing.{back_sum, front_sum, unless, weigh_back, weigh_front}

-- what the halves and the hyphen between them make of the bytes
abbrev pub joined : Result ℕ IssnFault → Bool → Result ℕ IssnFault → List ℕ → Result Issn IssnFault
joined (Err x) hyphen back bs = Err x
joined (Ok m) false back bs = Err (Unfit 4)
joined (Ok m) true (Err x) bs = Err x
joined (Ok m) true (Ok n) bs = cond (right_sum (m + n)) (Ok (record { bytes = bs })) (Err CheckSum)

-- the first of four places whose test fails, else what the rest gives
abbrev pub four : Bool → Bool → Bool → Bool → ℕ → ℕ → ℕ → ℕ → Option ℕ → Option ℕ
four p q r s i j k l rest = cond p (cond q (cond r (cond s rest (Some l)) (Some k)) (Some j)) (Some i)

by_tests : (p q r s h t u v w : Bool) (m n : ℕ) (bs : List ℕ) → weighted bs ≡ m + n → read_nine (four p q r s 0 1 2 3 (cond h (four t u v w 5 6 7 8 None) (Some 4))) bs ≡ joined (unless (four p q r s 0 1 2 3 None) m) h (unless (four t u v w 5 6 7 8 None) n) bs
by_tests p q r s h t u v w m n bs e = grind arith

module _ (s : List ℕ) (l : length s ≡ 9) where
  abbrev at : ℕ → ℕ
  at i = get_or s i 0

  abbrev nine : List ℕ
  nine = at 0 ∷ at 1 ∷ at 2 ∷ at 3 ∷ at 4 ∷ at 5 ∷ at 6 ∷ at 7 ∷ at 8 ∷ []

  abbrev front : Result ℕ IssnFault
  front = weigh_front (at 0) (at 1) (at 2) (at 3)

  abbrev back : Result ℕ IssnFault
  back = weigh_back (at 5) (at 6) (at 7) (at 8)

  pub spelled : s ≡ nine
  spelled = text_from_reads s nine l (refl, (refl, (refl, (refl, (refl, (refl, (refl, (refl, (refl, tt)))))))))

  pub by_halves : read_issn s ≡ joined front (eqb (at 4) 45) back s
  by_halves =
      ap read_issn spelled ∙ by_tests (is_digit (at 0)) (is_digit (at 1)) (is_digit (at 2)) (is_digit (at 3)) (eqb (at 4) 45) (is_digit (at 5)) (is_digit (at 6)) (is_digit (at 7)) (is_check (at 8)) (front_sum (at 0) (at 1) (at 2) (at 3)) (back_sum (at 5) (at 6) (at 7) (at 8)) nine refl ∙ ap (joined front (eqb (at 4) 45) back) (sym spelled)

  -- where both halves are accepted and sum rightly, the bytes are the ISSN
  pub at_sum : (m n : ℕ) → Ok m ≡ front → at 4 ≡ 45 → Ok n ≡ back → true ≡ right_sum (m + n) → read_issn s ≡ Ok (record { bytes = at 0 ∷ at 1 ∷ at 2 ∷ at 3 ∷ 45 ∷ at 5 ∷ at 6 ∷ at 7 ∷ at 8 ∷ [] })
  at_sum m n e h f w = rw (by_halves, ← e, h, ← f, ← w) (ap (λ b. Ok (record { bytes = b })) (rw h at spelled))
