-- The list that is worked by hand, and the same put right.
use Rattle.std.proofs.Common.{◌≡◌, ℕ, List, [], ◌∷◌, ◌++◌, Some, None, Ok, Err, codes, refl}
use Rattle.titles.specs.declared.issn.IssnFault.TheVariants.{CheckSum, Length}
use Rattle.titles.specs.Titles.{new_entry}
use Rattle.lists.specs.declared.fault.FieldFault.TheVariants.{Issn}
use Rattle.lists.specs.declared.fault.ListCause.TheVariants.{Field}
use Rattle.lists.specs.Faults.{new_fault}
use Rattle.lists.specs.Lists.{read_list}

-- Kiln Annals, Kiln Press, and then a field
kiln : ℕ → List ℕ → List ℕ
kiln count field = (48 ∷ 0 ∷ count ∷ 1 ∷ 0 ∷ 11 ∷ codes "Kiln Annals") ++ (2 ∷ 0 ∷ 10 ∷ codes "Kiln Press") ++ field

short_issn : read_list (kiln 37 (3 ∷ 0 ∷ 7 ∷ codes "1000-00")) ≡ Err (new_fault 0 3 30 (Field (Issn Length)))
unfolding kiln
short_issn = refl

wrong_sum : read_list (kiln 42 ((3 ∷ 0 ∷ 9 ∷ codes "1000-0004") ++ 4 ∷ 0 ∷ 0 ∷ [])) ≡ Err (new_fault 0 3 41 (Field (Issn CheckSum)))
unfolding kiln
wrong_sum = refl

right : read_list (kiln 42 ((3 ∷ 0 ∷ 9 ∷ codes "1000-0003") ++ 4 ∷ 0 ∷ 0 ∷ [])) ≡ Ok (new_entry (codes "Kiln Annals") (codes "Kiln Press") (Some (record { bytes = codes "1000-0003" })) None ∷ [])
unfolding kiln
right = refl
