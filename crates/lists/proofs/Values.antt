-- The value of a field is right exactly where its bytes have no fault.
use Rattle.std.proofs.Common.{◌≡◌, ℕ, true, List, length, is_ok, None, Option, Result, sym, ◌∙◌, arith}
use Rattle.texts.specs.Texts.{is_text}
use Rattle.titles.specs.declared.issn.Issn.{Issn}
use Rattle.titles.specs.Texts.{read_text}
use Rattle.titles.specs.Titles.{is_blank_or_issn, issn_bytes}
use Rattle.titles.proofs.Fitness.{read_text_lem}
use Rattle.lists.specs.declared.fault.FieldFault.{FieldFault}
use Rattle.lists.specs.declared.fault.FieldFault.TheVariants.{Text}
use Rattle.lists.specs.Fields.{fault_in, issn_fault, issn_of, text_fault}

ok_if_clear : {A E : Type 0} (turned : E → FieldFault) (r : Result A E) → fault_in turned r ≡ None → is_ok r ≡ true
ok_if_clear turned r h = grind arith

clear_if_ok : {A E : Type 0} (turned : E → FieldFault) (r : Result A E) → is_ok r ≡ true → fault_in turned r ≡ None
clear_if_ok turned r h = grind arith

pub text_if_clear : (bs : List ℕ) → text_fault bs ≡ None → is_text bs ≡ true
text_if_clear bs h = sym (read_text_lem bs) ∙ ok_if_clear Text (read_text bs) h

pub clear_if_text : (bs : List ℕ) → is_text bs ≡ true → text_fault bs ≡ None
clear_if_text bs h = clear_if_ok Text (read_text bs) (read_text_lem bs ∙ h)

pub text_not_empty : (bs : List ℕ) → is_text bs ≡ true → length bs ≡ 0 → ⊥
text_not_empty bs h e = cc

-- bytes with no fault are a blank or a right ISSN, which shows as they do
pub issn_if_clear : (bs : List ℕ) → issn_fault bs ≡ None → (issn_bytes (issn_of bs) ≡ bs) × (is_blank_or_issn (issn_of bs) ≡ true)
issn_if_clear bs h = grind arith

-- the bytes that a blank or right ISSN shows have no fault, and are that ISSN
pub clear_if_issn : (o : Option Issn) → is_blank_or_issn o ≡ true → (issn_fault (issn_bytes o) ≡ None) × (issn_of (issn_bytes o) ≡ o)
clear_if_issn o h = grind arith
