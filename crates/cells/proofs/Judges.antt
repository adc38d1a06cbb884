-- What each judge grants.
use Rattle.std.proofs.Common.{◌≡◌, ℕ, ◌+◌, ◌<◌, true, ◌⊎◌, List, [], ◌∷◌, is_ok, Some, None, Ok, Err, decimal, Option, Result, sym, refl, ap, ◌∙◌, inl, inr, arith, rules}
use Rattle.std.proofs.lemmas.Slice.Eq.{bytes_eq-Decides}
use Rattle.std.proofs.lemmas.Bool.{leb-true}
use Rattle.std.proofs.lemmas.Bool.Decides.{nat_tests}
use Rattle.std.specs.List.{AllByRecursion}
use Rattle.std.specs.Str.{all_ascii_digits}
use Rattle.texts.specs.Texts.{all_fit, is_text}
use Rattle.titles.specs.declared.issn.Issn.{Issn}
use Rattle.titles.specs.declared.issn.IssnFault.{IssnFault}
use Rattle.titles.specs.Issns.{read_issn}
use Rattle.titles.specs.Spelling.{Right, check_sign, digit}
use Rattle.titles.specs.Titles.{is_blank_or_issn, issn_bytes}
use Rattle.titles.proofs.Spelled.{accepts}
use Rattle.columns.specs.Calendar.{is_date}
use Rattle.reports.specs.Reports.{is_low}
use Rattle.reports.specs.Written.{date_text}
use Rattle.cells.specs.declared.fault.Cause.{Cause}
use Rattle.cells.specs.declared.fault.Cause.TheVariants.{WrongNumber, WrongText}
use Rattle.cells.specs.Dates.{read_date}
use Rattle.cells.specs.Judged.{date_or, issn_in, issn_or, note_in, number_in, or_else, sum_in, text_in, word_in}
use Rattle.cells.specs.Numbers.{number_of}
use Rattle.cells.proofs.Dating.{date_is, date_of}
use Rattle.cells.proofs.Numbering.{decimal_digits, number_is, number_of_lem}
use Rattle.cells.proofs.Reading.{Clean, Judges}

-- what each kind of cell holds is clean
high_clean : (bs : List ℕ) → AllByRecursion (λ b. 44 < b) bs → Clean bs
high_clean [] high = tt
high_clean (b ∷ bs) high = let this = high.0 in (grind (arith, nat_tests), grind (arith, nat_tests), high_clean bs high.1)

all_fit_clean : (bs : List ℕ) → all_fit bs ≡ true → Clean bs
all_fit_clean [] e = tt
all_fit_clean (b ∷ bs) e = (grind (arith, nat_tests), grind (arith, nat_tests), all_fit_clean bs (grind (arith, nat_tests)))

pub text_clean : (text : List ℕ) → is_text text ≡ true → Clean text
text_clean text e = all_fit_clean text (grind (arith, nat_tests))

digits_clean : (bs : List ℕ) → all_ascii_digits bs ≡ true → Clean bs
digits_clean [] e = tt
digits_clean (b ∷ bs) e = (grind (arith, nat_tests), grind (arith, nat_tests), digits_clean bs (grind (arith, nat_tests)))

check_high : (n : ℕ) → 44 < check_sign n
check_high n = grind (arith, nat_tests)

right_clean : (bs : List ℕ) → Right bs → Clean bs
right_clean bs r =
    let spelling = digit r.a ∷ digit r.b ∷ digit r.c ∷ digit r.d ∷ 45 ∷ digit r.e ∷ digit r.f ∷ digit r.g ∷ check_sign r.check ∷ [] in
    rw r.written (high_clean spelling (search (rules, check_high)))

issn_clean : (issn : Option Issn) → is_blank_or_issn issn ≡ true → Clean (issn_bytes issn)
issn_clean None e = tt
issn_clean (Some issn) e = right_clean issn.bytes ((accepts issn.bytes (read_issn issn.bytes) refl).0 e)

-- what each judge tells of the bytes that it grants, and that it grants them
note_is : (bs text : List ℕ) → note_in bs ≡ Ok text → ((text ≡ []) ⊎ (is_text text ≡ true)) × (bs ≡ text)
note_is [] text e = (inl cc, cc)
note_is (b ∷ bs) text e = (inr (grind arith), grind arith)

note_granted : (text : List ℕ) → (text ≡ []) ⊎ (is_text text ≡ true) → (note_in text ≡ Ok text) × Clean text
note_granted [] good = (refl, tt)
note_granted (b ∷ text) (inl blank) = cc
note_granted (b ∷ text) (inr good) = (rw good, text_clean (b ∷ text) good)

issn_shown : (bs : List ℕ) (issn : Issn) → read_issn bs ≡ Ok issn → bs ≡ issn.bytes
issn_shown bs issn e = grind (arith, nat_tests)

issn_right : (bs : List ℕ) (r : Result Issn IssnFault) (o : Option Issn) → read_issn bs ≡ r → issn_or r ≡ Ok o → (is_blank_or_issn o ≡ true) × (bs ≡ issn_bytes o)
issn_right bs (Err fault) o read e = cc
issn_right bs (Ok issn) o read e = let shown = issn_shown bs issn read in (grind arith, grind arith)

issn_is : (bs : List ℕ) (o : Option Issn) → issn_in bs ≡ Ok o → (is_blank_or_issn o ≡ true) × (bs ≡ issn_bytes o)
issn_is [] o e = (grind arith, grind arith)
issn_is (b ∷ bs) o e = issn_right (b ∷ bs) (read_issn (b ∷ bs)) o refl e

right_granted : (issn : Issn) (bs : List ℕ) (r : Result Issn IssnFault) → issn.bytes ≡ bs → read_issn bs ≡ r → is_ok r ≡ true → issn_or r ≡ Ok (Some issn)
right_granted issn bs (Err fault) same read e = cc
right_granted issn bs (Ok x) same read e =
    let is : x ≡ issn = (λ i. record { bytes = sym (same ∙ issn_shown bs x read) i }) in
    ap (λ (y : Issn). Ok (Some y)) is

some_granted : (issn : Issn) (bs : List ℕ) → issn.bytes ≡ bs → is_ok (read_issn bs) ≡ true → issn_in bs ≡ Ok (Some issn)
some_granted issn [] same e = cc
some_granted issn (b ∷ bs) same e = right_granted issn (b ∷ bs) (read_issn (b ∷ bs)) same refl e

issn_granted : (issn : Option Issn) → is_blank_or_issn issn ≡ true → issn_in (issn_bytes issn) ≡ Ok issn
issn_granted None e = refl
issn_granted (Some issn) e = some_granted issn issn.bytes refl e

or_else_ok : {A : Type 0} (cause : Cause) (o : Option A) (v : A) → or_else cause o ≡ Ok v → o ≡ Some v
or_else_ok cause o v e = grind arith

pub word_judge : (word : List ℕ) → Clean word → Judges (word_in word) (λ v. Unit {0}) (λ v. word)
word_judge word clean = record {
  sound = λ bs v e. (tt, grind (arith, bytes_eq-Decides));
  complete = λ v good. (grind (arith, bytes_eq-Decides), clean);
}

pub text_judge : Judges text_in (λ v. is_text v ≡ true) (λ v. v)
text_judge = record { sound = λ bs v e. (grind arith, grind arith); complete = λ v good. (rw good, text_clean v good) }

pub note_judge : Judges note_in (λ v. (v ≡ []) ⊎ (is_text v ≡ true)) (λ v. v)
note_judge = record { sound = note_is; complete = note_granted }

pub issn_judge : Judges issn_in (λ v. is_blank_or_issn v ≡ true) issn_bytes
issn_judge = record { sound = issn_is; complete = λ v good. (issn_granted v good, issn_clean v good) }

pub date_judge : Judges date_or (λ d. is_date d.year d.month d.day ≡ true) (λ d. date_text d.year d.month d.day)
date_judge = record {
  sound = λ bs d e. date_is bs d (or_else_ok WrongText (read_date bs) d e);
  complete = λ d good. (ap (or_else WrongText) (date_of d good), high_clean (date_text d.year d.month d.day) (search rules));
}

pub number_judge : Judges number_in (λ n. is_low n ≡ true) decimal
number_judge = record {
  sound = λ bs n e. let is = number_is bs n (or_else_ok WrongNumber (number_of bs) n e) in (grind (arith, nat_tests), is.1);
  complete = λ n good.
      let low = leb-true n 1000000000 good in
      (ap (or_else WrongNumber) (number_of_lem n low), digits_clean (decimal n) (decimal_digits n low));
}

pub sum_judge : (part whole : ℕ) → Judges (sum_in part whole) (λ n. (part + n ≡ whole) × (is_low n ≡ true)) decimal
sum_judge part whole = record {
  sound = λ bs n e. let s = number_judge.sound bs n (grind (arith, nat_tests)) in ((grind (arith, nat_tests), s.0), s.1);
  complete = λ n good. let c = number_judge.complete n good.1 in (rw (c.0) (grind (arith, nat_tests)), c.1);
}
