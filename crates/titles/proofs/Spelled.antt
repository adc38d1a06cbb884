-- Bytes are read as an ISSN exactly where they spell a right one.
use Rattle.std.proofs.Common.{◌≡◌, ℕ, ◌+◌, ◌-◌, ◌*◌, ◌%◌, ◌<◌, ◌≤◌, Bool, true, cond, eqb, List, [], ◌∷◌, length, get_or, is_ok, None, Ok, Err, Decides, Result, sym, ap, ◌∙◌, arith}
use Rattle.std.proofs.lemmas.Bool.{eq-eqb, eqb-true}
use Rattle.std.proofs.lemmas.Bool.Decides.{nat_tests}
use Rattle.titles.specs.declared.issn.Issn.{Issn}
use Rattle.titles.specs.declared.issn.IssnFault.{IssnFault}
use Rattle.titles.specs.declared.issn.IssnFault.TheVariants.{CheckSum}
use Rattle.titles.specs.Issns.{check_value, is_check, is_digit, read_issn, read_nine, weighted}
use Rattle.titles.specs.Spelling.{Right, check_sign, digit}
use Rattle.titles.specs.Weighing.{back_sum, front_sum, unless}
use Rattle.titles.proofs.Halves.{by_halves, four, joined, spelled}

-- what is spelled may stand in its place, and counts what it spells; and the other way round
digit_stands : (n : ℕ) → n < 10 → is_digit (digit n) ≡ true
digit_stands n h = grind (arith, nat_tests)

digit_spelled : (b : ℕ) → is_digit b ≡ true → (b - 48 < 10) × (b ≡ digit (b - 48))
digit_spelled b e = (grind (arith, nat_tests), grind (arith, nat_tests))

check_stands : (n : ℕ) → n ≤ 10 → is_check (check_sign n) ≡ true
check_stands n h = grind (arith, nat_tests)

check_value_lem : (n : ℕ) → n ≤ 10 → check_value (check_sign n) ≡ n
check_value_lem n h = grind (arith, nat_tests)

check_spelled : (b : ℕ) → is_check b ≡ true → (check_value b ≤ 10) × (b ≡ check_sign (check_value b))
check_spelled b e = (grind (arith, nat_tests), grind (arith, nat_tests))

-- the sum by halves
regroup : (a b c d e f g k : ℕ) → 8 * a + 7 * b + 6 * c + 5 * d + 4 * e + 3 * f + 2 * g + k ≡ (8 * a + 7 * b + 6 * c + 5 * d) + (4 * e + 3 * f + 2 * g + k)
regroup a b c d e f g k = omega arith

-- where every test passes, the sum decides
all_stand : (p q r s t u v w : Bool) (bs : List ℕ) → p ≡ true → q ≡ true → r ≡ true → s ≡ true → t ≡ true → u ≡ true → v ≡ true → w ≡ true → read_nine (four p q r s 0 1 2 3 (four t u v w 5 6 7 8 None)) bs ≡ read_nine None bs
all_stand p q r s t u v w bs a b c d e f g k = simp (a, b, c, d, e, f, g, k)

module _ (bs : List ℕ) (r : Right bs) where
  abbrev spelling : List ℕ
  spelling = digit r.a ∷ digit r.b ∷ digit r.c ∷ digit r.d ∷ 45 ∷ digit r.e ∷ digit r.f ∷ digit r.g ∷ check_sign r.check ∷ []

  spelling_stands : read_issn spelling ≡ read_nine None spelling
  spelling_stands =
      let ds = r.digits in
      all_stand _ _ _ _ _ _ _ _ spelling (digit_stands r.a ds.0) (digit_stands r.b ds.1) (digit_stands r.c ds.2) (digit_stands r.d ds.3) (digit_stands r.e ds.4) (digit_stands r.f ds.5) (digit_stands r.g ds.6) (check_stands r.check r.value)

  spelling_sums : weighted spelling % 11 ≡ 0
  spelling_sums =
      let v = check_value_lem r.check r.value in
      let e : weighted spelling ≡ 8 * r.a + 7 * r.b + 6 * r.c + 5 * r.d + 4 * r.e + 3 * r.f + 2 * r.g + r.check = omega arith in
      ap (λ n. n % 11) e ∙ r.sum

  right_reads : is_ok (read_issn bs) ≡ true
  right_reads =
      ap (λ x. is_ok (read_issn x)) r.written ∙ ap is_ok spelling_stands ∙ ap (λ t. is_ok {T = Issn} (cond t (Ok (record { bytes = spelling })) (Err CheckSum))) (eq-eqb (weighted spelling % 11) 0 spelling_sums)

-- where the halves are accepted, every test passed
tests_passed : (p q r s h t u v w : Bool) (m n : ℕ) (bs : List ℕ) → is_ok (joined (unless (four p q r s 0 1 2 3 None) m) h (unless (four t u v w 5 6 7 8 None) n) bs) ≡ true → (p ≡ true) × (q ≡ true) × (r ≡ true) × (s ≡ true) × (h ≡ true) × (t ≡ true) × (u ≡ true) × (v ≡ true) × (w ≡ true) × ((m + n) % 11 ≡ 0)
tests_passed p q r s h t u v w m n bs e =
    (grind arith, grind arith, grind arith, grind arith, grind arith, grind arith, grind arith, grind arith, grind arith, grind (arith, nat_tests))

module _ (s : List ℕ) (accepted : is_ok (read_issn s) ≡ true) where
  nine_long : length s ≡ 9
  nine_long = grind (arith, nat_tests)

  accepted_right : Right s
  accepted_right =
      let at : ℕ → ℕ = λ i. get_or s i 0 in
      let p = tests_passed (is_digit (at 0)) (is_digit (at 1)) (is_digit (at 2)) (is_digit (at 3)) (eqb (at 4) 45) (is_digit (at 5)) (is_digit (at 6)) (is_digit (at 7)) (is_check (at 8)) (front_sum (at 0) (at 1) (at 2) (at 3)) (back_sum (at 5) (at 6) (at 7) (at 8)) s (ap is_ok (sym (by_halves s nine_long)) ∙ accepted) in
      let a = digit_spelled (at 0) p.0 in
      let b = digit_spelled (at 1) p.1 in
      let c = digit_spelled (at 2) p.2 in
      let d = digit_spelled (at 3) p.3 in
      let h = eqb-true (at 4) 45 p.4 in
      let e = digit_spelled (at 5) p.5 in
      let f = digit_spelled (at 6) p.6 in
      let g = digit_spelled (at 7) p.7 in
      let k = check_spelled (at 8) p.8 in
      record {
        a = at 0 - 48;
        b = at 1 - 48;
        c = at 2 - 48;
        d = at 3 - 48;
        e = at 5 - 48;
        f = at 6 - 48;
        g = at 7 - 48;
        check = check_value (at 8);
        digits = (a.0, b.0, c.0, d.0, e.0, f.0, g.0);
        value = k.0;
        written = spelled s nine_long ∙ (λ i. a.1 i ∷ b.1 i ∷ c.1 i ∷ d.1 i ∷ h i ∷ e.1 i ∷ f.1 i ∷ g.1 i ∷ k.1 i ∷ []);
        sum = ap (λ n. n % 11) (regroup (at 0 - 48) (at 1 - 48) (at 2 - 48) (at 3 - 48) (at 5 - 48) (at 6 - 48) (at 7 - 48) (check_value (at 8))) ∙ p.9;
      }

-- a reading accepts exactly what is right
pub reading_decides : (bs : List ℕ) → Decides (is_ok (read_issn bs)) (Right bs)
reading_decides bs = (accepted_right bs, right_reads bs)

pub accepts : (bs : List ℕ) (r : Result Issn IssnFault) → r ≡ read_issn bs → Decides (is_ok r) (Right bs)
accepts bs r e = rw e (reading_decides bs)
