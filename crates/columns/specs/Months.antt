-- The headings of a month scheme.
use Rattle.std.specs.Prelude.{◌≡◌, ℕ, zero, suc, ◌+◌, ◌%◌, ◌<◌, ◌≤◌, true, List, [], ◌∷◌, ◌++◌, length, take, slice_index_or, refl}
use Rattle.std.proofs.Common.{sym, ap, ◌∙◌, arith}
use Rattle.std.proofs.ByRecursion.{All-get_or}
use Rattle.std.proofs.lemmas.List.{length-map, length-take-le, get_or-map, get_or-take}
use Rattle.std.proofs.lemmas.Bool.Decides.{nat_tests}
use Rattle.std.specs.List.{AllByRecursion, position_or_len}
use Rattle.std.specs.Str.{bytes_eq}
use Rattle.texts.specs.Texts.{fit, all_fit, is_text}
use Rattle.columns.specs.Calendar.{digits, names}
use Rattle.columns.specs.Layouts.{Sound, month_heading, month_layout}

fit_digit : (n : ℕ) → fit (48 + n % 10) ≡ true
fit_digit n = let h : n % 10 < 10 = omega arith in grind (arith, nat_tests)

-- digits may stand in a text
pub fit_digits : (n : ℕ) → all_fit (digits n) ≡ true
fit_digits n = simp fit_digit

-- where a name stands among the names
which : List ℕ → List (List ℕ) → ℕ
which n = position_or_len (bytes_eq n)

-- a name is found at its place, whatever follows it
which_name : (k : ℕ) (t : List ℕ) → k < 12 → which (take 3 (slice_index_or names k [] ++ t)) names ≡ k
unfolding which
which_name zero t h = refl
which_name (suc zero) t h = refl
which_name (suc (suc zero)) t h = refl
which_name (suc (suc (suc zero))) t h = refl
which_name (suc (suc (suc (suc zero)))) t h = refl
which_name (suc (suc (suc (suc (suc zero))))) t h = refl
which_name (suc (suc (suc (suc (suc (suc zero)))))) t h = refl
which_name (suc (suc (suc (suc (suc (suc (suc zero))))))) t h = refl
which_name (suc (suc (suc (suc (suc (suc (suc (suc zero)))))))) t h = refl
which_name (suc (suc (suc (suc (suc (suc (suc (suc (suc zero))))))))) t h = refl
which_name (suc (suc (suc (suc (suc (suc (suc (suc (suc (suc zero)))))))))) t h = refl
which_name (suc (suc (suc (suc (suc (suc (suc (suc (suc (suc (suc zero))))))))))) t h = refl
which_name (suc (suc (suc (suc (suc (suc (suc (suc (suc (suc (suc (suc k)))))))))))) t h = absurd (omega arith)

module _ (y n : ℕ) (few : n ≤ 12) where
  abbrev headings : List (List ℕ)
  headings = (month_layout y n).headings

  pub month_length : length headings ≡ n
  month_length = length-map (take n names) (month_heading y) ∙ length-take-le n names few

  pub month_at : (k : ℕ) → k < n → slice_index_or headings k [] ≡ month_heading y (slice_index_or names k [])
  month_at k l = get_or-map (month_heading y) (take n names) k [] [] (rw length-take-le l) ∙ ap (month_heading y) (get_or-take n names k [] l)

  month_texts : AllByRecursion (λ name. is_text (month_heading y name) ≡ true) names
  month_texts = let t = fit_digits y in (t, (t, (t, (t, (t, (t, (t, (t, (t, (t, (t, (t, tt))))))))))))

  pub month_sound : 1 ≤ n → Sound (month_layout y n)
  month_sound some = record {
    some = rw month_length some;
    few = rw month_length few;
    texts = λ i l. let k = rw month_length at l in rw month_at (All-get_or (λ name. is_text (month_heading y name) ≡ true) names i [] (omega arith) month_texts);
    differ = λ i j l o e.
        let a : i < n = rw month_length at l in
        let b : j < n = rw month_length at o in
        sym (which_name i (45 ∷ digits y) (omega arith)) ∙ ap (λ t. which (take 3 t) names) (sym (month_at i a) ∙ e ∙ month_at j b) ∙ which_name j (45 ∷ digits y) (omega arith);
    report = refl;
    description = refl;
  }
