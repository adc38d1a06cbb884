-- What the first pass keeps comes to the line for all journals.
use Rattle.std.proofs.Common.{◌≡◌, ℕ, zero, suc, ◌+◌, ◌<◌, Bool, true, false, cond, ◌&&◌, eqb, List, [], ◌∷◌, map, length, get_or, fold, sum_by, sym, refl, ap, ◌∙◌, add-zero, zero-add, arith}
use Rattle.std.proofs.lemmas.List.FromFn.{fill_by_all}
use Rattle.std.proofs.lemmas.List.{get_or-replicate, length-replicate}
use Rattle.std.proofs.lemmas.List.Sums.{sum_by-cons}
use Rattle.std.proofs.lemmas.Bool.{cond-false, ne_eqb}
use Rattle.std.specs.List.{list_all}
use Rattle.std.specs.Str.{bytes_eq}
use Rattle.reports.specs.Reports.{Line, Usage, shared_publisher, totals}
use Rattle.grammar.specs.Files.{line_of}
use Rattle.grammar.specs.Lines.{Row}
use Rattle.readback.specs.Passes.{Tally, add_each, no_tally, still_shared, tallied}

-- a number to which each line adds one of its own, as long as P holds
module _ (P : Tally → Type 0) (f : Tally → ℕ) (g : Line → ℕ) (keeps : (t : Tally) (r : Row) → P t → P (tallied t r)) (adds : (t : Tally) (r : Row) → P t → f (tallied t r) ≡ f t + g (line_of r)) where
  summed : (rows : List Row) (t : Tally) → P t → f (fold tallied t rows) ≡ f t + sum_by g (map line_of rows)
  summed [] t p = sym (add-zero (f t))
  summed (r ∷ rs) t p =
      let rest = summed rs (tallied t r) (keeps t r p) in
      let here = adds t r p in
      let all = sum_by-cons g (line_of r) (map line_of rs) in
      omega arith

length_add_each : (xs ns : List ℕ) → length (add_each xs ns) ≡ length xs
length_add_each [] ns = refl
length_add_each (x ∷ xs) [] = refl
length_add_each (x ∷ xs) (n ∷ ns) = ap suc (length_add_each xs ns)

get_d_add_each : (xs ns : List ℕ) (i : ℕ) → i < length xs → get_or (add_each xs ns) i 0 ≡ get_or xs i 0 + get_or ns i 0
get_d_add_each [] ns i h = absurd (omega arith)
get_d_add_each (x ∷ xs) [] i h = sym (add-zero (get_or (x ∷ xs) i 0))
get_d_add_each (x ∷ xs) (n ∷ ns) zero h = refl
get_d_add_each (x ∷ xs) (n ∷ ns) (suc i) h = get_d_add_each xs ns i (omega arith)

columns_long : (rows : List Row) (t : Tally) → length (fold tallied t rows).sums.columns ≡ length t.sums.columns
columns_long [] t = refl
columns_long (r ∷ rs) t = columns_long rs (tallied t r) ∙ length_add_each t.sums.columns r.usage.columns

module _ (n : ℕ) (rows : List Row) where
  abbrev tally : Tally
  tally = fold tallied (no_tally n) rows

  column_is : (c : ℕ) → c < n → get_or tally.sums.columns c 0 ≡ sum_by (λ (l : Line). get_or l.usage.columns c 0) (map line_of rows)
  column_is c h =
      summed (λ t. length t.sums.columns ≡ n) (λ t. get_or t.sums.columns c 0) (λ l. get_or l.usage.columns c 0)
      (λ t r e. length_add_each t.sums.columns r.usage.columns ∙ e) (λ t r e. get_d_add_each t.sums.columns r.usage.columns c (omega arith)) rows (no_tally n) (length-replicate n 0)
      ∙ ap (λ k. k + sum_by (λ (l : Line). get_or l.usage.columns c 0) (map line_of rows)) (get_or-replicate n c 0 0 h)
      ∙ zero-add (sum_by (λ (l : Line). get_or l.usage.columns c 0) (map line_of rows))

  number_is : (f : Usage → ℕ) → ((t : Tally) (r : Row) → f (tallied t r).sums ≡ f t.sums + f r.usage) → f (no_tally n).sums ≡ 0 → f tally.sums ≡ sum_by (λ (l : Line). f l.usage) (map line_of rows)
  number_is f adds none =
      summed (λ t. Unit {0}) (λ t. f t.sums) (λ l. f l.usage) (λ t r p. tt) (λ t r p. adds t r) rows (no_tally n) tt
      ∙ ap (λ k. k + sum_by (λ (l : Line). f l.usage) (map line_of rows)) none
      ∙ zero-add (sum_by (λ (l : Line). f l.usage) (map line_of rows))

  pub sums_are : tally.sums ≡ totals n (map line_of rows)
  sums_are =
      let columns = fill_by_all (λ c. sum_by (λ (l : Line). get_or l.usage.columns c 0) (map line_of rows)) tally.sums.columns n 0 (columns_long rows (no_tally n) ∙ length-replicate n 0) column_is in
      let html = number_is (λ u. u.html) (λ t r. refl) refl in
      let pdf = number_is (λ u. u.pdf) (λ t r. refl) refl in
      (λ i. record { columns = columns i; html = html i; pdf = pdf i })

-- once there is a title, its publisher stays until another differs, and then none comes back
later : (titles : ℕ) (shared next : List ℕ) → still_shared (titles + 1) shared next ≡ cond (bytes_eq shared next) shared []
later titles shared next = cond-false (eqb (titles + 1) 0) next (cond (bytes_eq shared next) shared []) (ne_eqb (titles + 1) 0 (λ e. omega arith))

blank : (b : Bool) → ◌≡◌ {A = List ℕ} (cond b [] []) []
blank true = refl
blank false = refl

next_shared : (p : List ℕ) (b : Bool) (ps : List (List ℕ)) → cond (list_all (bytes_eq (cond b p [])) ps) (cond b p []) [] ≡ cond (b && list_all (bytes_eq p) ps) p []
next_shared p true ps = refl
next_shared p false ps = blank (list_all (bytes_eq []) ps)

shared_from : (rows : List Row) (t : Tally) (k : ℕ) → t.titles ≡ k + 1 → (fold tallied t rows).publisher ≡ cond (list_all (bytes_eq t.publisher) (map (λ (l : Line). l.publisher) (map line_of rows))) t.publisher []
shared_from [] t k e = refl
shared_from (r ∷ rs) t k e =
    let p = t.publisher in
    let q = r.entry.publisher in
    let ps = map (λ (l : Line). l.publisher) (map line_of rs) in
    let here : still_shared t.titles p q ≡ cond (bytes_eq p q) p [] = ap (λ m. still_shared m p q) e ∙ later k p q in
    shared_from rs (tallied t r) t.titles refl
    ∙ ap (λ s. cond (list_all (bytes_eq s) ps) s []) here
    ∙ next_shared p (bytes_eq p q) ps

pub publisher_is : (n : ℕ) (rows : List Row) → (fold tallied (no_tally n) rows).publisher ≡ shared_publisher (map line_of rows)
publisher_is n [] = refl
publisher_is n (r ∷ rs) = shared_from rs (tallied (no_tally n) r) 0 refl
