-- Room in the lent tables.
use Rattle.std.proofs.Common.{◌≡◌, ℕ, suc, ◌+◌, ◌*◌, ◌<◌, ◌≤◌, true, not, ◌&&◌, ◌||◌, leb, length, ap, ⊎_elim, mul-le-mul_right, suc-mul, arith}
use Rattle.std.proofs.lemmas.Bool.{and_parts, both_ways, leb-true, not-true, or_cases}
use Rattle.columns.specs.Layouts.{Layout}
use Rattle.grammar.specs.Files.{column_count}
use Rattle.readback.specs.Answers.{Tables, roomy}

-- what the tables have room for
pub record Room (l : Layout) (t : Tables) : Type 0 where
  pub titles : 512 ≤ length t.titles
  pub numbers : 512 * column_count l ≤ length t.numbers
  pub ytd : l.ytd ≡ true → 1024 ≤ length t.ytd

pub room_is : (l : Layout) (t : Tables) → roomy l t ≡ true → Room l t
room_is l t h =
    let long = leb 512 (length t.titles) in
    let wide = leb (512 * column_count l) (length t.numbers) in
    let years = leb 1024 (length t.ytd) in
    let a = and_parts long (wide && (not l.ytd || years)) h in
    let b = and_parts wide (not l.ytd || years) a.1 in
    record {
      titles = leb-true 512 (length t.titles) a.0;
      numbers = leb-true (512 * column_count l) (length t.numbers) b.0;
      ytd = λ e. ⊎_elim (λ n. absurd (both_ways l.ytd (not-true l.ytd n) e)) (leb-true 1024 (length t.ytd)) (or_cases (not l.ytd) years b.1);
    }

-- the numbers of a title, where there are k columns
pub within : (l : Layout) (t : Tables) → roomy l t ≡ true → (n k : ℕ) → n < 512 → k ≡ column_count l → n * k + k ≤ length t.numbers
within l t h n k below columns =
    let room = (room_is l t h).numbers in
    let more = suc-mul n k in
    let most : suc n * k ≤ 512 * k = mul-le-mul_right k below in
    let same : 512 * k ≡ 512 * column_count l = ap (λ m. 512 * m) columns in
    omega arith
