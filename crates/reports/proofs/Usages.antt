-- A line's numbers, column by column.
use Rattle.std.proofs.Common.{◌≡◌, ℕ, ◌+◌, map, sum_by, sum, sym, ap, ◌∙◌, arith}
use Rattle.std.specs.List.{range_with_len}
use Rattle.std.proofs.lemmas.List.FromFn.{map-range_with_len_more}
use Rattle.std.proofs.lemmas.List.Sums.{sum-map}
use Rattle.reports.specs.declared.counts.Formats.{Formats}
use Rattle.reports.specs.Counting.{with_column}
use Rattle.reports.specs.Tables.{usage_by}
use Rattle.reports.proofs.Sums.{sum_by_counting_more, sum_by_plus}

module _ (html pdf : ℕ → ℕ) (n : ℕ) where
  pub usage_more : (f : Formats ℕ) → f ≡ record { html = html n; pdf = pdf n } → with_column (usage_by html pdf n) f ≡ usage_by html pdf (n + 1)
  usage_more f is =
      ap (with_column (usage_by html pdf n)) is
      ∙ (λ i. record { columns = sym (map-range_with_len_more (λ k. html k + pdf k) 0 n n (omega arith)) i; html = sym (sum_by_counting_more html n) i; pdf = sym (sum_by_counting_more pdf n) i })

  pub balance : sum_by html (range_with_len 0 n) + sum_by pdf (range_with_len 0 n) ≡ sum (map (λ k. html k + pdf k) (range_with_len 0 n))
  balance = sym (sum-map (λ k. html k + pdf k) (range_with_len 0 n) ∙ sum_by_plus html pdf (range_with_len 0 n))
