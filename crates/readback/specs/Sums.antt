-- How high the sums over the titles are.
use Rattle.std.specs.Prelude.{ℕ, ◌≤◌, slice_index}
use Rattle.readback.specs.declared.tally.Sums.{Sums}

-- no sum is over b
pub record Low (b : ℕ) (s : Sums) : Type 0 where
  pub columns : (i : ℕ) → slice_index s.columns i ≤ b
  pub html : s.html ≤ b
  pub pdf : s.pdf ≤ b
