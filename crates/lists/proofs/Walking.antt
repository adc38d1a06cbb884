-- A row of blocks is walked block by block.
use Rattle.std.proofs.Common.{◌≡◌, ℕ, zero, suc, ◌+◌, ◌≤◌, List, [], ◌∷◌, length, drop, Some, arith}
use Rattle.std.proofs.lemmas.List.{length-drop}
use Rattle.groups.specs.Frames.{counted}

-- what holds at the end, and of a row if it holds behind the first block, holds of each row
module _ (P : ℕ → List ℕ → Type 0) (end : (i : ℕ) → P i []) (first : (i tag : ℕ) (bs : List ℕ) → ((p : List ℕ) → counted bs ≡ Some p → P (i + 3 + length p) (drop (2 + length p) bs)) → P i (tag ∷ bs)) where
  walk : (m i : ℕ) (bs : List ℕ) → length bs ≤ m → P i bs
  walk m i [] l = end i
  walk zero i (tag ∷ bs) l = absurd (omega arith)
  walk (suc m) i (tag ∷ bs) l =
      first i tag bs (λ p c. walk m (i + 3 + length p) (drop (2 + length p) bs) (omega (arith, length-drop (2 + length p) bs)))

  pub by_blocks : (i : ℕ) (bs : List ℕ) → P i bs
  by_blocks i bs = walk (length bs) i bs (omega arith)
