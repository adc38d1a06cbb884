-- Blocks that were written are the blocks that are read.
use Rattle.std.proofs.Common.{◌≡◌, ℕ, ◌+◌, List, [], ◌∷◌, ◌++◌, length, Some, zero-add, arith}
use Rattle.std.proofs.lemmas.List.{append-nil}
use Rattle.std.proofs.lemmas.Bool.Decides.{nat_tests}
use Rattle.std.proofs.lemmas.Grind.{common_steps}
use Rattle.groups.specs.Frames.{frames, new_frame}
use Rattle.groups.specs.Written.{placed, written_block, written_row}
use Rattle.groups.proofs.Dividing.{frames_behind}

pub block_written : (i tag : ℕ) (p rest : List ℕ) → frames i (written_block tag p ++ rest) ≡ new_frame i tag (Some p) ∷ frames (i + 3 + length p) rest
block_written i tag p rest = grind (arith, nat_tests, common_steps, frames_behind)

-- a row that was written is read, and then what stands behind it
pub row_written : (i : ℕ) (row : List (ℕ × List ℕ)) (rest : List ℕ) → frames i (written_row row ++ rest) ≡ placed i row ++ frames (i + length (written_row row)) rest
row_written i [] rest = grind arith
row_written i (b ∷ row) rest = grind (arith, common_steps, block_written i b.0 b.1 (written_row row ++ rest), row_written (i + 3 + length b.1) row rest)

pub row_from_start : (row : List (ℕ × List ℕ)) (rest : List ℕ) → frames 0 (written_row row ++ rest) ≡ placed 0 row ++ frames (length (written_row row)) rest
row_from_start row rest = rw zero-add at (row_written 0 row rest)

pub whole_row_written : (i : ℕ) (row : List (ℕ × List ℕ)) → frames i (written_row row) ≡ placed i row
whole_row_written i row = grind (arith, append-nil, row_written i row [])
