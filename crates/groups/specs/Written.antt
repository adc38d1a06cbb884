-- How a row of blocks is written.
use Rattle.std.specs.Prelude.{ℕ, ◌+◌, ◌/◌, ◌%◌, ◌<◌, List, [], ◌∷◌, ◌++◌, length, Some}
use Rattle.std.specs.List.{AllByRecursion}
use Rattle.groups.specs.Frames.{Frame, new_frame}

-- each number is one of a byte, as every one in a slice of bytes is
abbrev pub Bytes : List ℕ → Type 0
Bytes bs = AllByRecursion (λ b. b < 256) bs

-- a tag, the number of the bytes in two bytes, the first counting most, and the bytes
abbrev pub written_block : ℕ → List ℕ → List ℕ
written_block tag contents = tag ∷ length contents / 256 ∷ length contents % 256 ∷ contents

-- blocks by their tags and contents, one after the other
abbrev pub written_row : List (ℕ × List ℕ) → List ℕ
written_row [] = []
written_row (b ∷ row) = written_block b.0 b.1 ++ written_row row

-- the same blocks as they lie in a row from the byte i on
abbrev pub placed : ℕ → List (ℕ × List ℕ) → List Frame
placed i [] = []
placed i (b ∷ row) = new_frame i b.0 (Some b.1) ∷ placed (i + 3 + length b.1) row
