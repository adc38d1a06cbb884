-- What a block and a row of blocks in lent bytes mean.
use Rattle.std.specs.Borrow.{Bor}
use Rattle.std.specs.Prelude.{◌≡◌, ℕ, ◌+◌, ◌≤◌, List, [], ◌∷◌, length, drop, Some, None, Option}
use Rattle.groups.specs.declared.block.Block.{Block}
use Rattle.groups.specs.declared.block.Blocks.{Blocks}
use Rattle.groups.specs.Frames.{Frame, frames, held, new_frame, size}

abbrev pub frame_of : Block → Frame
frame_of b = new_frame b.place b.tag (held b.contents)

-- the blocks still to come
abbrev pub left : Blocks → List Frame
left row = frames row.place row.rest.now

-- the first block comes and the others stay; at the end none comes
abbrev pub Came : List Frame → Option Block → List Frame → Type 0
Came before None after = (before ≡ []) × (after ≡ [])
Came before (Some b) after = before ≡ frame_of b ∷ after

-- the place behind the last byte
abbrev pub ends : Blocks → ℕ
ends row = row.place + length row.rest.now

-- a block that comes lies before the end, and the end does not move on
abbrev pub Within : ℕ → Option Block → ℕ → Type 0
Within before None after = after ≤ before
Within before (Some b) after = (b.place + size (held b.contents) ≤ before) × (after ≤ before)

-- a call of `next`: the first block comes and the others stay, and what comes lies before the end
pub record Taken (before : Blocks) (b : Option Block) (after : Blocks) : Type 0 where
  pub came : Came (left before) b (left after)
  pub within : Within (ends before) b (ends after)

-- the counted bytes with what stands behind them
abbrev pub with_rest : List ℕ → Option (List ℕ) → Option (List ℕ × List ℕ)
with_rest bs None = None
with_rest bs (Some p) = Some (p, drop (2 + length p) bs)

abbrev pub held_both : Option (Bor (List ℕ) × Bor (List ℕ)) → Option (List ℕ × List ℕ)
held_both None = None
held_both (Some rs) = Some (rs.0.now, rs.1.now)
