-- A row in which each block is whole.
use Rattle.std.proofs.Common.{◌≡◌, ℕ, ◌+◌, List, [], ◌∷◌, map, length, drop, Some, refl, arith}
use Rattle.std.specs.List.{AllByRecursion}
use Rattle.groups.specs.Frames.{Frame, bytes_of, frames, new_frame}
use Rattle.groups.specs.Written.{placed}
use Rattle.groups.proofs.Dividing.{frames_behind}

abbrev pub Whole : Frame → Type 0
Whole f = f.contents ≡ Some (bytes_of f.contents)

-- a block by its tag and contents
abbrev pub pair_of : Frame → ℕ × List ℕ
pair_of f = (f.tag, bytes_of f.contents)

whole_first : (i tag : ℕ) (bs : List ℕ) (f : Frame) (fs : List Frame) → frames i (tag ∷ bs) ≡ f ∷ fs → Whole f → f ≡ new_frame i f.tag (Some (bytes_of f.contents))
whole_first i tag bs f fs e w = grind arith

behind_whole : (i tag : ℕ) (bs : List ℕ) (f : Frame) (fs : List Frame) → frames i (tag ∷ bs) ≡ f ∷ fs → Whole f → frames (i + 3 + length (bytes_of f.contents)) (drop (2 + length (bytes_of f.contents)) bs) ≡ fs
behind_whole i tag bs f fs e w = grind (arith, frames_behind)

-- whole blocks lie one behind the other
close : (fs : List Frame) (i : ℕ) (bs : List ℕ) → frames i bs ≡ fs → AllByRecursion Whole fs → fs ≡ placed i (map pair_of fs)
close [] i bs e w = refl
close (f ∷ fs) i [] e w = cc
close (f ∷ fs) i (tag ∷ bs) e w =
    let n : ℕ = length (bytes_of f.contents) in
    let first = whole_first i tag bs f fs e w.0 in
    let others = close fs (i + 3 + n) (drop (2 + n) bs) (behind_whole i tag bs f fs e w.0) w.1 in
    λ j. first j ∷ others j

pub whole_blocks_close : (i : ℕ) (bs : List ℕ) → AllByRecursion Whole (frames i bs) → frames i bs ≡ placed i (map pair_of (frames i bs))
whole_blocks_close i bs w = close (frames i bs) i bs refl w
