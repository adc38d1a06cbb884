-- Bytes that divide into whole blocks are these blocks, written.
use Rattle.std.proofs.Common.{◌≡◌, ℕ, ◌+◌, ◌/◌, ◌%◌, ◌<◌, List, [], ◌∷◌, ◌++◌, length, drop, Some, refl, subst, arith}
use Rattle.std.proofs.ByRecursion.{All-drop}
use Rattle.std.proofs.lemmas.Bool.Decides.{nat_tests}
use Rattle.std.proofs.lemmas.Grind.{common_steps}
use Rattle.std.proofs.lemmas.List.{append_assoc}
use Rattle.std.specs.List.{AllByRecursion}
use Rattle.groups.specs.Frames.{Frame, counted, frames, new_frame}
use Rattle.groups.specs.Written.{Bytes, placed, written_row}
use Rattle.groups.proofs.Dividing.{frames_behind}

-- the two bytes of a length are those that are written for the bytes that it counts
pub counted_spelled : (bs p : List ℕ) → Bytes bs → counted bs ≡ Some p → bs ≡ length p / 256 ∷ length p % 256 ∷ (p ++ drop (2 + length p) bs)
counted_spelled bs p b e = grind (arith, nat_tests, common_steps)

record First (i tag : ℕ) (bs : List ℕ) (b : ℕ × List ℕ) (fs : List Frame) : Type 0 where
  same : tag ≡ b.0
  contents : counted bs ≡ Some b.1
  others : frames (i + 3 + length b.1) (drop (2 + length b.1) bs) ≡ fs

first_of : (i tag : ℕ) (bs : List ℕ) (t : ℕ) (p : List ℕ) (fs : List Frame) → frames i (tag ∷ bs) ≡ new_frame i t (Some p) ∷ fs → First i tag bs (t, p) fs
first_of i tag bs t p fs e = record { same = grind arith; contents = grind arith; others = grind (arith, frames_behind) }

none_first : (i tag : ℕ) (bs : List ℕ) → frames i (tag ∷ bs) ≡ [] → ⊥
none_first i tag bs e = grind arith

pub row_spelled : (i : ℕ) (bs : List ℕ) (row : List (ℕ × List ℕ)) → Bytes bs → frames i bs ≡ placed i row → bs ≡ written_row row
row_spelled i [] [] b e = refl
row_spelled i [] (x ∷ row) b e = cc
row_spelled i (tag ∷ bs) [] b e = absurd (none_first i tag bs e)
row_spelled i (tag ∷ bs) (x ∷ row) b e =
    let f = first_of i tag bs x.0 x.1 (placed (i + 3 + length x.1) row) e in
    let t = f.same in
    let c = counted_spelled bs x.1 b.1 f.contents in
    let r = row_spelled (i + 3 + length x.1) (drop (2 + length x.1) bs) row (All-drop (λ b. b < 256) (2 + length x.1) bs b.1) f.others in
    cc

-- a block before others, and what stands behind them
pub block_before : (tag : ℕ) (p bs later : List ℕ) (row : List (ℕ × List ℕ)) (rest : List ℕ) → bs ≡ length p / 256 ∷ length p % 256 ∷ (p ++ later) → later ≡ written_row row ++ rest → tag ∷ bs ≡ written_row ((tag, p) ∷ row) ++ rest
block_before tag p bs later row rest e f = grind (arith, append_assoc)

bytes_parted : (p rest : List ℕ) → Bytes (p ++ rest) → Bytes p × Bytes rest
bytes_parted [] rest b = (tt, b)
bytes_parted (x ∷ p) rest b = grind (arith, bytes_parted p rest)

-- the contents of blocks that were written in bytes are bytes
pub contents_are_bytes : (row : List (ℕ × List ℕ)) → Bytes (written_row row) → AllByRecursion (λ b. Bytes b.1) row
contents_are_bytes [] b = tt
contents_are_bytes (x ∷ row) b = grind (arith, bytes_parted x.1 (written_row row), contents_are_bytes row)

pub counted_are_bytes : (bs p : List ℕ) → Bytes bs → counted bs ≡ Some p → Bytes p
counted_are_bytes bs p b e = (bytes_parted p (drop (2 + length p) bs) (subst Bytes (counted_spelled bs p b e) b).1.1).0
