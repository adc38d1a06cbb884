-- The first block of a row, and the others.
use Rattle.std.proofs.Common.{◌≡◌, ℕ, zero, suc, ◌+◌, List, [], ◌∷◌, length, drop, Some, None, refl, arith}
use Rattle.std.proofs.lemmas.Bool.Decides.{nat_tests}
use Rattle.std.proofs.lemmas.Grind.{common_steps}
use Rattle.groups.specs.Frames.{Frame, choose, counted, frames, frames_after, new_frame}
use Rattle.groups.specs.Views.{with_rest}

-- bytes of the block before are passed over
pub frames_behind : (n i : ℕ) (bs : List ℕ) → frames_after n i bs ≡ frames (i + n) (drop n bs)
frames_behind zero i bs = grind arith
frames_behind (suc n) i [] = refl
frames_behind (suc n) i (b ∷ bs) = grind (arith, frames_behind n (i + 1) bs)

-- a block that is counted out is the first, and what stands behind it holds the others
pub first_frame : (i tag : ℕ) (bs p rest : List ℕ) → counted bs ≡ Some p → rest ≡ drop (2 + length p) bs → frames i (tag ∷ bs) ≡ new_frame i tag (Some p) ∷ frames (i + 3 + length p) rest
first_frame i tag bs p rest e r = grind (arith, frames_behind)

-- what is known of a row that begins with a whole block
pub record Cut (i tag : ℕ) (bs p rest : List ℕ) : Type 0 where
  pub came : frames i bs ≡ new_frame i tag (Some p) ∷ frames (i + 3 + length p) rest
  pub all : 3 + length p + length rest ≡ length bs

-- a tag, and behind it bytes that are cut where their length says
pub cut : (i tag : ℕ) (bs behind p rest : List ℕ) → bs ≡ tag ∷ behind → Some (p, rest) ≡ with_rest behind (counted behind) → Cut i tag bs p rest
cut i tag bs behind p rest e h = record {
  came = grind (arith, nat_tests, frames_behind);
  all = grind (arith, nat_tests, common_steps);
}

-- the block that begins some bytes, whole or not, and those behind it
pub first_block : (i tag : ℕ) (bs : List ℕ) → (fs : List Frame) × (frames i (tag ∷ bs) ≡ new_frame i tag (counted bs) ∷ fs)
first_block i tag bs =
    elim (counted bs) as (λ o. (fs : List Frame) × (choose o (new_frame i tag None ∷ []) (λ p. new_frame i tag (Some p) ∷ frames_after (2 + length p) (i + 1) bs) ≡ new_frame i tag o ∷ fs)) [
      | None ↦ ([], refl)
      | Some p ↦ (frames_after (2 + length p) (i + 1) bs, refl)
    ]
