-- How a row of bytes is divided into blocks.
use Rattle.std.specs.Borrow.{Bor}
use Rattle.std.specs.Prelude.{ℕ, zero, suc, ◌+◌, ◌*◌, cond, List, [], ◌∷◌, length, take, Some, None, Option, ◌==◌, nat_le}

-- a block as it lies in a row: the place of its tag, the tag, and the bytes behind its length;
-- none where they, or the length itself, go past the end
pub record Frame : Type 0 where
  pub place : ℕ
  pub tag : ℕ
  pub contents : Option (List ℕ)

abbrev pub new_frame : ℕ → ℕ → Option (List ℕ) → Frame
new_frame place tag contents = record { place = place; tag = tag; contents = contents }

abbrev pub choose : {A B : Type 0} → Option A → B → (A → B) → B
choose None b f = b
choose (Some x) b f = f x

-- the bytes that a block takes up: its tag, its length and its contents, and at least its tag
abbrev pub size : Option (List ℕ) → ℕ
size None = 1
size (Some bs) = 3 + length bs

abbrev pub bytes_of : Option (List ℕ) → List ℕ
bytes_of None = []
bytes_of (Some bs) = bs

-- the contents of a block, if it has this tag and is whole
abbrev pub contents_under : ℕ → Frame → Option (List ℕ)
contents_under tag f = cond (f.tag == tag) f.contents None

-- what the lent bytes hold
abbrev pub held : Option (Bor (List ℕ)) → Option (List ℕ)
held None = None
held (Some r) = Some r.now

-- the bytes that a two-byte length counts, the first byte of the length counting most; none where they are not all there
abbrev pub counted : List ℕ → Option (List ℕ)
counted [] = None
counted (high ∷ []) = None
counted (high ∷ low ∷ bs) = cond (nat_le (high * 256 + low) (length bs)) (Some (take (high * 256 + low) bs)) None

-- the blocks from the byte i on, when n more bytes belong to the block before; one that goes past the end is the last
abbrev pub frames_after : ℕ → ℕ → List ℕ → List Frame
frames_after n i [] = []
frames_after (suc n) i (b ∷ bs) = frames_after n (i + 1) bs
frames_after zero i (tag ∷ bs) =
    choose (counted bs) (new_frame i tag None ∷ []) (λ p. new_frame i tag (Some p) ∷ frames_after (2 + length p) (i + 1) bs)

-- the blocks of a row whose first byte stands at i
abbrev pub frames : ℕ → List ℕ → List Frame
frames i bs = frames_after 0 i bs
