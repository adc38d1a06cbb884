-- The entries of a list, one after the other.
use Rattle.std.proofs.Common.{◌≡◌, ℕ, List, ◌∷◌, length, Ok, Result, arith}
use Rattle.groups.specs.Frames.{frames}
use Rattle.titles.specs.Titles.{Entry}
use Rattle.lists.specs.declared.fault.ListFault.{ListFault}
use Rattle.lists.specs.Lists.{before, read_entries, read_list}

-- a list that is not empty is read from its first group on
pub read_from_first : (bs : List ℕ) → (length bs ≡ 0 → ⊥) → read_list bs ≡ read_entries 0 (frames 0 bs)
read_from_first bs h = grind arith

-- what an entry that is read and those behind it are
pub record Head (e : Entry) (others : Result (List Entry) ListFault) (es : List Entry) : Type 0 where
  pub tail : List Entry
  pub first : es ≡ e ∷ tail
  pub later : others ≡ Ok tail

pub head_of : (e : Entry) (others : Result (List Entry) ListFault) (es : List Entry) → before (Ok e) others ≡ Ok es → Head e others es
head_of e others es h = grind arith
