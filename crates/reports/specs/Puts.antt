-- Bytes written on a page, or only measured where they find no room.
use Rattle.std.specs.Prelude.{◌≡◌, ℕ, ◌+◌, ◌-◌, ◌^◌, ◌<◌, ◌≤◌, min, List, ◌++◌, length, take, drop}
use Rattle.reports.specs.declared.page.Page.{Page}

-- the buffer once the text stands in it from `at` on
abbrev pub put : List ℕ → ℕ → List ℕ → List ℕ
put old at text = take at old ++ (text ++ drop (at + length text) old)

-- the same buffer is lent; the place moves to where the text ends, whether it finds room or not, and the text stands there
-- if it does
pub record Put (old : Page) (text : List ℕ) (new : Page) : Type 0 where
  pub lent : new.out.ghost_name ≡ old.out.ghost_name
  pub ends : new.at ≡ min (old.at + length text) (2 ^ 64 - 1)
  pub holds : old.at + length text < 2 ^ 64 → old.at + length text ≤ length old.out.now → new.out.now ≡ put old.out.now old.at text
