-- What a text is.
use Rattle.std.specs.Prelude.{ℕ, Bool, not, ◌&&◌, List, length, ◌==◌, nat_le}
use Rattle.std.specs.List.{list_all}

-- visible ASCII or a space, and no quotation mark (34), apostrophe (39) or comma (44)
abbrev pub fit : ℕ → Bool
fit b = nat_le 32 b && nat_le b 126 && not (b == 34) && not (b == 39) && not (b == 44)

abbrev pub all_fit : List ℕ → Bool
all_fit = list_all fit

-- 1 to 200 bytes, each fit
abbrev pub is_text : List ℕ → Bool
is_text bs = nat_le 1 (length bs) && nat_le (length bs) 200 && all_fit bs
