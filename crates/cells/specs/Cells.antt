-- The next cell of a file.
use Rattle.std.specs.Prelude.{ℕ, ◌+◌, ◌≤◌, Bool, true, false, cond, ◌&&◌, List, [], ◌∷◌, ◌++◌, length, take, drop, Some, None, Ok, Err, Option, Result, ◌==◌}
use Rattle.cells.specs.declared.cell.Cell.{Cell}
use Rattle.cells.specs.declared.cell.Cell.TheVariants.{Blank, Number, Text}
use Rattle.cells.specs.declared.cell.Spot.{Spot}
use Rattle.cells.specs.declared.fault.CellFault.{CellFault}
use Rattle.cells.specs.declared.reader.CellReader.{CellReader}
use Rattle.cells.specs.declared.walk.CellEnd.{CellEnd}
use Rattle.cells.specs.Numbers.{number_of}
use Rattle.cells.specs.Places.{Place, behind}

-- where a walk stands
abbrev pub place_of : CellReader → Place
place_of r = record { rest = drop r.offset r.file.now; line = r.line; column = r.column }

abbrev pub is_nil : List ℕ → Bool
is_nil [] = true
is_nil (b ∷ bs) = false

-- how a cell ends: with a comma, or with CR LF where its line ends too
abbrev pub end_text : Bool → List ℕ
end_text false = 44 ∷ []
end_text true = 13 ∷ 10 ∷ []

abbrev pub begins_with : ℕ → List ℕ → Bool
begins_with b [] = false
begins_with b (c ∷ cs) = c == b

-- a cell ends right here; if so, whether its line ends with it
abbrev pub end_here : List ℕ → Option Bool
end_here [] = None
end_here (b ∷ bs) = cond (b == 44) (Some false) (cond (b == 13 && begins_with 10 bs) (Some true) None)

-- a cell cut off from the front of a file: its bytes, whether it ends its line, and what is left
pub record Cut : Type 0 where
  pub body : List ℕ
  pub last : Bool
  pub rest : List ℕ

abbrev pub new_cut : List ℕ → Bool → List ℕ → Cut
new_cut body last rest = record { body = body; last = last; rest = rest }

-- with bytes before it that belong to the cell
abbrev pub widened : List ℕ → Option Cut → Option Cut
widened bs None = None
widened bs (Some c) = Some (new_cut (bs ++ c.body) c.last c.rest)

-- the first cell; none where neither a comma nor CR LF comes
abbrev pub cut : List ℕ → Option Cut
cut [] = None
cut (b ∷ bs) =
    cond (b == 44) (Some (new_cut [] false bs))
    (cond (b == 13 && begins_with 10 bs) (Some (new_cut [] true (drop 1 bs)))
    (widened (b ∷ []) (cut bs)))

abbrev pub cut_by : List ℕ → Option CellEnd → Option Cut
cut_by bs None = None
cut_by bs (Some e) = Some (new_cut (take e.length bs) e.last (drop (e.length + length (end_text e.last)) bs))

-- the cell and its end lie within so many bytes
abbrev pub end_within : ℕ → Option CellEnd → Type 0
end_within n None = Unit {0}
end_within n (Some e) = e.length + length (end_text e.last) ≤ n

-- what a cell holds, the number that it shows, if it is one, and where it stands
pub record Found : Type 0 where
  pub body : List ℕ
  pub value : Option ℕ
  pub spot : Spot

abbrev pub found_in : List ℕ → Spot → Found
found_in body spot = record { body = body; value = number_of body; spot = spot }

abbrev pub body_of : Cell → List ℕ
body_of (Blank spot) = []
body_of (Number bytes value spot) = bytes.now
body_of (Text bytes spot) = bytes.now

abbrev pub spot_of : Cell → Spot
spot_of (Blank spot) = spot
spot_of (Number bytes value spot) = spot
spot_of (Text bytes spot) = spot

abbrev pub value_of : Cell → Option ℕ
value_of (Blank spot) = None
value_of (Number bytes value spot) = Some value
value_of (Text bytes spot) = None

abbrev pub found : Cell → Found
found c = record { body = body_of c; value = value_of c; spot = spot_of c }

abbrev pub spot_at : Place → Bool → Spot
spot_at p last = record { line = p.line; column = p.column; last = last }

abbrev pub cell_or : Place → Option Cut → Result (Found × Place) CellFault
cell_or p None = Err (record { line = p.line; column = p.column })
cell_or p (Some c) = Ok (found_in c.body (spot_at p c.last), behind c.last p c.rest)

-- the next cell, with the place behind it; or its place, where it is not ended
abbrev pub cell_at : Place → Result (Found × Place) CellFault
cell_at p = cell_or p (cut p.rest)
