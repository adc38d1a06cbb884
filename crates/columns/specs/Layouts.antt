-- What a column scheme shows in a report.
use Rattle.std.specs.Borrow.{Bor}
use Rattle.std.specs.Prelude.{◌≡◌, ℕ, ◌+◌, ◌-◌, ◌<◌, ◌≤◌, Bool, true, false, List, [], ◌∷◌, ◌++◌, map, length, take, codes, Option, slice_index_or}
use Rattle.std.specs.List.{range_with_len, slice_get}
use Rattle.std.specs.Option.{option_copied}
use Rattle.texts.specs.Texts.{is_text}
use Rattle.columns.specs.Calendar.{digits, names}

-- the columns' headings from the left, the two cells of a report's first line, and whether the
-- year-to-date columns follow
pub record Layout : Type 0 where
  pub headings : List (List ℕ)
  pub report : List ℕ
  pub description : List ℕ
  pub ytd : Bool

-- 1 to 12 headings, each a text and no two equal, and both cells of the first line texts
pub record Sound (l : Layout) : Type 0 where
  pub some : 1 ≤ length l.headings
  pub few : length l.headings ≤ 12
  pub texts : (i : ℕ) → i < length l.headings → is_text (slice_index_or l.headings i []) ≡ true
  pub differ : (i j : ℕ) → i < length l.headings → j < length l.headings → slice_index_or l.headings i [] ≡ slice_index_or l.headings j [] → i ≡ j
  pub report : is_text l.report ≡ true
  pub description : is_text l.description ≡ true

-- the heading of a column, and none past the last
abbrev pub heading_at : Layout → ℕ → Option (List ℕ)
heading_at l c = slice_get l.headings c

-- the bytes that are lent, if any
abbrev pub lent : Option (Bor (List ℕ)) → Option (List ℕ)
lent = option_copied

-- as Jan-2009
abbrev pub month_heading : ℕ → List ℕ → List ℕ
month_heading y name = name ++ (codes "-" ++ digits y)

-- as YOP-2009
abbrev pub recent_heading : ℕ → List ℕ
recent_heading y = codes "YOP-" ++ digits y

-- as YOP Pre-2005
abbrev pub earlier_heading : ℕ → List ℕ
earlier_heading p = codes "YOP Pre-" ++ digits p

-- the first n months of the year y
abbrev pub month_layout : ℕ → ℕ → Layout
month_layout y n = record {
  headings = map (month_heading y) (take n names);
  report = codes "Journal Report 1(R3)";
  description = codes "Number of Successful Full-text Article Requests by Month and Journal";
  ytd = true;
}

-- the years of publication from y back to p, and all before p
abbrev pub year_layout : ℕ → ℕ → Layout
year_layout y p = record {
  headings = map (λ k. recent_heading (y - k)) (range_with_len 0 (y - p + 1)) ++ earlier_heading p ∷ [];
  report = codes "Journal Report 5 (R3)";
  description = codes "Number of Successful Full-text Article Requests by Year and Journal";
  ytd = false;
}
