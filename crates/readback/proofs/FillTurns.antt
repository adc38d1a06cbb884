-- The turns of the loop that fills the lent tables.
use Rattle.std.proofs.Common.{◌≡◌, ℕ, ◌+◌, ◌-◌, ◌*◌, ◌≤◌, List, ◌++◌, map, length, take, drop, set, is_some, Some, None, Option, sym, refl, ap, ◌∙◌, arith}
use borrow.Rule.Slice.PartMut.{mid_len, mid_of, Post-is, put_mid}
use Rattle.std.proofs.lemmas.List.{map-set}
use Rattle.columns.specs.Layouts.{Layout}
use Rattle.titles.specs.Titles.{entry_of}
use Rattle.grammar.specs.Files.{column_count}
use Rattle.readback.specs.declared.line.TitleLine.{TitleLine}
use Rattle.reports.specs.declared.counts.Formats.{Formats}
use Rattle.readback.specs.declared.tables.LentTables.{LentTables}
use Rattle.readback.specs.Answers.{held_by}
use Rattle.readback.specs.Passes.{Filling, filled_row, put_at, put_year, put_ytd, row_with, usage_with}

-- the part of the numbers' table that is title n's, where there are k columns
abbrev pub part : ℕ → ℕ → List ℕ → List ℕ
part n k numbers = mid_of (n * k) (n * k + k - n * k) numbers

pub part_length : (n k : ℕ) (numbers : List ℕ) → n * k + k ≤ length numbers → length (part n k numbers) ≡ k
part_length n k numbers within = mid_len (n * k) (n * k + k) numbers within ∙ omega arith

put_part : (n k : ℕ) (numbers xs : List ℕ) → length xs ≡ k → put_mid (n * k) (n * k + k - n * k) numbers xs ≡ put_at (n * k) xs numbers
put_part n k numbers xs many =
    ap (λ rest. take (n * k) numbers ++ (xs ++ rest)) (Post-is (n * k) (n * k + k) numbers (omega arith) ∙ ap (λ m. drop (n * k + m) numbers) (sym many))

year_put : (y : Option (Formats ℕ)) (n : ℕ) (xs old : List ℕ) → put_year y n old ≡ put_ytd (is_some y) n (usage_with xs y) old
year_put (Some y) n xs old = refl
year_put None n xs old = refl

-- title n's line is written
pub one_more : (l : Layout) (n k : ℕ) → k ≡ column_count l → (before after : LentTables) (xs : List ℕ) (line : TitleLine) → length xs ≡ k → is_some line.year ≡ l.ytd →
    after.titles.now ≡ set before.titles.now n line.title → after.numbers.now ≡ put_mid (n * k) (n * k + k - n * k) before.numbers.now xs → after.ytd.now ≡ put_year line.year n before.ytd.now →
    ◌≡◌ {A = Filling} (record { count = n + 1; tables = held_by after }) (filled_row l (record { count = n; tables = held_by before }) (row_with xs line))
one_more l n k columns before after xs line many shown titles numbers ytd =
    let ts = ap (λ ts. map entry_of ts) titles ∙ map-set entry_of before.titles.now n line.title in
    let ns = numbers ∙ put_part n k before.numbers.now xs many ∙ ap (λ m. put_at (n * m) xs before.numbers.now) columns in
    let ys = ytd ∙ year_put line.year n xs before.ytd.now ∙ ap (λ b. put_ytd b n (usage_with xs line.year) before.ytd.now) shown in
    (λ i. record { count = n + 1; tables = record { titles = ts i; numbers = ns i; ytd = ys i } })
