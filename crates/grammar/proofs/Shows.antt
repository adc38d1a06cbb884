-- A report's text shows no more of it than it should.
use Rattle.std.proofs.Common.{◌≡◌, ℕ, Bool, true, false, List, [], ◌∷◌, ◌++◌, map, length, codes, refl, ap, arith}
use Rattle.std.proofs.lemmas.Grind.{common_steps}
use mathlib.Core.List.{map-map}
use Rattle.std.specs.List.{range_with_len, flat_map}
use Rattle.columns.specs.Layouts.{Layout}
use Rattle.reports.specs.Reports.{Line, Report, column_sum, shared, shown_numbers, table_numbers, totals}
use Rattle.reports.specs.Written.{front_text, heading_line, report_text, title_line, total_line, usage_line}
use Rattle.grammar.specs.Shown.{shown_lines, shown_of, without_year}

column_kept : (ls : List Line) (c : ℕ) → column_sum (map without_year ls) c ≡ column_sum ls c
column_kept ls c = grind (arith, common_steps)

pub columns_kept : (n : ℕ) (ls : List Line) → (totals n (map without_year ls)).columns ≡ (totals n ls).columns
columns_kept n ls = λ i. map (λ c. column_kept ls c i) (range_with_len 0 n)

joined_kept : (f : Line → List ℕ) → ((l : Line) → f (without_year l) ≡ f l) → (ls : List Line) → flat_map f (map without_year ls) ≡ flat_map f ls
joined_kept f same [] = refl
joined_kept f same (l ∷ ls) = grind (arith, joined_kept f same ls, same)

pub length_shown : (ytd : Bool) (ls : List Line) → length (shown_lines ytd ls) ≡ length ls
length_shown ytd ls = grind (arith, common_steps)

pub numbers_shown : (ytd : Bool) (n : ℕ) (ls : List Line) → table_numbers ytd n (shown_lines ytd ls) ≡ table_numbers ytd n ls
numbers_shown true n ls = refl
numbers_shown false n ls =
    let rows = joined_kept (λ l. shown_numbers false l.usage) (λ l. refl) ls in
    λ i. (columns_kept n ls i ++ []) ++ rows i

-- line 6 and the titles' lines
abbrev table_text : Bool → ℕ → List ℕ → List Line → List ℕ
table_text ytd n platform ls = total_line ytd n platform ls ++ flat_map (title_line ytd platform) ls

table_shown : (ytd : Bool) (n : ℕ) (platform : List ℕ) (ls : List Line) → table_text ytd n platform (shown_lines ytd ls) ≡ table_text ytd n platform ls
table_shown true n platform ls = refl
table_shown false n platform ls =
    let publishers = map-map (λ (l : Line). l.publisher) without_year ls in
    let rows = joined_kept (title_line false platform) (λ l. refl) ls in
    λ i. usage_line false (codes "Total for all journals") (shared (publishers i)) platform [] [] (record { columns = columns_kept n ls i; html = 0; pdf = 0 }) ++ rows i

pub shows_no_more : (l : Layout) (r : Report) → report_text l (shown_of l r) ≡ report_text l r
shows_no_more l r =
    ap (λ table. front_text l r.head ++ (heading_line l ++ table)) (table_shown l.ytd (length l.headings) r.head.platform r.lines)
