-- The second pass fills the tables with what was read.
use Rattle.std.proofs.Common.{◌≡◌, ℕ, suc, ◌+◌, ◌*◌, ◌≤◌, Bool, true, false, List, [], ◌∷◌, ◌++◌, map, length, drop, set, Ok, fold, sym, refl, ap, ◌∙◌, subst, add-zero, mul-le-mul_right, suc-mul, add-mul, one-mul, zero-add, zero-mul, mul-one, arith}
use Rattle.std.proofs.lemmas.List.Concat.{flat_map_single}
use Rattle.std.proofs.lemmas.List.{length-append}
use Rattle.std.specs.List.{flat_map}
use Rattle.columns.specs.Layouts.{Layout}
use Rattle.reports.specs.Reports.{Usage}
use Rattle.cells.specs.Places.{and_then}
use Rattle.grammar.specs.Files.{Reading, column_count, head_of, read_file}
use Rattle.grammar.specs.Lines.{Row}
use Rattle.readback.specs.Answers.{Tables, filled_by, roomy, year_to_dates}
use Rattle.readback.specs.Passes.{Filling, filled_at, filled_row, new_filling, over, put_ytd}
use Rattle.readback.proofs.Putting.{length_put, put, put_none, put_put, set_put}
use Rattle.readback.proofs.Room.{Room, room_is}
use Rattle.readback.proofs.Rows.{EachFits, Fits, RowsFit, read_fit, read_parts}

module _ (l : Layout) where
  -- a table into which each line puts a share of w elements
  module _ {A : Type 0} (w : ℕ) (of : Tables → List A) (share : Row → List A)
      (long : (r : Row) → Fits l.ytd (column_count l) r.usage → length (share r) ≡ w)
      (step : (s : Filling) (r : Row) → s.count * w + w ≤ length (of s.tables) → of (filled_row l s r).tables ≡ put (s.count * w) (share r) (of s.tables)) where
    shares_long : (rows : List Row) → EachFits l rows → length (flat_map share rows) ≡ length rows * w
    shares_long [] fits = sym (zero-mul w)
    shares_long (r ∷ rs) fits =
        let here = long r fits.0 in
        let rest = shares_long rs fits.1 in
        let sm = suc-mul (length rs) w in
        length-append (share r) (flat_map share rs) ∙ omega arith

    table_on : (rows : List Row) (s : Filling) → EachFits l rows → (s.count + length rows) * w ≤ length (of s.tables) → of (fold (filled_row l) s rows).tables ≡ put (s.count * w) (flat_map share rows) (of s.tables)
    table_on [] s fits room = sym (put_none (s.count * w) (of s.tables))
    table_on (r ∷ rs) s fits room =
        let c = s.count in
        let k = length rs in
        let old = of s.tables in
        let here_long = long r fits.0 in
        let am = add-mul c (suc k) w in
        let sm = suc-mul k w in
        let one : (c + 1) * w ≡ c * w + w = add-mul c 1 w ∙ ap (λ x. c * w + x) (one-mul w) in
        let here : of (filled_row l s r).tables ≡ put (c * w) (share r) old = step s r (omega arith) in
        let kept : length (of (filled_row l s r).tables) ≡ length old = ap length here ∙ length_put (c * w) (share r) old (omega arith) in
        let e : c + suc k ≡ c + 1 + k = omega arith in
        let rest = table_on rs (filled_row l s r) fits.1 (subst (λ m. m * w ≤ length (of (filled_row l s r).tables)) e (omega arith)) in
        rest ∙ ap (put ((c + 1) * w) (flat_map share rs)) here ∙ put_put (c * w) (share r) old (omega arith) (flat_map share rs) ((c + 1) * w) (omega arith)

    table_is : (rows : List Row) (t : Tables) → EachFits l rows → length rows * w ≤ length (of t) → of (fold (filled_row l) (new_filling t) rows).tables ≡ flat_map share rows ++ drop (length rows * w) (of t)
    table_is rows t fits room =
        let z : 0 + length rows ≡ length rows = zero-add (length rows) in
        let start : 0 * w ≡ 0 = zero-mul w in
        let end : 0 + length (flat_map share rows) ≡ length rows * w = zero-add (length (flat_map share rows)) ∙ shares_long rows fits in
        table_on rows (new_filling t) fits (subst (λ m. m * w ≤ length (of t)) (sym z) room)
        ∙ ap (λ at. put at (flat_map share rows) (of t)) start
        ∙ ap (λ k. flat_map share rows ++ drop k (of t)) end

  count_is : (rows : List Row) (s : Filling) → (fold (filled_row l) s rows).count ≡ s.count + length rows
  count_is [] s = sym (add-zero s.count)
  count_is (r ∷ rs) s = let rest = count_is rs (filled_row l s r) in omega arith

  -- one share of the table of titles, and of the years to date
  title_put : (s : Filling) (r : Row) → s.count * 1 + 1 ≤ length s.tables.titles → set s.tables.titles s.count r.entry ≡ put (s.count * 1) (r.entry ∷ []) s.tables.titles
  title_put s r room =
      let c : s.count ≡ s.count * 1 = omega arith in
      ap (λ k. set s.tables.titles k r.entry) c ∙ set_put (s.count * 1) r.entry s.tables.titles (omega arith)

  year_put : (c : ℕ) (u : Usage) (old : List ℕ) → c * 2 + 2 ≤ length old → put_ytd true c u old ≡ put (c * 2) (u.html ∷ u.pdf ∷ []) old
  year_put c u old room =
      let first = set_put (c * 2) u.html old (omega arith) in
      let long = length_put (c * 2) (u.html ∷ []) old (omega arith) in
      ap (λ ns. set ns (c * 2 + 1) u.pdf) first ∙ set_put (c * 2 + 1) u.pdf (put (c * 2) (u.html ∷ []) old) (omega arith) ∙ put_put (c * 2) (u.html ∷ []) old (omega arith) (u.pdf ∷ []) (c * 2 + 1) refl

  year_kept : l.ytd ≡ false → (rows : List Row) (s : Filling) → (fold (filled_row l) s rows).tables.ytd ≡ s.tables.ytd
  year_kept e [] s = refl
  year_kept e (r ∷ rs) s = year_kept e rs (filled_row l s r) ∙ ap (λ b. put_ytd b s.count r.usage s.tables.ytd) e

  module _ (rows : List Row) (t : Tables) (fit : RowsFit l 512 rows) (room : Room l t) where
    abbrev after : Filling
    after = fold (filled_row l) (new_filling t) rows

    titles_are : after.tables.titles ≡ map (λ r. r.entry) rows ++ drop (length rows) t.titles
    titles_are =
        let most = fit.most in
        let long = room.titles in
        table_is 1 (λ t. t.titles) (λ r. r.entry ∷ []) (λ r f. refl) title_put rows t fit.each (omega arith)
        ∙ (λ i. flat_map_single (λ (r : Row). r.entry) rows i ++ drop (mul-one (length rows) i) t.titles)

    numbers_are : after.tables.numbers ≡ flat_map (λ r. r.usage.columns) rows ++ drop (length rows * column_count l) t.numbers
    numbers_are =
        let most = mul-le-mul_right (column_count l) fit.most in
        let wide = room.numbers in
        table_is (column_count l) (λ t. t.numbers) (λ r. r.usage.columns) (λ r f. f.columns) (λ s r h. refl) rows t fit.each (omega arith)

    years_are : (ytd : Bool) → l.ytd ≡ ytd → after.tables.ytd ≡ year_to_dates ytd rows t.ytd
    years_are true e =
        let most = fit.most in
        let long = room.ytd e in
        table_is 2 (λ t. t.ytd) (λ r. r.usage.html ∷ r.usage.pdf ∷ []) (λ r f. refl)
        (λ s r h. ap (λ b. put_ytd b s.count r.usage s.tables.ytd) e ∙ year_put s.count r.usage s.tables.ytd h) rows t fit.each (omega arith)
    years_are false e = year_kept e rows (new_filling t)

    fold_is : after ≡ record { count = length rows; tables = filled_by l t rows }
    fold_is =
        let count = count_is rows (new_filling t) ∙ zero-add (length rows) in
        let years = years_are l.ytd refl in
        (λ i. record { count = count i; tables = record { titles = titles_are i; numbers = numbers_are i; ytd = years i } })

pub filled_is : (l : Layout) (file : List ℕ) (t : Tables) (rd : Reading) → read_file l file ≡ Ok rd → roomy l t ≡ true → filled_at l file t ≡ Ok (rd.head, record { count = length rd.rows; tables = filled_by l t rd.rows })
filled_is l file t rd h room =
    let parts = read_parts l file rd h in
    let x = parts.top in
    let is = fold_is l rd.rows t (read_fit l file rd h) (room_is l t room) in
    ap (λ r. and_then r (λ x. and_then (over (filled_row l) 512 l x.0.shown.platform x.1 (new_filling t)) (λ s. Ok (head_of x.0, s)))) parts.top_read
    ∙ ap (λ r. and_then (and_then r (λ rows. Ok (fold (filled_row l) (new_filling t) rows))) (λ s. Ok (head_of x.0, s))) parts.rows_read
    ∙ (λ i. Ok (parts.head i, is i))
