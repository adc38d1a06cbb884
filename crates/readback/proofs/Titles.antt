-- The turns of a loop over the titles' lines that keeps what a step makes of them.
use Rattle.std.proofs.Common.{◌≡◌, ℕ, suc, ◌+◌, ◌-◌, ◌<◌, ◌≤◌, Bool, true, false, cond, List, [], ◌∷◌, Ok, Err, fold, Result, sym, refl, ap, ◌∙◌, arith}
use Rattle.columns.specs.Layouts.{Layout}
use Rattle.cells.specs.declared.fault.Cause.TheVariants.{WrongText}
use Rattle.cells.specs.declared.fault.LineFault.{LineFault}
use Rattle.cells.specs.Cells.{is_nil}
use Rattle.cells.specs.Faults.{fault_here}
use Rattle.cells.specs.Places.{Place, and_then}
use Rattle.grammar.specs.Files.{column_count, rows_at}
use Rattle.grammar.specs.Lines.{Row, row_at}
use Rattle.readback.specs.Passes.{over}
use Rattle.readback.proofs.Numbers.{then_assoc}

-- a line that was read into a row of the scheme's shape
pub same_row : (l : Layout) (platform : List ℕ) (p : Place) (r : Result (Row × Place) LineFault) {b : Bool} {n : ℕ} → b ≡ l.ytd → n ≡ column_count l → r ≡ row_at b n platform p → row_at l.ytd (column_count l) platform p ≡ r
same_row l platform p r shown wide e = sym (e ∙ (λ i. row_at (shown i) (wide i) platform p))

module _ {S : Type 0} (f : S → Row → S) (l : Layout) (platform : List ℕ) where
  row_or_end : (b : Bool) (row : Row) (rows : Result (List Row) LineFault) (s : S) → ◌≡◌ {A = Result S LineFault} (and_then (cond b (Ok (row ∷ [])) (and_then rows (λ y. Ok (row ∷ y)))) (λ y. Ok (fold f s y))) (cond b (Ok (f s row)) (and_then rows (λ y. Ok (fold f (f s row) y))))
  row_or_end true row rows s = refl
  row_or_end false row (Ok y) s = refl
  row_or_end false row (Err e) s = refl

  module _ (n : ℕ) (h : n < 512) (p : Place) (s : S) where
    -- what follows a line, with what the step then keeps
    abbrev after : Row × Place → Result S LineFault
    after x = cond (is_nil x.1.rest) (Ok (f s x.0)) (over f (512 - (n + 1)) l platform x.1 (f s x.0))

    turn : over f (512 - n) l platform p s ≡ and_then (row_at l.ytd (column_count l) platform p) after
    turn =
        let less : 512 - n ≡ suc (512 - (n + 1)) = omega arith in
        ap (λ m. over f m l platform p s) less
        ∙ then_assoc (row_at l.ytd (column_count l) platform p) (λ x. cond (is_nil x.1.rest) (Ok (x.0 ∷ [])) (and_then (rows_at (512 - (n + 1)) l platform x.1) (λ y. Ok (x.0 ∷ y)))) (λ y. Ok (fold f s y))
        ∙ (λ i. and_then (row_at l.ytd (column_count l) platform p) (λ x. row_or_end (is_nil x.1.rest) x.0 (rows_at (512 - (n + 1)) l platform x.1) s i))

    pub titles_stop : (e : LineFault) → row_at l.ytd (column_count l) platform p ≡ Err e → over f (512 - n) l platform p s ≡ Err e
    titles_stop e z = turn ∙ ap (λ r. and_then r after) z

    module _ (row : Row) (q : Place) (z : row_at l.ytd (column_count l) platform p ≡ Ok (row, q)) where
      then : over f (512 - n) l platform p s ≡ after (row, q)
      then = turn ∙ ap (λ r. and_then r after) z

      pub titles_more : is_nil q.rest ≡ false → over f (512 - n) l platform p s ≡ over f (512 - (n + 1)) l platform q (f s row)
      titles_more e = then ∙ ap (λ b. cond b (Ok (f s row)) (over f (512 - (n + 1)) l platform q (f s row))) e

      pub titles_last : is_nil q.rest ≡ true → over f (512 - n) l platform p s ≡ Ok (f s row)
      titles_last e = then ∙ ap (λ b. cond b (Ok (f s row)) (over f (512 - (n + 1)) l platform q (f s row))) e

  pub titles_full : (n : ℕ) (p : Place) (s : S) → 512 ≤ n → over f (512 - n) l platform p s ≡ Err (fault_here p WrongText)
  titles_full n p s h = let z : 512 - n ≡ 0 = omega arith in ap (λ m. over f m l platform p s) z
