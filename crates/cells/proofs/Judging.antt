-- What a reading by a judge answers, by what the judge's answers mean.
use Rattle.std.proofs.Common.{◌≡◌, Bool, List, ℕ, Some, None, Option, Result, ap, ◌∙◌, arith}
use Rattle.std.specs.Result.{result_map_both}
use Rattle.cells.specs.declared.cell.Cell.{Cell}
use Rattle.cells.specs.declared.fault.Cause.{Cause}
use Rattle.cells.specs.declared.fault.LineFault.{LineFault}
use Rattle.cells.specs.Cells.{Cut, Found, body_of, cell_at, cell_or, cut, found_in, spot_at}
use Rattle.cells.specs.Faults.{unended}
use Rattle.cells.specs.Judged.{JudgedBy, read_cell, settle}
use Rattle.cells.specs.Places.{Place, behind, onward, seen}

module _ {A B : Type 0} (means : A → B) (last : Bool) (q : Place) (r : Result A LineFault) where
  settled_by : (j : Result A Cause) (f : Found) (s : Place) → seen (λ v. v) r q ≡ settle last j f s → seen means r q ≡ settle last (result_map_both means (λ e. e) j) f s
  settled_by j f s e = grind arith

  module _ (may : Cell → Result A Cause → Type 0) (judge : List ℕ → Result B Cause) (same : (c : Cell) (j : Result A Cause) → may c j → result_map_both means (λ e. e) j ≡ judge (body_of c)) (p : Place) where
    by_cut : (o : Option Cut) → JudgedBy may last (cell_or p o) r q → seen means r q ≡ onward unended (cell_or p o) (λ x. settle last (judge x.0.body) x.0 x.1)
    by_cut None e = ap (λ t. seen means t q) e
    by_cut (Some c) h =
        let f = found_in c.body (spot_at p c.last) in
        let s = behind c.last p c.rest in
        settled_by h.2.0 f s h.2.1.1 ∙ ap (λ t. settle last t f s) (same h.0 h.2.0 h.2.1.0 ∙ ap (λ (x : Found). judge x.body) h.1)

    pub judged : JudgedBy may last (cell_at p) r q → seen means r q ≡ read_cell judge last p
    judged h = by_cut (cut p.rest) h
