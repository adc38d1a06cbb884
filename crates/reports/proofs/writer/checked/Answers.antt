-- Each exit tells the first ground there is; the last has the count table with its totals.
use Rattle.std.proofs.Common.{Err, sym, refl, ap, ◌∙◌, subst}
use Rattle.std.proofs.lemmas.List.{length-map}
use Rattle.std.proofs.lemmas.Result.{err_from_is_err_and}
use Rattle.titles.specs.Titles.{entry_of}
use Rattle.reports.specs.Checks.{Checked}
use Rattle.reports.proofs.Grounds.{head_stops, high_stops, low_passes, title_stops}
use Rattle.reports.proofs.Lines.{summed}
use Rattle.reports.proofs.writer.checked.Goals as goal

pub returns-in_err-check_header : goal.returns-in_err-check_header
returns-in_err-check_header g c =
    let p = err_from_is_err_and c.from_residual.result c.from_residual.ensures.1 in
    subst (Checked _) (sym (p.1 ∙ ap Err p.2)) (head_stops _ _ c.in_err-check_header.ensures)

pub returns-in_err-check_titles : goal.returns-in_err-check_titles
returns-in_err-check_titles g c =
    let p = err_from_is_err_and c.from_residual-in_err-check_titles.result c.from_residual-in_err-check_titles.ensures.1 in
    subst (Checked _) (sym (p.1 ∙ ap Err p.2)) (title_stops _ c.in_ok-check_header.ensures (length-map c.args.titles.now entry_of ∙ c.if-titles.false ∙ c.titles.ensures) _ c.in_err-check_titles.ensures)

pub returns-then-not-can_be_shown : goal.returns-then-not-can_be_shown
returns-then-not-can_be_shown g c =
    high_stops _ _ _ _ _ _ _ _ _ c.in_ok-check_header.ensures (c.if-titles.false ∙ c.titles.ensures) c.in_ok-check_titles.ensures (ap g.S.ColumnScheme.layout c.scheme-scheme.ensures) c.columns-columns.ensures c.if-cells-titles.false c.has_ytd.ensures c.total_counts-totals.ensures (sym c.can_be_shown.ensures ∙ c.if-not-can_be_shown.true)

pub invariant_of-result : goal.invariant_of-result
invariant_of-result g c = record { summed = c.total_counts-totals.ensures ∙ summed c.args.cells.now c.columns-columns.result c.args.titles.now }

pub returns : goal.returns
returns g c =
    low_passes _ _ _ _ _ _ _ _ _ c.in_ok-check_header.ensures (c.if-titles.false ∙ c.titles.ensures) c.in_ok-check_titles.ensures (ap g.S.ColumnScheme.layout c.scheme-scheme.ensures) c.columns-columns.ensures c.if-cells-titles.false c.has_ytd.ensures c.total_counts-totals.ensures (sym c.can_be_shown.ensures ∙ c.if-not-can_be_shown.false) _ refl refl
