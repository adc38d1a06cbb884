-- The texts, the headings, those of the year to date and the end make the line.
use Rattle.std.proofs.Common.{[], ◌∷◌, codes, subst}
use Rattle.std.specs.List.{flat_map}
use Rattle.reports.specs.Puts.{Put}
use Rattle.reports.specs.Written.{next_cell, ytd_headings}
use Rattle.reports.proofs.Rows.{line_put}
use Rattle.reports.proofs.line.put_heading_line.Goals as goal

pub returns : goal.returns
returns g c =
    let l = g.S.ColumnScheme.layout c.args.scheme.now in
    line_put _ _ _ _ _ [] (codes "Publisher" ∷ codes "Platform" ∷ codes "Print ISSN" ∷ codes "Online ISSN" ∷ []) l.headings (ytd_headings l.ytd) c.put_label.ensures c.put_headings.ensures
    (subst (λ b. Put c.put_headings.new.page (flat_map next_cell (ytd_headings b)) c.put_ytd_headings.new.page) c.has_ytd.ensures c.put_ytd_headings.ensures) c.put_line_end.ensures
