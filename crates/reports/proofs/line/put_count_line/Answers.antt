-- The texts, the columns, the year-to-date numbers and the end make the line.
use Rattle.std.proofs.Common.{[], ◌∷◌, ◌++◌, map, decimal, sym, subst}
use Rattle.std.specs.List.{flat_map}
use Rattle.std.proofs.lemmas.List.{map-append}
use Rattle.reports.specs.Counting.{usage_of}
use Rattle.reports.specs.Puts.{Put}
use Rattle.reports.specs.Reports.{ytd_numbers}
use Rattle.reports.specs.Written.{line_text, next_cell}
use Rattle.reports.proofs.Rows.{line_put}
use Rattle.reports.proofs.line.put_count_line.Goals as goal

pub returns : goal.returns
returns c =
    let l = c.args.label.now in
    let u = usage_of c.args.counts.now in
    let texts = l.publisher.now ∷ l.platform.now ∷ l.print.now ∷ l.online.now ∷ [] in
    let columns = subst (λ ns. Put c.put_label.new.page (flat_map next_cell (map decimal ns)) c.put_cells.new.self) c.numbers.ensures c.put_cells.ensures in
    subst (λ cells. Put c.args.page.now (line_text l.name.now (texts ++ cells)) c.put_line_end.new.self) (sym (map-append decimal u.columns (ytd_numbers c.args.ytd u)))
    (line_put _ _ _ _ _ l.name.now texts (map decimal u.columns) (map decimal (ytd_numbers c.args.ytd u)) c.put_label.ensures columns c.put_ytd_numbers.ensures c.put_line_end.ensures)
