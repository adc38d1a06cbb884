-- One more title's cells add to the sums.
use Rattle.std.proofs.Common.{◌+◌, sym, ◌∙◌, arith}
use Rattle.reports.specs.Tables.{html_at, pdf_at}
use Rattle.reports.proofs.Sums.{sum_by_counting_more}
use Rattle.reports.proofs.table.Table.column_formats.Goals as goal

pub loop-title-preserved : goal.loop-title-preserved
loop-title-preserved c =
    let t = c.args.self.now in
    let sum = c.loop-title.invariant.sum in
    let one = c.title_formats-formats.ensures.formats in
    let html = sum_by_counting_more (λ i. html_at t.cells.now t.columns i c.args.column) c.loop-title.title in
    let pdf = sum_by_counting_more (λ i. pdf_at t.cells.now t.columns i c.args.column) c.loop-title.title in
    record {
      sum = (λ i. record { html = (sum i).html + (one i).html; pdf = (sum i).pdf + (one i).pdf }) ∙ sym (λ i. record { html = html i; pdf = pdf i });
      html = omega (arith, c.loop-title.invariant.html);
      pdf = omega (arith, c.loop-title.invariant.pdf);
    }
