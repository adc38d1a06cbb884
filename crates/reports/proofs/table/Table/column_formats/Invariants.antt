-- What is summed so far are the titles before this one, each of which adds less than 2 ^ 32 to either sum.
use Rattle.std.proofs.Common.{◌≡◌, ◌*◌, ◌^◌, ◌≤◌}
use Rattle.reports.specs.Counting.{html_sum, pdf_sum}
use Rattle.reports.proofs.table.Table.column_formats.Given as goal

abbrev pub invariant-loop-title : goal.invariant-loop-title
invariant-loop-title l = record {
  sum : l.sum ≡ record { html = html_sum l.self.cells.now l.self.columns l.title l.column; pdf = pdf_sum l.self.cells.now l.self.columns l.title l.column };
  html : l.sum.html ≤ l.title * 2 ^ 32;
  pdf : l.sum.pdf ≤ l.title * 2 ^ 32;
}
