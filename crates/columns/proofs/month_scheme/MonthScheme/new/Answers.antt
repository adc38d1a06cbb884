-- The headings that are kept are those of the layout.
use Rattle.std.proofs.Common.{take, ap, ◌∙◌, rules}
use Rattle.std.proofs.lemmas.List.{take-map}
use Rattle.columns.specs.Calendar.{names}
use Rattle.columns.specs.Layouts.{month_heading}
use Rattle.columns.proofs.month_scheme.MonthScheme.new.Goals as goal

pub invariant_of-result : goal.invariant_of-result
invariant_of-result c = record {
  known = search rules;
  some = search rules;
  kept = ap (take c.args.last_month) c.month_headings.ensures ∙ take-map (month_heading c.args.year) c.args.last_month names;
}
