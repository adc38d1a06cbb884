-- The headings that are kept are those of the layout.
use Rattle.std.proofs.Common.{◌+◌, ◌-◌, ◌≤◌, arith, rules}
use Rattle.std.proofs.lemmas.Bool.Decides.{nat_tests}
use Rattle.std.proofs.lemmas.List.FromFn.{take-map-range_with_len}
use Rattle.columns.specs.Layouts.{recent_heading}
use Rattle.columns.proofs.year_scheme.YearScheme.new.Goals as goal

pub invariant_of-result : goal.invariant_of-result
invariant_of-result c =
    let y = c.args.year in
    let p = c.args.first_year in
    let near : (p + 4 ≤ y) × (y ≤ p + 10) = grind (arith, nat_tests, c.if-not-contains.ensures.cases, c.if-not-contains-2.ensures.cases) in
    record {
      known = search rules;
      span = near;
      kept = rw (c.recent_headings.ensures, c.earlier_heading.ensures, take-map-range_with_len (λ k. recent_heading (y - k)) 0 11 (y - p + 1) (omega arith));
    }
