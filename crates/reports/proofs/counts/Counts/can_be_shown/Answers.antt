-- A low total has low parts, and a high column decides alone.
use Rattle.std.proofs.Common.{arith}
use Rattle.std.proofs.lemmas.Bool.Decides.{nat_tests}
use Rattle.std.proofs.lemmas.List.Folds.{list_all-append}
use Rattle.reports.proofs.counts.Counts.can_be_shown.Goals as goal

pub returns-else-not-ytd : goal.returns-else-not-ytd
returns-else-not-ytd c = grind (arith, nat_tests, list_all-append)

pub returns-else-columns_are_low : goal.returns-else-columns_are_low
returns-else-columns_are_low c = grind (arith, nat_tests, list_all-append)
