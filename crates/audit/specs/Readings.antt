-- What is found in a report that is read back.
use Rattle.std.specs.Prelude.{length, sum_by, sum}
use Rattle.grammar.specs.Files.{Reading}
use Rattle.audit.specs.declared.checking.Found.{Found}

-- how many titles it has, and the sum of all their numbers
abbrev pub found_in : Reading → Found
found_in rd = record { titles = length rd.rows; total = sum_by (λ r. sum r.usage.columns) rd.rows }
