-- The cell, and then the end of the line.
use Rattle.reports.specs.Written.{line_end}
use Rattle.reports.proofs.Steps.{next}
use Rattle.reports.proofs.line.put_single_line.Goals as goal

pub returns : goal.returns
returns c = next _ _ _ _ line_end c.put_bytes.ensures c.put_line_end.ensures
