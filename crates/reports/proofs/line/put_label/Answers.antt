-- The name, and then four cells.
use Rattle.reports.proofs.Steps.{next}
use Rattle.reports.proofs.line.put_label.Goals as goal

pub returns : goal.returns
returns c = next _ _ _ _ _ c.put_bytes.ensures c.put_cells.ensures
