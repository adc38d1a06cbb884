use Rattle.std.proofs.Common.{arith}
use Rattle.readback.proofs.Tallying.{sum_low}
use Rattle.readback.proofs.tally.Sums.shown.Goals as goal

pub total_of-requires : goal.total_of-requires
total_of-requires c = let e = sum_low 2199023255552 c.args.columns c.args.self.now.columns c.requires.low.columns in omega arith
