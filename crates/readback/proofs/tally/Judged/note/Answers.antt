use Rattle.std.proofs.Common.{◌*◌, arith}
use Rattle.readback.proofs.tally.Judged.note.Goals as goal

pub invariant_of-self : goal.invariant_of-self
invariant_of-self c =
    let low = c.add.ensures.low (c.args.self.now.titles * 4294967296) c.args.self.now.low in
    record {
      most = omega arith;
      low = record { columns = λ i. omega (arith, low.columns i); html = omega (arith, low.html); pdf = omega (arith, low.pdf) };
    }
