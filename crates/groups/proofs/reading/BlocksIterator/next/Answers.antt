use Rattle.std.proofs.Common.{arith}
use Rattle.groups.proofs.Dividing.{Cut, cut}
use Rattle.groups.proofs.reading.BlocksIterator.next.Goals as goal
use Rattle.groups.proofs.reading.BlocksIterator.next.Goals.{In-Some}

whole_block : (c : In-Some) → Cut c.args.self.now.place c.in_ok-tag.tag.now c.args.self.now.rest.now c.in-Some.contents.now c.in-Some.rest.now
whole_block c = cut _ _ _ c.in_ok-tag.after.now _ _ c.in_ok-tag.ensures.cases.0 c.in-Some.ensures

pub returns-clause-steps : goal.returns-clause-steps
returns-clause-steps c =
    let k = whole_block (goal.at.returns-clause-steps c).In-Some in
    record { came = k.came; within = (omega arith, omega arith) }
