-- The end is found at the first byte where one stands, and nowhere if none does.
use Rattle.std.proofs.Common.{sym, ap, ◌∙◌, arith}
use Rattle.cells.specs.Cells.{end_here}
use Rattle.cells.proofs.Walking.{end_fits, end_found, end_later, end_nowhere, left_whole}
use Rattle.cells.proofs.walk.find_end.Goals as goal

pub returns-in-Some : goal.returns-in-Some
returns-in-Some c =
    let bytes = c.args.bytes.now in
    let length = c.loop-length.length in
    let ends = sym (c.in-Some.ensures ∙ ap end_here (left_whole bytes length)) in
    record {
      cut = end_found bytes length c.loop-length.invariant c.in-Some.last ends;
      within = end_fits bytes length c.loop-length.invariant c.in-Some.last ends (omega arith);
    }

pub loop-length-preserved : goal.loop-length-preserved
loop-length-preserved c =
    let ends = sym (c.in_default.ensures ∙ ap end_here (left_whole c.args.bytes.now c.loop-length.length)) in
    end_later c.args.bytes.now c.loop-length.length c.loop-length.invariant (omega arith) ends

pub returns : goal.returns
returns c =
    record { cut = end_nowhere c.args.bytes.now c.loop-length.length c.loop-length.invariant (omega arith); within = tt }
