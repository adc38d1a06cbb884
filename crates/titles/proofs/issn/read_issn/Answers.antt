-- What is right is the ISSN that shows as the bytes do.
use Rattle.std.proofs.Common.{◌≡◌, length, get_or, sym, arith, rules}
use Rattle.titles.proofs.Halves.{at_sum}
use Rattle.titles.proofs.Spelled.{accepts}
use Rattle.titles.proofs.issn.read_issn.Goals as goal

pub returns-else-not-is_right_sum : goal.returns-else-not-is_right_sum
returns-else-not-is_right_sum c =
    let bs = c.args.bytes.now in
    let l : length bs ≡ 9 = search rules in
    let h : get_or bs 4 0 ≡ 45 = omega arith in
    let e = sym (at_sum bs l _ _ c.in_ok-front-in-45.ensures h c.in_ok-back-in-45.ensures c.if-not-is_right_sum.ensures) in
    record { read = e; right = accepts bs _ e }
