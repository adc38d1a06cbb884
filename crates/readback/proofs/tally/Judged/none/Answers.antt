use Rattle.std.proofs.Common.{ℕ, List, [], ap}
use Rattle.readback.proofs.Tallying.{take_zeros}
use Rattle.readback.proofs.tally.Judged.none.Goals as goal

pub returns-clause-tally : goal.returns-clause-tally
returns-clause-tally c =
    λ n h. ap (λ (xs : List ℕ). record { titles = 0; sums = record { columns = xs; html = 0; pdf = 0 }; publisher = [] }) (take_zeros n h)
