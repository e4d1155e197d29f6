use Rattle.std.proofs.Common.{arith}
use Rattle.segments.proofs.Chains.{ended_after}
use Rattle.segments.proofs.longest_chain.Goals as goal

pub returns : goal.returns
returns c s L e d v p = ended_after s L d v p _ (omega (arith, e))
