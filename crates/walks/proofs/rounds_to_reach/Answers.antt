use Rattle.std.proofs.Common.{arith}
use Rattle.walks.proofs.Reaching.{rounds_decide_reach}
use Rattle.walks.proofs.rounds_to_reach.Goals as goal

pub returns : goal.returns
returns c = record { decides = rounds_decide_reach _ _ _ c.arcs_enough.ensures.shortens (omega arith) }
