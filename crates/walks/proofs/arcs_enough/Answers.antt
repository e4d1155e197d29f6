use Rattle.std.proofs.Common.{arith}
use Rattle.walks.proofs.Circuits.{walks_shorten}
use Rattle.walks.proofs.arcs_enough.Goals as goal

pub returns : goal.returns
returns c = record { shortens = walks_shorten _ _ _ c.arcs_to_repeat-repeating.ensures.splits (omega arith) }
