use Rattle.std.proofs.Common.{arith}
use Rattle.walks.proofs.Duality.{tight_is_greatest}
use Rattle.walks.proofs.Rerouting.{circuit_betters}
use Rattle.walks.proofs.reroute_by.Goals as goal

pub returns : goal.returns
returns c = record { greatest = tight_is_greatest; betters = circuit_betters _ (omega arith) }
