use Rattle.std.proofs.Common.{arith}
use Rattle.walks.proofs.Labels.{quiet_stays}
use Rattle.walks.proofs.quiet_rounds.Goals as goal

pub returns : goal.returns
returns g c = record { stays = quiet_stays _ _ (omega arith) }
