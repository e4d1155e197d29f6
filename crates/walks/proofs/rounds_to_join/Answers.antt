use Rattle.std.proofs.Common.{arith}
use Rattle.walks.proofs.Labels.{rounds_join_walks, joins_are_one}
use Rattle.walks.proofs.rounds_to_join.Goals as goal

pub returns : goal.returns
returns g c = record { joins = rounds_join_walks _ _ _ (omega arith); one = joins_are_one _ }
