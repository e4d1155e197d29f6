use Rattle.std.proofs.Common.{arith}
use Rattle.walks.proofs.Greatest.{layer_is_tight, greatest_or_better, layer_tells_greatest}
use Rattle.walks.proofs.telling_round.Goals as goal

pub returns : goal.returns
returns c = record { tight = layer_is_tight; either = greatest_or_better; tells = layer_tells_greatest _ _ _ c.last_round.ensures.either (omega arith) }
