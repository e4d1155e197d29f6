use Rattle.std.proofs.Common.{arith}
use Rattle.walks.proofs.Circuits.{long_walks_split}
use Rattle.walks.proofs.arcs_to_repeat.Goals as goal

pub returns : goal.returns
returns c = record { splits = long_walks_split _ _ _ c.most_distinct.ensures.few (omega arith) }
