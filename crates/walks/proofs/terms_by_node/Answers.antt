use Rattle.std.proofs.Common.{arith}
use Rattle.walks.proofs.Folds.{span_by_nodes}
use Rattle.walks.proofs.terms_by_node.Goals as goal

pub returns : goal.returns
returns c = record { gathers = span_by_nodes _ _ (omega arith) }
