use Rattle.std.proofs.Common.{arith}
use Rattle.walks.proofs.Folds.{sums_exchange}
use Rattle.walks.proofs.exchanged_terms.Goals as goal

pub returns : goal.returns
returns g c = record { exchanges = sums_exchange _ _ _ (omega arith) }
