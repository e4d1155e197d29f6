use Rattle.std.proofs.Common.{arith}
use Rattle.drawings.proofs.Unsimple.{conditions_of_simple}
use Rattle.drawings.proofs.conditions_of_simple.Goals as goal

pub returns : goal.returns
returns c = record { count = conditions_of_simple _ (omega arith) }
