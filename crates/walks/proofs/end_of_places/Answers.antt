use Rattle.std.proofs.Common.{arith}
use Rattle.walks.proofs.Ends.{clamped_lawful, ends_unmet}
use Rattle.walks.proofs.end_of_places.Goals as goal

pub returns : goal.returns
returns c = record { lawful = clamped_lawful _; unmet = ends_unmet _ _ _ (omega arith) }
