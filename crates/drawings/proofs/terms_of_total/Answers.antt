use Rattle.std.proofs.Common.{arith}
use Rattle.drawings.proofs.Totals.{total_by_need}
use Rattle.drawings.proofs.Shortest.{lay_is_shortest, lay_total_is_flow}
use Rattle.drawings.proofs.terms_of_total.Goals as goal

pub returns : goal.returns
returns c = record { need = total_by_need _ _ (omega arith); shortest = lay_is_shortest; flow = lay_total_is_flow }
