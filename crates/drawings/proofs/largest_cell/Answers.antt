use Rattle.std.proofs.Common.{arith}
use Rattle.drawings.proofs.Units.{greatest_flow_exists}
use Rattle.drawings.proofs.Agreeing.{greatest_flows_agree}
use Rattle.drawings.proofs.Sizes.{cells_within}
use Rattle.drawings.proofs.largest_cell.Goals as goal

pub returns : goal.returns
returns c = record { within = cells_within _ _ (omega arith); exists = greatest_flow_exists; agree = greatest_flows_agree }
