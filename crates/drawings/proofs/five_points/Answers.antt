use Rattle.std.proofs.Common.{arith}
use Rattle.drawings.proofs.Sheets.{five_points}
use Rattle.drawings.proofs.five_points.Goals as goal

pub returns : goal.returns
returns c = record { sheet = five_points _ (omega arith) }
