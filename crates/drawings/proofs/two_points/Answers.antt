use Rattle.std.proofs.Common.{arith}
use Rattle.drawings.proofs.Sheets.{two_points}
use Rattle.drawings.proofs.two_points.Goals as goal

pub returns : goal.returns
returns c = record { sheet = two_points _ (omega arith) }
