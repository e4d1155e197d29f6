use Rattle.std.proofs.Common.{arith}
use Rattle.drawings.proofs.Sheets.{one_point}
use Rattle.drawings.proofs.one_point.Goals as goal

pub returns : goal.returns
returns c = record { sheet = one_point _ (omega arith) }
