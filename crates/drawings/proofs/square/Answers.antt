use Rattle.std.proofs.Common.{arith}
use Rattle.drawings.proofs.Sheets.{square_sheet}
use Rattle.drawings.proofs.square.Goals as goal

pub returns : goal.returns
returns c = record { sheet = square_sheet _ (omega arith) }
