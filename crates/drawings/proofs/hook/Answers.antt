use Rattle.std.proofs.Common.{arith}
use Rattle.drawings.proofs.Sheets.{hook_sheet}
use Rattle.drawings.proofs.hook.Goals as goal

pub returns : goal.returns
returns c = record { sheet = hook_sheet _ (omega arith) }
