use Rattle.std.proofs.Common.{rules, Ok, Err, refl}
use Rattle.report.proofs.file_text.outcome_text.Goals as goal

pub returns-in-Ok : goal.returns-in-Ok
returns-in-Ok g c =
    (Ok c.in-Ok.field-0, c.read.new.arg2, record { shown = _; shows = refl; left = _; met = c.in-Ok.ensures; leaves = refl }, search rules)

pub returns : goal.returns
returns g c =
    (Err c.in-Err.refusal, c.read.new.arg2, record { shown = _; shows = refl; left = _; met = c.in-Err.ensures; leaves = refl }, search rules)
