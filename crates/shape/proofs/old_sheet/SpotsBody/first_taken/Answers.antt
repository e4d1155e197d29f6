use Rattle.std.proofs.Common.{refl, rules}
use Rattle.shape.specs.Formats.{Taken}
use Rattle.shape.specs.Formats.Format.{old_sheet}
use Rattle.shape.proofs.Checking.{first_fault}
use Rattle.shape.proofs.old_sheet.SpotsBody.first_taken.Goals as goal

pub returns : goal.returns
returns c =
    let n = c.args.self.now.points.count in
    first_fault (Taken old_sheet n c.args.self.now.bytes.now) n n refl c.first_point.ensures (λ v r t. search rules)
