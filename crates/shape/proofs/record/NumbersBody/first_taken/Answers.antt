use Rattle.std.proofs.Common.{refl, rules}
use Rattle.shape.specs.Formats.{Taken}
use Rattle.shape.specs.Formats.Format.{shape_record}
use Rattle.shape.proofs.Checking.{first_fault}
use Rattle.shape.proofs.record.NumbersBody.first_taken.Goals as goal

pub returns : goal.returns
returns c =
    let n = c.args.self.now.points.count in
    first_fault (Taken shape_record n c.args.self.now.bytes.now) n n refl c.first_point.ensures (λ v r t. search rules)
