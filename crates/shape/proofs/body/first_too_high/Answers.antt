use Rattle.std.proofs.Common.{ap, rules}
use Rattle.shape.specs.declared.points.PointCount.{PointCount}
use Rattle.shape.specs.Formats.{TooHigh}
use Rattle.shape.proofs.Checking.{first_fault}
use Rattle.shape.proofs.body.first_too_high.Goals as goal

pub returns : goal.returns
returns g c =
    let n = (g.B.Body.count c.args.body.now).count in
    let same = ap (λ (k : PointCount). k.count) c.points.ensures in
    first_fault (TooHigh g.B.Body.format n (g.B.Body.bytes c.args.body.now)) n c.points.result.count same c.first_point.ensures (λ v r t. search rules)
