use Rattle.std.proofs.Common.{ℕ, ◌<◌, rules}
use Rattle.shape.specs.Formats.{written}
use Rattle.shape.proofs.Checking.{either_direction}
use Rattle.shape.proofs.record.NumbersBody.is_too_high.Goals as goal

pub returns : goal.returns
returns c =
    let either = either_direction (λ (d : ℕ). c.args.self.now.points.count < written c.args.self.now.bytes.now d c.args.point) c.any.result c.any.ensures in
    either (λ d b t. search rules)
