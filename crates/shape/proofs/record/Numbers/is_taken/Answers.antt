use Rattle.std.proofs.Common.{◌≡◌, ℕ, ◌<◌, ◌≤◌, rules}
use Rattle.std.proofs.lemmas.Bool.Decides.{Decides-like}
use Rattle.shape.specs.Formats.{written}
use Rattle.shape.proofs.Checking.{either_direction}
use Rattle.shape.proofs.record.Numbers.is_taken.Goals as goal

pub returns : goal.returns
returns c =
    let body = c.args.self.now.bytes.now in
    let v = c.args.point in
    let Repeated = λ (d : ℕ). (u : ℕ) × (1 ≤ u) × (u < v) × (written body d u ≡ written body d v) × (1 ≤ written body d v) in
    let either = either_direction Repeated c.any.result c.any.ensures in
    Decides-like c.any.result (λ t. (t.0, t.2.0, t.1, t.2.1, t.2.2, t.2.3, t.2.4)) (λ t. (t.0, t.2, (t.1, t.3, t.4, t.5, t.6))) (either (λ d b t. search rules))
