use Rattle.std.proofs.Common.{◌≡◌, ℕ, suc, ◌<◌, ◌≢◌}
use Rattle.segments.specs.Shapes.{Within, steps}
use Rattle.shape.specs.Directions.{direction_number}
use Rattle.shape.specs.Formats.{as_written}
use Rattle.shape.proofs.record.Numbers.returns.Given as goal

-- where the steps so far have led, and that none of them led back
abbrev pub invariant-loop-walked : goal.invariant-loop-walked
invariant-loop-walked l =
    let s = as_written l.self.points.count l.self.bytes.now in
    let d = direction_number l.direction in
    Within l.self.points.count l.at × (l.at ≡ steps s d l._walked l.point) × ((j : ℕ) → j < l._walked → steps s d (suc j) l.point ≢ l.point)
