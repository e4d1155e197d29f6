use Rattle.std.proofs.Common.{◌+◌, ◌-◌, ◌*◌, ◌≤◌, Ok}
use Rattle.segments.specs.Shapes.{Within}
use Rattle.shape.specs.Tables.{Filled, LeadsBy}
use Rattle.shape.proofs.wires.filled.Given as goal

-- the wires so far are in the table
abbrev pub invariant-loop-point : goal.invariant-loop-point
invariant-loop-point g l = (1 ≤ l.point) × (l.point ≤ l.count + 1) × Filled (LeadsBy (λ v d o. goal.F-post g l.wire v d (Ok o))) l.count ((l.point - 1) * 2) l.links

abbrev pub invariant-loop-direction : goal.invariant-loop-direction
invariant-loop-direction g l =
    Within l.count l.point × Filled (LeadsBy (λ v d o. goal.F-post g l.wire v d (Ok o))) l.count ((l.point - 1) * 2 + l.direction-index) l.links
