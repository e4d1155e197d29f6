use Rattle.std.proofs.Common.{◌≡◌, ◌≤◌}
use Rattle.shape.specs.Directions.{direction_number}
use Rattle.propagation.specs.Tables.{arc_gaps}
use Rattle.constraints.specs.Own.{Entered}
use Rattle.constraints.proofs.own_arcs.own_arcs.Given as goal

-- the wires so far are in the table
abbrev pub invariant-loop-point : goal.invariant-loop-point
invariant-loop-point g l =
    let s = g.S.ShapeSource.shape l.source in
    (1 ≤ l.point) × (l.table.nodes ≡ s.points) × Entered s (direction_number l.direction) l.point (arc_gaps l.table)
