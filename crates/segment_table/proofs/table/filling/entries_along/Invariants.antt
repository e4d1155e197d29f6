use Rattle.std.proofs.Common.{◌-◌}
use Rattle.shape.specs.Directions.{direction_number}
use Rattle.segment_table.specs.Records.{Along}
use Rattle.segment_table.proofs.table.filling.entries_along.Given as goal

-- the wires of the points so far are counted
abbrev pub invariant-loop-point : goal.invariant-loop-point
invariant-loop-point g l = Along (g.S.ShapeSource.shape l.source) (direction_number l.direction) (l.point - 1) l.entries
