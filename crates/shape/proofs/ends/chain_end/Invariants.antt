use Rattle.std.proofs.Common.{◌≡◌}
use Rattle.segments.specs.Shapes.{Point}
use Rattle.segments.specs.Segments.{last}
use Rattle.segments.proofs.Chains.{ahead}
use Rattle.shape.specs.Directions.{side_number}
use Rattle.shape.proofs.ends.chain_end.Given as goal

-- the point reached is one, and its chain has the same end
abbrev pub invariant-loop-next : goal.invariant-loop-next
invariant-loop-next g l = let s = g.S.ShapeSource.shape l.source in Point s l.at × (last s (side_number l.side) l.at ≡ last s (side_number l.side) l.point)

abbrev pub decreases-loop-next : goal.decreases-loop-next
decreases-loop-next g l = ahead (g.S.ShapeSource.shape l.source) (side_number l.side) l.at
