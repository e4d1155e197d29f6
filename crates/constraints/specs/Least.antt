-- The least coordinates over a shape's own arcs. Assumes nothing.
use Rattle.std.specs.Prelude.{ℕ, ℤ}
use Rattle.walks.specs.Nodes.{Gaps}
use Rattle.walks.specs.Places.{Least, GainingCircuit}
use Rattle.segments.specs.Shapes.{Shape}
use Rattle.constraints.specs.Own.{OwnGaps}

-- the coordinates x, one for each node, are the least from 0 up that obey the shape's own arcs
pub record LeastOver (s : Shape) (dir : ℕ) (x : ℕ → ℤ) : Type 0 where
  pub gaps : Gaps
  pub own : OwnGaps s dir gaps
  pub least : Least s.points gaps x

-- the shape's own arcs of the direction have a circle
pub record HasCircle (s : Shape) (dir : ℕ) : Type 0 where
  pub gaps : Gaps
  pub own : OwnGaps s dir gaps
  pub circle : GainingCircuit s.points gaps
