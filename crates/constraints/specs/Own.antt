-- The constraint graphs of a shape: one for each direction, with the shape's own arcs. Assumes nothing.
use Rattle.std.specs.Prelude.{◌≡◌, ℕ, ◌+◌, ◌-◌, ◌<◌, ◌≢◌, pos, Some, None}
use Rattle.walks.specs.Nodes.{Gaps}
use Rattle.segments.specs.Shapes.{Shape}
use Rattle.segments.specs.Segments.{segment, Wire, ShapeArc}

-- A segment named a is the node a - 1. The gap is 1 where the shape gives the arc, and there is none elsewhere.
pub record OwnGaps (s : Shape) (dir : ℕ) (gaps : Gaps) : Type 0 where
  pub given : (a b : ℕ) → ShapeArc s dir (a + 1) (b + 1) → gaps a b ≡ Some (pos 1)
  pub others : (a b : ℕ) → (ShapeArc s dir (a + 1) (b + 1) → ⊥) → gaps a b ≡ None

-- the arcs of the wires that begin at points below k are in, and every arc is the shape's
pub record Entered (s : Shape) (dir k : ℕ) (gaps : Gaps) : Type 0 where
  pub wires : (v : ℕ) → v < k → Wire s dir v → gaps (segment s dir v - 1) (segment s dir (s.next dir v) - 1) ≡ Some (pos 1)
  pub own : (a b : ℕ) → gaps a b ≢ None → ShapeArc s dir (a + 1) (b + 1)
