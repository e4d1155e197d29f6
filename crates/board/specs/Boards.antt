-- When a board stands for a log over a shape. Assumes nothing.
use Rattle.std.specs.Prelude.{◌≡◌, ℕ, ◌≤◌, Bool, cond, ◌&&◌, List, Decides, nat_le}
use Rattle.segments.specs.Shapes.{Shape}
use Rattle.segments.specs.Segments.{ShapeArc}
use Rattle.drawings.specs.Arcs.{Arcs, Contradictory}
use Rattle.shape.specs.ByDirections.{of_direction}
use Rattle.shape.specs.Sources.{of_copy}
use Rattle.segment_table.specs.Records.{Recorded}
use Rattle.path_table.specs.Joined.{joined}
use Rattle.path_table.specs.declared.direction_arcs.DirectionArcs.{DirectionArcs}
use Rattle.logs.specs.Lines.{Line}
use Rattle.logs.specs.Force.{InForce, OneStepEach}
use Rattle.board.specs.declared.board.Board.{Board}

-- the arcs of a direction
abbrev pub arcs_of : Board → ℕ → DirectionArcs
arcs_of b dir = of_direction b.arcs dir

-- whether the board holds the arc u→v of direction dir as in force; there is none of any other direction
abbrev pub held : Board → ℕ → ℕ → ℕ → Bool
held b dir u v = nat_le dir 1 && joined (arcs_of b dir).force u v

-- and its gap: one step
abbrev pub gap_of : Board → Arcs
gap_of b dir u v = cond (held b dir u v) 1 0

-- the board holds the shape, the records of its segments, whether it is contradictory, its own arcs, and exactly the arcs that are in force after the log
pub record Stands (s : Shape) (log : List Line) (b : Board) : Type 0 where
  pub shape : of_copy b.shape ≡ s
  pub segments : Recorded s b.segments
  pub contradictory : Decides b.contradictory (Contradictory s)
  pub nodes : (dir : ℕ) → dir ≤ 1 → (arcs_of b dir).force.nodes ≡ s.points
  pub own : (dir u v : ℕ) → dir ≤ 1 → Decides (joined (arcs_of b dir).own u v) (ShapeArc s dir u v)
  pub force : OneStepEach (InForce s log) (gap_of b)
