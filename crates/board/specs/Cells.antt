-- The cells of a flow laid over a board, and those above 0 off the arcs in force. Assumes nothing.
use Rattle.std.specs.Prelude.{◌≡◌, ℕ, ◌<◌, ◌≤◌, true, ◌≢◌, List, Some, None, Option}
use Rattle.segments.specs.Shapes.{Shape, Within}
use Rattle.drawings.specs.Flows.{Flow as FlowOf}
use Rattle.shape.specs.ByDirections.{of_direction}
use Rattle.shape.specs.declared.ends.Arc.{Arc}
use Rattle.path_table.specs.Joined.{joined}
use Rattle.logs.specs.Lines.{cell_of, flow_of}
use Rattle.logs.specs.Refusing.{Before}
use Rattle.board.specs.Boards.{arcs_of}
use Rattle.board.specs.declared.board.Board.{Board}
use Rattle.board.specs.declared.board.flows.Flow.{Flow}

-- the flow lies over the board b, in these two memories
pub record Laid (b : Board) (xs ys : List ℕ) (f : Flow) : Type 0 where
  pub board : f.board.now ≡ b
  pub across : f.cells.across.now ≡ xs
  pub up : f.cells.up.now ≡ ys

abbrev pub points_in : Flow → ℕ
points_in f = f.board.now.segments.points

-- the memory of a direction
abbrev pub bytes_in : Flow → ℕ → List ℕ
bytes_in f dir = (of_direction f.cells dir).now

abbrev pub cell_in : Flow → ℕ → ℕ → ℕ → ℕ
cell_in f dir a b = cell_of (points_in f) (bytes_in f dir) a b

-- the flow between the points of the shape
abbrev pub flow_in : Shape → Flow → FlowOf
flow_in s f = flow_of s f.cells.across.now f.cells.up.now

-- the cell of a→b is above 0, and the arc is not in force
abbrev pub OffCell : Flow → ℕ → ℕ → ℕ → Type 0
OffCell f dir a b = (cell_in f dir a b ≢ 0) × (joined (arcs_of f.board.now dir).force a b ≢ true)

-- of the cells of arcs from a, the first that is off; none where none is
abbrev pub OffFrom : Flow → ℕ → ℕ → Option Arc → Type 0
OffFrom f dir a None = (b : ℕ) → Within (points_in f) b → ¬ OffCell f dir a b
OffFrom f dir a (Some r) =
    (r.from ≡ a) × Within (points_in f) r.to × OffCell f dir a r.to × ((v : ℕ) → 1 ≤ v → v < r.to → ¬ OffCell f dir a v)

-- of all cells, the first that is off; none where none is
abbrev pub OffFirst : Flow → ℕ → Option Arc → Type 0
OffFirst f dir None = (a b : ℕ) → Within (points_in f) a → Within (points_in f) b → ¬ OffCell f dir a b
OffFirst f dir (Some r) =
    Within (points_in f) r.from
    × Within (points_in f) r.to
    × OffCell f dir r.from r.to
    × ((u v : ℕ) → Within (points_in f) u → Within (points_in f) v → Before u v r.from r.to → ¬ OffCell f dir u v)
