-- The arcs of one direction as a graph over the nodes 0 to n - 1: the node i stands for the point i + 1. Assumes nothing.
use Rattle.std.specs.Prelude.{ℕ, zero, suc, ℤ, pos, Some, None, Option}
use Rattle.walks.specs.Nodes.{Gaps}
use Rattle.drawings.specs.Arcs.{Arcs}

-- a gap as an option: 0 stands for no arc
abbrev pub as_gap : ℕ → Option ℤ
as_gap zero = None
as_gap (suc g) = Some (pos (suc g))

-- the arcs of direction dir, over the nodes
abbrev pub graph : Arcs → ℕ → Gaps
graph gap dir i j = as_gap (gap dir (suc i) (suc j))

-- the cells of one direction, over the nodes
abbrev pub cells : (ℕ → ℕ → ℕ) → ℕ → ℕ → ℕ
cells f i j = f (suc i) (suc j)
