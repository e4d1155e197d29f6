-- The arcs of a table by the names of segments, which are numbers from 1: the name a is the node a - 1. Assumes nothing.
use Rattle.std.specs.Prelude.{◌≡◌, ℕ, zero, suc, Bool, false, T, is_some, Decides}
use Rattle.drawings.specs.Arcs.{Path}
use Rattle.propagation.specs.Tables.{arc_gaps}
use Rattle.propagation.specs.declared.arc_table.ArcTable.{ArcTable}

-- whether the table has an arc from the segment a to the segment b
abbrev pub joined : ArcTable → ℕ → ℕ → Bool
joined t zero b = false
joined t (suc i) zero = false
joined t (suc i) (suc j) = is_some (arc_gaps t i j)

-- the arcs of the second table are the paths of one or more arcs of the first
pub record PathsOf (force paths : ArcTable) : Type 0 where
  pub nodes : paths.nodes ≡ force.nodes
  pub told : (a b : ℕ) → Decides (joined paths a b) (Path (λ x y. T (joined force x y)) a b)
