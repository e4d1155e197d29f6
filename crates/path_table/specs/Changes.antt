-- From one table of arcs to another, over the nodes. Assumes nothing.
use Rattle.std.specs.Prelude.{◌≡◌, ℕ, ◌<◌, ◌≢◌, ◌⊎◌, is_some, Decides}
use Rattle.walks.specs.Nodes.{Gaps, Arc}
use Rattle.propagation.specs.Subject.{Leads}
use Rattle.propagation.specs.Tables.{arc_gaps}
use Rattle.propagation.specs.declared.arc_table.ArcTable.{ArcTable}

-- the arcs before stay, and those between nodes of which P holds come to them
pub record Widened (before after : ArcTable) (P : ℕ → ℕ → Type 0) : Type 0 where
  pub nodes_stay : after.nodes ≡ before.nodes
  pub arcs_stay : (u v : ℕ) → Arc (arc_gaps before) u v → Arc (arc_gaps after) u v
  pub arcs_come : (u v : ℕ) → u < before.nodes → v < before.nodes → P u v → Arc (arc_gaps after) u v
  pub no_others : (u v : ℕ) → Arc (arc_gaps after) u v → Arc (arc_gaps before) u v ⊎ P u v

-- of the arcs out of the node `from`, those to nodes below k become those of which P holds; the arcs out of other nodes stay
pub record RowPut (before after : ArcTable) (from k : ℕ) (P : ℕ → Type 0) : Type 0 where
  pub nodes_stay : after.nodes ≡ before.nodes
  pub row_is : (v : ℕ) → from < before.nodes → v < before.nodes → v < k → Decides (is_some (arc_gaps after from v)) (P v)
  pub others_stay : (u v : ℕ) → u ≢ from → arc_gaps after u v ≡ arc_gaps before u v

-- the arcs between nodes become the walks of one or more arcs of a graph, wherever they are nodes of it
pub record Closed (n : ℕ) (gaps : Gaps) (before after : ArcTable) : Type 0 where
  pub nodes_stay : after.nodes ≡ before.nodes
  pub walks : (u v : ℕ) → u < before.nodes → v < before.nodes → u < n → v < n → Decides (is_some (arc_gaps after u v)) (Leads n gaps u v)
