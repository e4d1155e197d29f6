-- A table of arcs as a graph, and what a change of one arc leaves. Assumes nothing.
use Rattle.std.specs.Prelude.{◌≡◌, ℕ, ◌+◌, ◌*◌, ◌<◌, false, ◌&&◌, ℤ, pos, Option, nat_lt, slice_index_or}
use Rattle.std.specs.Bool.{then_some}
use Rattle.walks.specs.Nodes.{Gaps}
use Rattle.propagation.specs.declared.arc_table.ArcTable.{ArcTable}

-- an arc of the table has gap 1; what is no node has none
abbrev pub arc_gaps : ArcTable → Gaps
arc_gaps t a b = then_some (nat_lt a t.nodes && (nat_lt b t.nodes && slice_index_or t.arcs (a * 128 + b) false)) (pos 1)

-- from one table to another, the gap from a to b becomes `gap` if they are nodes, and every other stays
pub record Put (before after : ArcTable) (a b : ℕ) (gap : Option ℤ) : Type 0 where
  pub nodes_stay : after.nodes ≡ before.nodes
  pub gap_is_put : a < before.nodes → b < before.nodes → arc_gaps after a b ≡ gap
  pub others_stay : (u v : ℕ) → ((u ≡ a) × (v ≡ b) → ⊥) → arc_gaps after u v ≡ arc_gaps before u v
