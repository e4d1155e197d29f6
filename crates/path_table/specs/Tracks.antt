-- The arcs of a direction that a shape gives, and what an arc more or less changes. Assumes nothing.
use Rattle.std.specs.Prelude.{◌≡◌, ℕ, true, false, Decides}
use Rattle.segments.specs.Shapes.{Shape, Within}
use Rattle.segments.specs.Segments.{ShapeArc}
use Rattle.path_table.specs.Joined.{joined}
use Rattle.path_table.specs.declared.direction_arcs.DirectionArcs.{DirectionArcs}

-- the arcs of a direction that a shape gives, and no others, are its own and in force
pub record OfShape (s : Shape) (direction : ℕ) (t : DirectionArcs) : Type 0 where
  pub nodes_are_points : t.force.nodes ≡ s.points
  pub own_are_the_shapes : (a b : ℕ) → Decides (joined t.own a b) (ShapeArc s direction a b)
  pub own_are_in_force : (a b : ℕ) → joined t.force a b ≡ joined t.own a b

-- an arc from a to b comes into force
pub record Added (before after : DirectionArcs) (a b : ℕ) : Type 0 where
  pub own_stays : after.own ≡ before.own
  pub nodes_stay : (after.force.nodes ≡ before.force.nodes) × (after.paths.nodes ≡ before.paths.nodes)
  pub arc_is_there : Within before.force.nodes a → Within before.force.nodes b → joined after.force a b ≡ true
  pub others_stay : (u v : ℕ) → ((u ≡ a) × (v ≡ b) → ⊥) → joined after.force u v ≡ joined before.force u v
  pub no_segments_leave_all : (Within before.force.nodes a × Within before.force.nodes b → ⊥) → after ≡ before

-- the arc from a to b is no longer in force
pub record Struck (before after : DirectionArcs) (a b : ℕ) : Type 0 where
  pub own_stays : after.own ≡ before.own
  pub nodes_stay : (after.force.nodes ≡ before.force.nodes) × (after.paths.nodes ≡ before.paths.nodes)
  pub arc_is_gone : joined after.force a b ≡ false
  pub others_stay : (u v : ℕ) → ((u ≡ a) × (v ≡ b) → ⊥) → joined after.force u v ≡ joined before.force u v
