-- A table of arcs that is filled wire by wire. Assumes nothing.
use Rattle.std.proofs.Common.{◌≡◌, ℕ, ◌+◌, ◌-◌, ◌<◌, ◌≤◌, ◌≢◌, pos, Some, None, arith}
use Rattle.walks.specs.Nodes.{Gaps}
use Rattle.segments.specs.Shapes.{Shape}
use Rattle.segments.specs.Segments.{segment, Wire, ShapeArc}
use Rattle.constraints.specs.Own.{Entered}

-- the wire that begins at k is entered, as the arc between the nodes of its two segments
module _ (s : Shape) (dir k from to : ℕ) (begins : from ≡ segment s dir k) (ends : to ≡ segment s dir (s.next dir k)) (one_from : 1 ≤ from) (one_to : 1 ≤ to) (arc : ShapeArc s dir from to) (old new : Gaps) (put : new (from - 1) (to - 1) ≡ Some (pos 1)) (stay : (a b : ℕ) → ((a ≡ from - 1) × (b ≡ to - 1) → ⊥) → new a b ≡ old a b) (F : Entered s dir k old) where
  wire_in : (v : ℕ) → v < k + 1 → Wire s dir v → new (segment s dir v - 1) (segment s dir (s.next dir v) - 1) ≡ Some (pos 1)
  wire_in v h w = grind (arith, F.wires v, stay (segment s dir v - 1) (segment s dir (s.next dir v) - 1))

  is_own : (a b : ℕ) → new a b ≢ None → ShapeArc s dir (a + 1) (b + 1)
  is_own a b n = grind (arith, F.own a b, stay a b)

  pub entered_more : Entered s dir (k + 1) new
  entered_more = record { wires = wire_in; own = is_own }
