-- The shapes that the sources of this crate stand for. Assumes nothing.
use Rattle.std.specs.Prelude.{◌≡◌, ℕ}
use Rattle.segments.specs.Shapes.{Shape}
use Rattle.shape.specs.declared.copy.Copied.{Copied}
use Rattle.shape.specs.declared.neighbours.Neighbours.{Neighbours}
use Rattle.shape.specs.declared.shape_table.ShapeTable.{ShapeTable}
use Rattle.shape.specs.Tables.{of_links}

abbrev pub of_neighbours : Neighbours → Shape
of_neighbours t = of_links t.links

abbrev pub of_table : {Origin : Type 0} → ShapeTable Origin → Shape
of_table t = of_neighbours t.neighbours

abbrev pub of_copy : ShapeTable Copied → Shape
of_copy r = of_table r

-- the next point from v to side d is w, as the shape s has it
abbrev pub LeadsAs : Shape → ℕ → ℕ → ℕ → Type 0
LeadsAs s d v w = w ≡ s.next d v
