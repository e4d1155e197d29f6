-- Coordinates in two tables, one for the columns and one for the rows. Assumes nothing.
use Rattle.std.specs.Prelude.{ℕ, ◌-◌, cond, ◌&&◌, List, nat_le, slice_index}
use Rattle.drawings.specs.Flows.{Coordinates}
use Rattle.shape.specs.ByDirections.{of_direction}
use Rattle.shape.specs.declared.by_direction.ByDirection.{ByDirection}
use Rattle.segment_table.specs.Records.{name_in}
use Rattle.segment_table.specs.declared.table.SegmentTable.{SegmentTable}

-- the coordinate of the segment a stands at a - 1
abbrev pub coordinate_in : ByDirection (List ℕ) → Coordinates
coordinate_in tables dir a = slice_index (of_direction tables dir) (a - 1)

-- the coordinate of the segment that the table has for a point; 0 where it has none
abbrev pub placed_at : SegmentTable → ByDirection (List ℕ) → ℕ → ℕ → ℕ
placed_at t tables dir v =
    cond (nat_le dir 1 && (nat_le 1 v && nat_le v t.points)) (cond (nat_le 1 (name_in t dir v) && nat_le (name_in t dir v) 128) (slice_index (of_direction tables dir) (name_in t dir v - 1)) 0) 0
