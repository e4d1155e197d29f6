-- What a table of segment records holds, and when it is that of a shape. Assumes nothing.
use Rattle.std.specs.Prelude.{◌≡◌, ℕ, suc, ◌-◌, ◌≤◌, cond, not, ◌&&◌, List, Some, None, Option, ◌==◌, slice_index_or}
use Rattle.walks.specs.Sums.{sum}
use Rattle.segments.specs.Shapes.{Shape, Within, Point}
use Rattle.segments.specs.Segments.{last, segment}
use Rattle.drawings.specs.Flows.{near_ends_of, far_ends_of}
use Rattle.shape.specs.ByDirections.{of_direction}
use Rattle.segment_table.specs.declared.table.Entry.{Entry}
use Rattle.segment_table.specs.declared.table.Segment.{Segment}
use Rattle.segment_table.specs.declared.table.SegmentTable.{SegmentTable}

abbrev pub blank : Entry
blank = record { name = 0; segment = record { end = 0; near_ends = 0; far_ends = 0 } }

-- the point v's entry among those of a direction
abbrev pub entry_of : List Entry → ℕ → Entry
entry_of entries v = slice_index_or entries (v - 1) blank

abbrev pub entry_in : SegmentTable → ℕ → ℕ → Entry
entry_in t dir v = entry_of (of_direction t.entries dir) v

abbrev pub name_in : SegmentTable → ℕ → ℕ → ℕ
name_in t dir v = (entry_in t dir v).name

abbrev pub record_in : SegmentTable → ℕ → ℕ → Segment
record_in t dir v = (entry_in t dir v).segment

-- the table holds, at each point, the name of its segment, the end of the line from it, and the ends of wires on the segment with its number
pub record Recorded (s : Shape) (t : SegmentTable) : Type 0 where
  pub points : t.points ≡ s.points
  pub names : (dir v : ℕ) → dir ≤ 1 → Point s v → name_in t dir v ≡ segment s dir v
  pub ends : (dir v : ℕ) → dir ≤ 1 → Point s v → (record_in t dir v).end ≡ last s (1 - dir) v
  pub near : (dir v : ℕ) → dir ≤ 1 → Point s v → (record_in t dir v).near_ends ≡ near_ends_of s dir v
  pub far : (dir v : ℕ) → dir ≤ 1 → Point s v → (record_in t dir v).far_ends ≡ far_ends_of s dir v

-- x, for a direction and a point of the table, and none for any other numbers
abbrev pub Tells : {X : Type 0} → SegmentTable → ℕ → ℕ → X → Option X → Type 0
Tells t dir v x None = ¬ ((dir ≤ 1) × Within t.points v)
Tells t dir v x (Some y) = (dir ≤ 1) × Within t.points v × (y ≡ x)

-- ---- filling, a direction at a time
-- the point v's entry, with no wire counted
pub record Uncounted (s : Shape) (dir v : ℕ) (e : Entry) : Type 0 where
  pub name : Point s v → e.name ≡ segment s dir v
  pub end : Point s v → e.segment.end ≡ last s (1 - dir) v
  pub near : e.segment.near_ends ≡ 0
  pub far : e.segment.far_ends ≡ 0

-- how many of the first k points begin a wire of direction dir with the point `end v` of the wire from v on the segment a
abbrev pub ends_among : (ℕ → ℕ) → ℕ → Shape → ℕ → ℕ → ℕ
ends_among end k s dir a = sum k (λ i. cond (not (s.next dir (suc i) == 0) && (segment s dir (end (suc i))) == a) 1 0)

-- the entries of direction dir, with the wires of the first k points counted
pub record Along (s : Shape) (dir k : ℕ) (entries : List Entry) : Type 0 where
  pub names : (v : ℕ) → Point s v → (entry_of entries v).name ≡ segment s dir v
  pub ends : (v : ℕ) → Point s v → (entry_of entries v).segment.end ≡ last s (1 - dir) v
  pub near : (v : ℕ) → Point s v → (entry_of entries v).segment.near_ends ≡ ends_among (λ u. u) k s dir v
  pub far : (v : ℕ) → Point s v → (entry_of entries v).segment.far_ends ≡ ends_among (s.next dir) k s dir v

-- the point v lies on the row r and on the column c, by their names in the table
abbrev pub Crossing : SegmentTable → ℕ → ℕ → ℕ → Type 0
Crossing t r c v = (name_in t 1 v ≡ r) × (name_in t 0 v ≡ c)
