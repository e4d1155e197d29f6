-- Rows and columns by their names, their ends, and the shape's own arcs. Assumes nothing.
use Rattle.std.specs.Prelude.{◌≡◌, ℕ, zero, suc, ◌-◌, ◌≤◌, cond, ◌≢◌, List, [], ◌∷◌, ◌==◌}
use Rattle.segments.specs.Shapes.{Shape, Point, steps}

-- w ends the chain from v to side d: steps lead there, and no point is joined beyond it
pub record Ends (s : Shape) (d v w : ℕ) : Type 0 where
  pub led : (k : ℕ) × (steps s d k v ≡ w)
  pub point : Point s w
  pub beyond : s.next d w ≡ 0

-- the last point of the chain from v to side d, as a number; `Ends` says what it is
abbrev pub last_within : ℕ → Shape → ℕ → ℕ → ℕ
last_within zero s d v = v
last_within (suc k) s d v = cond (s.next d v == 0) v (last_within k s d (s.next d v))

abbrev pub last : Shape → ℕ → ℕ → ℕ
last s d v = last_within s.points s d v

-- Direction 0, across, has the columns, each named by its lowest point.
-- Direction 1, up, has the rows, each named by its leftmost point.
abbrev pub segment : Shape → ℕ → ℕ → ℕ
segment s dir v = last s (3 - dir) v

abbrev pub column : Shape → ℕ → ℕ
column s v = segment s 0 v

abbrev pub row : Shape → ℕ → ℕ
row s v = segment s 1 v

-- a names a segment of direction dir
abbrev pub Named : Shape → ℕ → ℕ → Type 0
Named s dir a = (dir ≤ 1) × Point s a × (segment s dir a ≡ a)

-- the points of the chain from v to side d, in order
abbrev pub chain_within : ℕ → Shape → ℕ → ℕ → List ℕ
chain_within zero s d v = []
chain_within (suc k) s d v = v ∷ cond (s.next d v == 0) [] (chain_within k s d (s.next d v))

abbrev pub chain : Shape → ℕ → ℕ → List ℕ
chain s d v = chain_within s.points s d v

-- the wire of direction dir that begins at v
abbrev pub Wire : Shape → ℕ → ℕ → Type 0
Wire s dir v = (dir ≤ 1) × Point s v × (s.next dir v ≢ 0)

-- one arc for each wire, from the segment of its left or lower end to that of its right or upper end
abbrev pub ShapeArc : Shape → ℕ → ℕ → ℕ → Type 0
ShapeArc s dir a b = (v : ℕ) × Wire s dir v × (segment s dir v ≡ a) × (segment s dir (s.next dir v) ≡ b)
