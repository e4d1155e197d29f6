-- Drawings, and when one is simple: said of grid points, points and wires alone. Assumes nothing.
use Rattle.std.specs.Prelude.{◌≡◌, ℕ, suc, ◌-◌, ◌≤◌, cond, ◌⊎◌, ℤ, pos, ◌+ℤ◌, ◌-ℤ◌, ◌≤ℤ◌, ◌<ℤ◌, ◌==◌}
use Rattle.walks.specs.Sums.{sumZ}
use Rattle.segments.specs.Shapes.{Shape, Point}
use Rattle.segments.specs.Segments.{last, segment, Named, Wire}
use Rattle.drawings.specs.Arcs.{Arcs, Arc}

-- a drawing gives each column an integer, its x, and each row an integer, its y: `c dir a` is the coordinate of the segment a of direction dir
abbrev pub Drawing : Type 0
Drawing = ℕ → ℕ → ℤ

-- a grid point, by its coordinate in each direction
abbrev pub Spot : Type 0
Spot = ℕ → ℤ

-- the same grid point
abbrev pub SameSpot : Spot → Spot → Type 0
SameSpot p q = (dir : ℕ) → dir ≤ 1 → p dir ≡ q dir

-- the place of the point v: at the x of its column and the y of its row
abbrev pub place : Shape → Drawing → ℕ → Spot
place s c v dir = c dir (segment s dir v)

-- a drawing of the shape: the far end of each wire has a greater coordinate, in the wire's direction, than the near end
abbrev pub Draws : Shape → Drawing → Type 0
Draws s c = (dir v : ℕ) → Wire s dir v → place s c v dir <ℤ place s c (s.next dir v) dir

-- p lies on the wire of direction dir that begins at v: from the place of its near end to that of its far end
abbrev pub OnWire : Shape → Drawing → ℕ → ℕ → Spot → Type 0
OnWire s c dir v p = (place s c v dir ≤ℤ p dir) × (p dir ≤ℤ place s c (s.next dir v) dir) × (p (1 - dir) ≡ place s c v (1 - dir))

-- p is the place of an end of that wire
abbrev pub EndOf : Shape → Drawing → ℕ → ℕ → Spot → Type 0
EndOf s c dir v p = SameSpot p (place s c v) ⊎ SameSpot p (place s c (s.next dir v))

-- different points have different places
abbrev pub PointsApart : Shape → Drawing → Type 0
PointsApart s c = (v w : ℕ) → Point s v → Point s w → SameSpot (place s c v) (place s c w) → v ≡ w

-- a grid point on two different wires is an end of both
abbrev pub WiresApart : Shape → Drawing → Type 0
WiresApart s c =
    (d v e w : ℕ) → Wire s d v → Wire s e w → ¬ ((d ≡ e) × (v ≡ w)) → (p : Spot) → OnWire s c d v p → OnWire s c e w p → EndOf s c d v p × EndOf s c e w p

-- a wire passes over no point but its ends
abbrev pub WiresClear : Shape → Drawing → Type 0
WiresClear s c = (d v u : ℕ) → Wire s d v → Point s u → OnWire s c d v (place s c u) → (u ≡ v) ⊎ (u ≡ s.next d v)

-- a drawing is simple when all three hold
pub record Simple (s : Shape) (c : Drawing) : Type 0 where
  pub points : PointsApart s c
  pub wires : WiresApart s c
  pub clear : WiresClear s c

-- a simple drawing of the shape
pub record SimpleDrawing (s : Shape) (c : Drawing) : Type 0 where
  pub draws : Draws s c
  pub simple : Simple s c

-- p lies on the segment l of direction dir: at its coordinate, from its first end, which is l, to its last
abbrev pub OnSegment : Shape → Drawing → ℕ → ℕ → Spot → Type 0
OnSegment s c dir l p =
    (p dir ≡ c dir l) × (place s c l (1 - dir) ≤ℤ p (1 - dir)) × (p (1 - dir) ≤ℤ place s c (last s (1 - dir) l) (1 - dir))

-- the arcs of a drawing: it gives a→b when the coordinate of a is below that of b
abbrev pub Gives : Shape → Drawing → ℕ → ℕ → ℕ → Type 0
Gives s c dir a b = Named s dir a × Named s dir b × (c dir a <ℤ c dir b)

-- a drawing obeys the arcs when each b lies at least the gap of a→b beyond a
abbrev pub Obeys : Arcs → Drawing → Type 0
Obeys gap c = (dir a b : ℕ) → Arc gap dir a b → (c dir a +ℤ pos (gap dir a b)) ≤ℤ c dir b

-- the length of the wire of direction dir that begins at v, and 0 where there is none
abbrev pub wire_length : Shape → Drawing → ℕ → ℕ → ℤ
wire_length s c dir v = cond (s.next dir v == 0) (pos 0) (place s c (s.next dir v) dir -ℤ place s c v dir)

-- f of point 1 + .. + f of point n
abbrev pub sumZ_points : Shape → (ℕ → ℤ) → ℤ
sumZ_points s f = sumZ s.points (λ i. f (suc i))

-- the length of all wires of direction dir
abbrev pub length_along : Shape → Drawing → ℕ → ℤ
length_along s c dir = sumZ_points s (wire_length s c dir)

-- the total: the length of all wires
abbrev pub total : Shape → Drawing → ℤ
total s c = length_along s c 0 +ℤ length_along s c 1
