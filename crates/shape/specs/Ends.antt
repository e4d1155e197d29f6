-- What the questions about segments answer. Assumes nothing.
use Rattle.std.specs.Prelude.{◌≡◌, ℕ, ◌≤◌, Some, None, Option}
use Rattle.segments.specs.Shapes.{Shape, Point}
use Rattle.segments.specs.Segments.{Ends, last, segment, Named, Wire, ShapeArc}
use Rattle.shape.specs.declared.ends.Arc.{Arc}

-- the point that ends the chain from v to side d, and its own chain; none where v is no point
abbrev pub TellsEnd : Shape → ℕ → ℕ → Option ℕ → Type 0
TellsEnd s d v None = ¬ Point s v
TellsEnd s d v (Some w) = Point s v × (w ≡ last s d v) × Ends s d v w × (last s d w ≡ w)

-- the name of v's segment of direction dir; none for any other direction or point
abbrev pub TellsSegment : Shape → ℕ → ℕ → Option ℕ → Type 0
TellsSegment s dir v None = ¬ ((dir ≤ 1) × Point s v)
TellsSegment s dir v (Some a) = Point s v × Named s dir a × (a ≡ segment s dir v)

-- the arc of the wire of direction dir that begins at v; none where there is no such wire
abbrev pub TellsArc : Shape → ℕ → ℕ → Option Arc → Type 0
TellsArc s dir v None = ¬ Wire s dir v
TellsArc s dir v (Some a) =
    Wire s dir v
    × Named s dir a.from
    × Named s dir a.to
    × (a.from ≡ segment s dir v)
    × (a.to ≡ segment s dir (s.next dir v))
    × ShapeArc s dir a.from a.to
