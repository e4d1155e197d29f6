-- Arcs with their gaps, paths, circles, and the pairs of a row and a column that are kept apart. Assumes nothing.
use Rattle.std.specs.Prelude.{◌≡◌, ℕ, zero, suc, ◌≤◌, ◌⊎◌}
use Rattle.segments.specs.Shapes.{Shape, Point}
use Rattle.segments.specs.Segments.{last, segment, row, column, Named, ShapeArc}

-- `gap dir a b` is the gap of the arc a→b of direction dir, which is 1 or more, and 0 where there is no such arc
abbrev pub Arcs : Type 0
Arcs = ℕ → ℕ → ℕ → ℕ

-- there is an arc a→b of direction dir
abbrev pub Arc : Arcs → ℕ → ℕ → ℕ → Type 0
Arc gap dir a b = 1 ≤ gap dir a b

-- Where gaps do not matter, arcs are a relation: `arc dir a b` says that there is an arc a→b of direction dir.
-- An arc of direction dir goes between two segments of direction dir, given by their names
abbrev pub BetweenNames : Shape → (ℕ → ℕ → ℕ → Type 0) → Type 0
BetweenNames s arc = (dir a b : ℕ) → arc dir a b → Named s dir a × Named s dir b

-- the shape's own arcs are among the arcs
abbrev pub HasOwn : Shape → (ℕ → ℕ → ℕ → Type 0) → Type 0
HasOwn s arc = (dir a b : ℕ) → ShapeArc s dir a b → arc dir a b

-- a path: one or more arcs of one direction, each beginning where the one before it ends
pub data Path (arc : ℕ → ℕ → Type 0) : ℕ → ℕ → Type 0 where
  one : {a b : ℕ} → arc a b → Path arc a b
  more : {a b c : ℕ} → arc a b → Path arc b c → Path arc a c

-- b is a, or a reaches b: a path leads from a to b
abbrev pub IsOrReaches : (ℕ → ℕ → Type 0) → ℕ → ℕ → Type 0
IsOrReaches arc a b = (a ≡ b) ⊎ Path arc a b

-- a circle: a path back to its beginning
abbrev pub Circle : (ℕ → ℕ → ℕ → Type 0) → Type 0
Circle arc = (dir a : ℕ) × (dir ≤ 1) × Path (arc dir) a a

-- the shape's own arcs have a circle
abbrev pub Contradictory : Shape → Type 0
Contradictory s = Circle (ShapeArc s)

-- the row r and the column c touch: some point lies on both
abbrev pub Touch : Shape → ℕ → ℕ → Type 0
Touch s r c = (v : ℕ) × Point s v × (row s v ≡ r) × (column s v ≡ c)

-- Let `leads dir a b` say that a leads to b in direction dir, by a path or in some other way.
-- Let l run along direction dir, as a row runs across and a column up, and let m be a segment of direction dir.
-- The line l ends before m: the segment where l ends leads to m
abbrev pub EndsBefore : Shape → (ℕ → ℕ → ℕ → Type 0) → ℕ → ℕ → ℕ → Type 0
EndsBefore s leads dir l m = leads dir (segment s dir (last s dir l)) m

-- the line l begins beyond m: m leads to the segment where l begins; l is its own first end
abbrev pub BeginsBeyond : Shape → (ℕ → ℕ → ℕ → Type 0) → ℕ → ℕ → ℕ → Type 0
BeginsBeyond s leads dir l m = leads dir m (segment s dir l)

-- the four ways, by number: the row r lies 1 left of the column c, 2 right of it, 3 below it, 4 above it
abbrev pub Way : Shape → (ℕ → ℕ → ℕ → Type 0) → ℕ → ℕ → ℕ → Type 0
Way s leads zero r c = ⊥
Way s leads (suc zero) r c = EndsBefore s leads 0 r c
Way s leads (suc (suc zero)) r c = BeginsBeyond s leads 0 r c
Way s leads (suc (suc (suc zero))) r c = BeginsBeyond s leads 1 c r
Way s leads (suc (suc (suc (suc zero)))) r c = EndsBefore s leads 1 c r
Way s leads (suc (suc (suc (suc (suc k))))) r c = ⊥

-- a row and a column that do not touch are apart when a path leads one of the four ways
abbrev pub Apart : Shape → (ℕ → ℕ → ℕ → Type 0) → ℕ → ℕ → Type 0
Apart s arc r c = (¬ Touch s r c) × ((k : ℕ) × Way s (λ dir. Path (arc dir)) k r c)

-- a pair that neither touches nor is apart is open
abbrev pub Open : Shape → (ℕ → ℕ → ℕ → Type 0) → ℕ → ℕ → Type 0
Open s arc r c = Named s 1 r × Named s 0 c × (¬ Touch s r c) × (¬ Apart s arc r c)

-- no pair is open
abbrev pub NoneOpen : Shape → (ℕ → ℕ → ℕ → Type 0) → Type 0
NoneOpen s arc = (r c : ℕ) → ¬ Open s arc r c

-- a complete extension of the shape: the arcs contain its own, close no circle and leave no pair open
pub record Complete (s : Shape) (arc : ℕ → ℕ → ℕ → Type 0) : Type 0 where
  pub own : HasOwn s arc
  pub no_circle : ¬ Circle arc
  pub none_open : NoneOpen s arc
