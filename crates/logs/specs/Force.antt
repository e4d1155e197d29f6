-- What is in force follows from the shape and the log alone. Assumes nothing.
use Rattle.std.specs.Prelude.{◌≡◌, ℕ, ◌⊎◌, List, [], ◌∷◌, ◌++◌}
use Rattle.segments.specs.Shapes.{Shape}
use Rattle.segments.specs.Segments.{Named, ShapeArc}
use Rattle.drawings.specs.Arcs.{Arcs, IsOrReaches, Contradictory}
use Rattle.logs.specs.Lines.{Line, add, strike, arc, apart, draft, lay}

-- Let `force dir a b` say that the arc a→b of direction dir is in force.
-- An add is accepted between two segments of the direction, over a shape that is not contradictory, if it closes no circle: b is not a and does not reach a
pub record AcceptsAdd (s : Shape) (force : ℕ → ℕ → ℕ → Type 0) (dir a b : ℕ) : Type 0 where
  pub from : Named s dir a
  pub to : Named s dir b
  pub drawable : ¬ Contradictory s
  pub no_circle : ¬ IsOrReaches (force dir) b a

-- a strike is accepted of an arc in force that the shape does not give
pub record AcceptsStrike (s : Shape) (force : ℕ → ℕ → ℕ → Type 0) (dir a b : ℕ) : Type 0 where
  pub from : Named s dir a
  pub to : Named s dir b
  pub drawable : ¬ Contradictory s
  pub in_force : force dir a b
  pub not_own : ¬ ShapeArc s dir a b

-- the same arc
abbrev pub SameArc : ℕ → ℕ → ℕ → ℕ → ℕ → ℕ → Type 0
SameArc d p q dir a b = (d ≡ dir) × (p ≡ a) × (q ≡ b)

-- In force are the shape's arcs and what stands on the page. The page begins empty; an accepted add puts its arc there, an accepted strike takes it off, and every other line leaves the page.
abbrev pub InForce : Shape → List Line → ℕ → ℕ → ℕ → Type 0
InForce s [] dir a b = ShapeArc s dir a b
InForce s (add d p q ∷ log) dir a b = InForce s log dir a b ⊎ (SameArc d p q dir a b × AcceptsAdd s (InForce s log) d p q)
InForce s (strike d p q ∷ log) dir a b = InForce s log dir a b × (¬ (SameArc d p q dir a b × AcceptsStrike s (InForce s log) d p q))
InForce s (arc d p q ∷ log) dir a b = InForce s log dir a b
InForce s (apart r c ∷ log) dir a b = InForce s log dir a b
InForce s (draft n ∷ log) dir a b = InForce s log dir a b
InForce s (lay n across up ∷ log) dir a b = InForce s log dir a b

-- an accepted add of a→b, and no accepted strike of it after it
pub record AddedAndKept (s : Shape) (log : List Line) (dir a b : ℕ) : Type 0 where
  pub later : List Line
  pub earlier : List Line
  pub is : log ≡ later ++ (add dir a b ∷ earlier)
  pub accepted : AcceptsAdd s (InForce s earlier) dir a b
  pub kept : (l m : List Line) → later ≡ l ++ (strike dir a b ∷ m) → ¬ AcceptsStrike s (InForce s (m ++ (add dir a b ∷ earlier))) dir a b

-- each arc is there, with a gap of one step, or is not, and its gap is 0
abbrev pub OneStepEach : (ℕ → ℕ → ℕ → Type 0) → Arcs → Type 0
OneStepEach force gap = (dir a b : ℕ) → (force dir a b × (gap dir a b ≡ 1)) ⊎ ((¬ force dir a b) × (gap dir a b ≡ 0))
