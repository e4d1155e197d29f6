-- What going through points or directions with a test finds. Assumes nothing.
use Rattle.std.specs.Prelude.{◌≡◌, ℕ, ◌<◌, ◌≤◌, Bool, true, false, Some, None, Option}
use Rattle.segments.specs.Shapes.{Within}
use Rattle.shape.specs.declared.direction.Direction.{Direction}

-- r is the lowest of the points 1 to n that the test passes, or none if it passes none
pub record FindsFirst (n : ℕ) (Tests : ℕ → Bool → Type 0) (r : Option ℕ) : Type 0 where
  pub first : (v : ℕ) → r ≡ Some v → Within n v × Tests v true × ((u : ℕ) → 1 ≤ u → u < v → Tests u false)
  pub none : r ≡ None → (v : ℕ) → Within n v → Tests v false

-- r is whether the test passes a direction
pub record FindsDirection (Tests : Direction → Bool → Type 0) (r : Bool) : Type 0 where
  pub some : r ≡ true → (direction : Direction) × Tests direction true
  pub none : r ≡ false → (direction : Direction) → Tests direction false
