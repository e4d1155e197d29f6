-- The table of neighbours. Assumes nothing.
use Rattle.std.specs.Prelude.{◌≡◌, ℕ, ◌+◌, ◌-◌, ◌*◌, ◌<◌, ◌≤◌, cond, ◌&&◌, ◌↔◌, [], Some, None, Option, Ok, Err, Result, nat_le, slice_index, slice_index_or}
use Rattle.segments.specs.Shapes.{Shape, Within}
use Rattle.shape.specs.declared.direction.Direction.{Direction}
use Rattle.shape.specs.declared.links.Links.{Links}
use Rattle.shape.specs.Directions.{direction_number}

-- what a call answers for the number w, where 0 stands for none
abbrev pub Told : ℕ → Option ℕ → Type 0
Told w None = w ≡ 0
Told w (Some v) = (v ≡ w) × (1 ≤ w)

-- the neighbour of the point v at side d
abbrev pub cell : Links → ℕ → ℕ → ℕ
cell l d v = slice_index (slice_index_or l.cells d []) (v - 1)

-- the shape that a table stands for: none for any other side or point
abbrev pub of_links : Links → Shape
of_links l = record { points = l.points; next = λ d v. cond (nat_le d 3 && (nat_le 1 v && nat_le v l.points)) (cell l d v) 0 }

-- points without wires
abbrev pub unwired : ℕ → Shape
unwired n = record { points = n; next = λ d v. 0 }

-- The wires are counted point by point, each to the right and then above. The first i of them are in the table
-- as R has them, the others are not, and the last two sides mirror the first two.
pub record Filled (R : ℕ → ℕ → ℕ → Type 0) (n i : ℕ) (l : Links) : Type 0 where
  pub points : l.points ≡ n
  pub forward : (d u : ℕ) → d ≤ 1 → Within n u → (u - 1) * 2 + d < i → R d u (cell l d u)
  pub empty : (d u : ℕ) → d ≤ 1 → Within n u → i ≤ (u - 1) * 2 + d → cell l d u ≡ 0
  pub inside : (d u : ℕ) → d ≤ 3 → Within n u → cell l d u ≤ n
  pub opposite : (d u w : ℕ) → d ≤ 1 → Within n u → Within n w → (cell l d u ≡ w) ↔ (cell l (d + 2) w ≡ u)

-- what a closure tells of wires: from the point v in direction d leads one to w, or there is none and w is 0
abbrev pub LeadsBy : (ℕ → Direction → Option ℕ → Type 0) → ℕ → ℕ → ℕ → Type 0
LeadsBy Tells d v w = (direction : Direction) × (o : Option ℕ) × (direction_number direction ≡ d) × Tells v direction o × Told w o

-- of the points 1 to n, taken in order, the first where a closure fails to tell of a wire: there it tells e
pub record FailsFirst {E : Type 0} (n : ℕ) (Tells : ℕ → Direction → Result (Option ℕ) E → Type 0) (e : E) : Type 0 where
  pub at : ℕ
  pub direction : Direction
  pub point : Within n at
  pub fails : Tells at direction (Err e)
  pub before : (u : ℕ) (d : Direction) → 1 ≤ u → u < at → (o : Option ℕ) × Tells u d (Ok o)
