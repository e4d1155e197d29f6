-- Shapes: which points a wire joins, and on which side. Assumes nothing.
use Rattle.std.specs.Prelude.{◌≡◌, ℕ, zero, suc, ◌+◌, ◌≤◌, ◌≢◌, ◌↔◌}

-- Points are numbered from 1, and 0 stands for none. A side is 0 right, 1 above, 2 left or 3 below.
-- `next d v` is the neighbour of the point v at side d.
pub record Shape : Type 0 where
  pub points : ℕ
  pub next : ℕ → ℕ → ℕ

-- v is one of the numbers 1 to n
abbrev pub Within : ℕ → ℕ → Type 0
Within n v = (1 ≤ v) × (v ≤ n)

abbrev pub Point : Shape → ℕ → Type 0
Point s v = Within s.points v

-- where a chain of k steps to side d leads from v
abbrev pub steps : Shape → ℕ → ℕ → ℕ → ℕ
steps s d zero v = v
steps s d (suc k) v = s.next d (steps s d k v)

-- What every source of shapes keeps. The sides dir and dir + 2 are opposite: right and left, above and below.
pub record Lawful (s : Shape) : Type 0 where
  pub some : 1 ≤ s.points
  pub few : s.points ≤ 128
  -- for any other point or side the answer is none
  pub from_points : (d v : ℕ) → s.next d v ≢ 0 → (d ≤ 3) × Point s v
  pub to_points : (d v : ℕ) → s.next d v ≢ 0 → Point s (s.next d v)
  -- w is right of v exactly when v is left of w; above and below likewise
  pub opposite : (dir v w : ℕ) → dir ≤ 1 → Point s v → Point s w → (s.next dir v ≡ w) ↔ (s.next (dir + 2) w ≡ v)
  -- a chain of steps to one side never comes back to a point that it left
  pub never_returns : (d k v : ℕ) → Point s v → steps s d (suc k) v ≢ v

-- two shapes with the same points and the same answers
pub record Same (s t : Shape) : Type 0 where
  pub points : s.points ≡ t.points
  pub next : (d v : ℕ) → s.next d v ≡ t.next d v
