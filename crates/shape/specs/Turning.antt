-- A shape turned by quarters. Assumes nothing.
use Rattle.std.specs.Prelude.{ℕ, ◌+◌, ◌-◌, ◌%◌, cond, nat_le}
use Rattle.segments.specs.Shapes.{Shape}

-- the side d - q, counted modulo 4
abbrev pub side_before : ℕ → ℕ → ℕ
side_before q d = (d + (4 - q % 4)) % 4

-- side d of the turned shape is side d - q of the other; there is no side above 3
abbrev pub turned : ℕ → Shape → Shape
turned q s = record { points = s.points; next = λ d v. cond (nat_le d 3) (s.next (side_before q d) v) 0 }
