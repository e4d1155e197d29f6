-- The lengths of wires, by the records of the points' places. Assumes nothing.
use Rattle.std.specs.Prelude.{ℕ, suc, ◌+◌, ◌-◌, cond, List, ◌==◌, slice_index_or}
use Rattle.walks.specs.Sums.{sum}
use Rattle.segments.specs.Shapes.{Shape}
use Rattle.logs.specs.Answers.{nowhere}
use Rattle.logs.specs.declared.spot.Spot.{Spot}

-- the coordinate x for direction 0, y for 1
abbrev pub along : ℕ → Spot → ℕ
along dir p = cond (dir == 0) p.x p.y

-- the coordinate of the point v
abbrev pub spot_along : List Spot → ℕ → ℕ → ℕ
spot_along places dir v = along dir (slice_index_or places (v - 1) nowhere)

-- how far the far end of the wire of direction dir that begins at v lies beyond its near end; 0 where there is no wire
abbrev pub wire_span : Shape → List Spot → ℕ → ℕ → ℕ
wire_span s places dir v = cond (s.next dir v == 0) 0 (spot_along places dir (s.next dir v) - spot_along places dir v)

-- this for the wires to the right and above, added up over the points 1 to k
abbrev pub span_sum : Shape → List Spot → ℕ → ℕ
span_sum s places k = sum k (λ i. wire_span s places 0 (suc i) + wire_span s places 1 (suc i))
