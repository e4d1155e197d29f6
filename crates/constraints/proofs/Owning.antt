-- Least coordinates over a table of a shape's own arcs. Assumes nothing.
use Rattle.std.proofs.Common.{◌≡◌, ℕ, ◌<◌, ◌≤◌, List, pos, get_or, Some, None, Option, MatchOption}
use Rattle.walks.specs.Nodes.{Gaps}
use Rattle.walks.specs.Places.{Least, GainingCircuit}
use Rattle.segments.specs.Shapes.{Shape}
use Rattle.constraints.specs.Own.{OwnGaps}
use Rattle.constraints.specs.Least.{LeastOver, HasCircle}

-- what is least over the table, or refuted by a circuit of it, is so over the shape
module _ (s : Shape) (dir n : ℕ) (gaps : Gaps) (lies : dir ≤ 1) (size : n ≡ s.points) (own : OwnGaps s dir gaps) where
  pub least_of_shape : (r : Option (List ℕ)) → MatchOption r (GainingCircuit n gaps) (λ xs. Least n gaps (λ v. pos (get_or xs v 0)) × ((v : ℕ) → v < n → get_or xs v 0 ≤ 12800)) → MatchOption r (dir ≤ 1 → HasCircle s dir) (λ xs. (dir ≤ 1) × LeastOver s dir (λ v. pos (get_or xs v 0)))
  least_of_shape None c = λ _. record { gaps = gaps; own = own; circle = rw (← size) c }
  least_of_shape (Some xs) l = (lies, record { gaps = gaps; own = own; least = rw (← size) l.0 })
