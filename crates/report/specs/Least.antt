-- The least coordinates over a shape's own arcs, as text. Assumes nothing.
use Rattle.std.specs.Prelude.{◌≡◌, ℕ, ◌-◌, ◌⊎◌, List, ◌++◌, pos, codes, decimal, slice_index}
use Rattle.segments.specs.Shapes.{Shape}
use Rattle.segments.specs.Segments.{row, column}
use Rattle.constraints.specs.Least.{LeastOver, HasCircle}
use Rattle.report.specs.Parts.{each}

-- a point and its two coordinates
abbrev pub place_line : ℕ → ℕ → ℕ → List ℕ
place_line v x y = codes "point " ++ (decimal v ++ (codes " at " ++ (decimal x ++ (codes " " ++ (decimal y ++ codes "\n")))))

-- a point with the coordinates of its column and of its row, each held at its name less 1
abbrev pub point_line : Shape → List ℕ → List ℕ → ℕ → List ℕ
point_line s xs ys v = place_line v (slice_index xs (column s v - 1)) (slice_index ys (row s v - 1))

abbrev pub point_lines : Shape → List ℕ → List ℕ → List ℕ
point_lines s xs ys = each s.points (point_line s xs ys)

-- the points at the least coordinates from 0 up, or the word that the shape is contradictory
abbrev pub LeastText : Shape → List ℕ → Type 0
LeastText s text =
    ((xs ys : List ℕ) × LeastOver s 0 (λ v. pos (slice_index xs v)) × LeastOver s 1 (λ v. pos (slice_index ys v)) × (text ≡ point_lines s xs ys))
    ⊎ ((HasCircle s 0 ⊎ HasCircle s 1) × (text ≡ codes "contradictory\n"))
