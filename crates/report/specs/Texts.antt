-- The text that tells the rows, columns and arcs of a shape, and the line of a refusal. Assumes nothing.
use Rattle.std.specs.Prelude.{ℕ, ◌-◌, cond, List, [], ◌∷◌, ◌++◌, codes, decimal, ◌==◌}
use Rattle.segments.specs.Shapes.{Shape}
use Rattle.segments.specs.Segments.{segment, last, chain}
use Rattle.shape.specs.Directions.{direction_text}
use Rattle.shape.specs.declared.direction.Direction.TheVariants.{Across, Up}
use Rattle.shape.specs.declared.refusal.Naming.{Naming}

-- each number after a space
abbrev pub spaced : List ℕ → List ℕ
spaced [] = []
spaced (x ∷ xs) = (codes " " ++ decimal x) ++ spaced xs

abbrev pub segment_word : ℕ → List ℕ
segment_word dir = cond (dir == 0) (codes "column") (codes "row")

abbrev pub direction_word : ℕ → List ℕ
direction_word dir = cond (dir == 0) (direction_text Across) (direction_text Up)

-- a word, a name, the points that it names in order, and two ends
abbrev pub ends_line : List ℕ → ℕ → List ℕ → ℕ → List ℕ
ends_line word a points b =
    word ++ (codes " " ++ (decimal a ++ (codes ":" ++ (spaced points ++ (codes ", ends " ++ (decimal a ++ (codes " and " ++ (decimal b ++ codes "\n"))))))))

-- a segment by its name, its points in order, and its two ends: the name, and the last point of the chain from it
abbrev pub segment_line : Shape → ℕ → ℕ → List ℕ
segment_line s dir a = ends_line (segment_word dir) a (chain s (1 - dir) a) (last s (1 - dir) a)

-- a word, two names, and the two points of a wire
abbrev pub wire_line : List ℕ → ℕ → ℕ → ℕ → ℕ → List ℕ
wire_line word a b v w =
    word ++ (codes " " ++ (decimal a ++ (codes " -> " ++ (decimal b ++ (codes ": wire " ++ (decimal v ++ (codes " " ++ (decimal w ++ codes "\n"))))))))

-- an arc, and the wire that gives it
abbrev pub arc_line : Shape → ℕ → ℕ → List ℕ
arc_line s dir v = wire_line (direction_word dir) (segment s dir v) (segment s dir (s.next dir v)) v (s.next dir v)

-- "no", the layer's letter, the record, the number, the direction, the first and the second value
abbrev pub refusal_line : List ℕ → ℕ → Naming → List ℕ
refusal_line layer k n =
    (codes "no " ++ (layer ++ (codes " " ++ (decimal k ++ (codes " " ++ decimal n.number)))))
    ++ (codes " " ++ (decimal n.direction ++ (codes " " ++ (decimal n.first ++ (codes " " ++ (decimal n.second ++ codes "\n"))))))
