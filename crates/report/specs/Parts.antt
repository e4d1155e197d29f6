-- The whole text on a shape. Assumes nothing.
use Rattle.std.specs.Prelude.{ℕ, zero, suc, cond, List, [], ◌++◌, Some, None, Option, ◌==◌}
use Rattle.segments.specs.Shapes.{Shape}
use Rattle.segments.specs.Segments.{segment}
use Rattle.report.specs.Texts.{segment_line, arc_line}

-- f 1 to f n, one after the other
abbrev pub each : ℕ → (ℕ → List ℕ) → List ℕ
each zero f = []
each (suc n) f = each n f ++ f (suc n)

-- a line's text, or no byte where there is no line
abbrev pub line_or_none : {A : Type 0} → (A → Option (List ℕ)) → Option A → Option (List ℕ)
line_or_none text None = Some []
line_or_none text (Some line) = text line

-- the line of the segment that a number names, if there is one
abbrev pub named_line : Shape → ℕ → ℕ → List ℕ
named_line s dir a = cond (segment s dir a == a) (segment_line s dir a) []

-- the line of the arc whose wire begins at a point, if there is one
abbrev pub begun_line : Shape → ℕ → ℕ → List ℕ
begun_line s dir v = cond (s.next dir v == 0) [] (arc_line s dir v)

abbrev pub segment_lines : Shape → ℕ → List ℕ
segment_lines s dir = each s.points (named_line s dir)

abbrev pub arc_lines : Shape → ℕ → List ℕ
arc_lines s dir = each s.points (begun_line s dir)

-- the segments of one direction and of another, and then the arcs of the other and of the one
abbrev pub parts_text : Shape → ℕ → ℕ → List ℕ
parts_text s one other = segment_lines s one ++ (segment_lines s other ++ (arc_lines s other ++ arc_lines s one))

-- rows, columns, arcs across, arcs up
abbrev pub shape_text : Shape → List ℕ
shape_text s = parts_text s 1 0
