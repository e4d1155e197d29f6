-- What is printed, as the values that print it hold it. Assumes nothing.
use Rattle.std.specs.Prelude.{ℕ, ◌-◌, List, Some, None, Option, codes}
use Rattle.segments.specs.Shapes.{Shape}
use Rattle.segments.specs.Segments.{chain}
use Rattle.shape.specs.Directions.{direction_number, direction_text}
use Rattle.shape.specs.declared.by_direction.ByDirection.{ByDirection}
use Rattle.report.specs.declared.arc_text.ArcLine.{ArcLine}
use Rattle.report.specs.declared.place_text.LeastPlaces.{LeastPlaces}
use Rattle.report.specs.declared.segment_text.SegmentLine.{SegmentLine}
use Rattle.report.specs.Texts.{segment_word, ends_line, wire_line}
use Rattle.report.specs.Least.{point_lines}

abbrev pub arc_text : ArcLine → List ℕ
arc_text line = wire_line (direction_text line.direction) line.arc.from line.arc.to line.point line.next

abbrev pub points_text : Shape → Option (ByDirection (List ℕ)) → List ℕ
points_text s None = codes "contradictory\n"
points_text s (Some c) = point_lines s c.across c.up

module _ {S : Type 0} (shape : S → Shape) where
  -- over the shape that a value's source stands for
  abbrev pub segment_text : SegmentLine S → List ℕ
  segment_text line =
      let dir = direction_number line.direction in
      ends_line (segment_word dir) line.name (chain (shape line.source.now) (1 - dir) line.name) line.end

  abbrev pub least_text : LeastPlaces S → List ℕ
  least_text places = points_text (shape places.source.now) places.coordinates
