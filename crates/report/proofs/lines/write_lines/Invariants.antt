use Rattle.std.proofs.Common.{◌≡◌, ℕ, ◌-◌, ◌≤◌, List, Some}
use Rattle.segments.specs.Shapes.{Point}
use Rattle.std.specs.Fmt.{IsPlainFormatter, HasWritten}
use Rattle.report.specs.Parts.{each, line_or_none}
use Rattle.report.proofs.lines.write_lines.Given as goal

-- the lines of the points so far are written
abbrev pub invariant-loop-point : goal.invariant-loop-point
invariant-loop-point g l =
    (1 ≤ l.point)
    × ((text : ℕ → List ℕ) → ((point : ℕ) (line : _) → Point (g.S.ShapeSource.shape l.source) point → goal.F-post g l.line_of point line → line_or_none g.L.Display.output line ≡ Some (text point)) → IsPlainFormatter l.fn.f → HasWritten g.W.Write.write_str_gives l.fn.f (each (l.point - 1) text) l.f)
