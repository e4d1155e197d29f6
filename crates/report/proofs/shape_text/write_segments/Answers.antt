use Rattle.std.proofs.Common.{rules}
use Rattle.shape.specs.Directions.{direction_number, direction_low}
use Rattle.report.specs.Parts.{named_line}
use Rattle.report.proofs.shape_text.write_segments.Goals as goal

pub returns : goal.returns
returns g c =
    let s = g.S.ShapeSource.shape c.args.source.now in
    let dir = direction_number c.args.direction in
    c.write_lines.ensures (named_line s dir) (λ name line is told. search (rules, direction_low))
