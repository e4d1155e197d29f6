use Rattle.std.proofs.Common.{rules}
use Rattle.report.specs.Least.{point_line}
use Rattle.report.proofs.place_text.write_points.Goals as goal

pub returns : goal.returns
returns g c =
    c.write_lines.ensures (point_line (g.S.ShapeSource.shape c.args.source.now) c.args.coordinates.now.across c.args.coordinates.now.up) (λ point line is told. search rules)
