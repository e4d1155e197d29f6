use Rattle.std.proofs.Common.{ap, ◌∙◌}
use Rattle.segments.specs.Shapes.{Shape}
use Rattle.board.specs.Placing.{coordinate_in}
use Rattle.board.proofs.Laying.{hands_out}
use Rattle.board.proofs.Standing.{shape_lawful}
use Rattle.board.proofs.board.Board.draw.Goals as goal

pub returns : goal.returns
returns c s log stands draws =
    let b = c.args.self.now in
    let long = c.requires ∙ ap (λ (t : Shape). t.points) stands.shape in
    hands_out s log b stands (coordinate_in c.args.coordinates.now) draws c.write_places.new.points (c.write_places.ensures.long ∙ long)
    (c.write_places.ensures.places s (shape_lawful s log b stands) stands.segments long) c.total_length.result c.total_length.ensures
