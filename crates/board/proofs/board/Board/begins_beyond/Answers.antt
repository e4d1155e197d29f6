use Rattle.std.proofs.Common.{ℕ, ◌≤◌, Decides, subst, arith}
use Rattle.segments.specs.Shapes.{Within}
use Rattle.drawings.specs.Arcs.{Arc, Path}
use Rattle.shape.specs.Directions.{direction_number, direction_low}
use Rattle.board.specs.Boards.{gap_of}
use Rattle.board.proofs.Pairing.{begins_at}
use Rattle.board.proofs.Standing.{reaches_tells}
use Rattle.board.proofs.board.Board.begins_beyond.Goals as goal

pub returns-in_default : goal.returns-in_default
returns-in_default c s log stands named =
    let low : c.from.result ≤ 1 = omega (arith, c.from.ensures, direction_low c.args.direction) in
    let here : Within c.args.self.now.segments.points c.args.line = (named.1.0, omega (arith, named.1.1, stands.segments.points)) in
    absurd (c.in_default.ensures (low, here))

pub returns : goal.returns
returns c s log stands named =
    let b = c.args.self.now in
    let dir = direction_number c.args.direction in
    let low = direction_low c.args.direction in
    let first = begins_at s log b stands dir c.args.line low named.1 c.from.result c.from.ensures c.in-Some.first c.in-Some.ensures.2 in
    subst (λ (x : ℕ). Decides c.reaches.result (Path (Arc (gap_of b) dir) c.args.segment x)) first
    (reaches_tells s log b stands dir c.args.segment c.in-Some.first low c.of.result.now c.of.ensures c.reaches.result c.reaches.ensures)
