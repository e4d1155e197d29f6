use Rattle.std.proofs.Common.{ℕ, ◌≤◌, Decides, ◌∙◌, subst, arith}
use Rattle.segments.specs.Shapes.{Within}
use Rattle.drawings.specs.Arcs.{Arc, Path}
use Rattle.shape.specs.Directions.{direction_number, direction_low}
use Rattle.board.specs.Boards.{gap_of}
use Rattle.board.proofs.Pairing.{end_within, ends_on}
use Rattle.board.proofs.Standing.{reaches_tells}
use Rattle.board.proofs.board.Board.ends_before.Goals as goal

pub returns-in_default : goal.returns-in_default
returns-in_default c s log stands named =
    let low : c.from.result ≤ 1 = omega (arith, c.from.ensures, c.other.ensures, direction_low c.args.direction) in
    let here : Within c.args.self.now.segments.points c.args.line = (named.1.0, omega (arith, named.1.1, stands.segments.points)) in
    absurd (c.in_default.ensures (low, here))

pub returns-in_default-name : goal.returns-in_default-name
returns-in_default-name c s log stands named =
    let dir = direction_number c.args.direction in
    let low : c.from-2.result ≤ 1 = omega (arith, c.from-2.ensures, direction_low c.args.direction) in
    absurd (c.in_default-name.ensures (low, end_within s log c.args.self.now stands dir c.args.line (direction_low c.args.direction) named.1 c.from-2.result c.from-2.ensures c.from.result (c.from.ensures ∙ c.other.ensures) c.in-Some.record c.in-Some.ensures.2))

pub returns : goal.returns
returns c s log stands named =
    let b = c.args.self.now in
    let dir = direction_number c.args.direction in
    let low = direction_low c.args.direction in
    let final = ends_on s log b stands dir c.args.line low named.1 c.from-2.result c.from-2.ensures c.from.result (c.from.ensures ∙ c.other.ensures) c.in-Some.record c.in-Some.ensures.2 c.in-Some-name.last c.in-Some-name.ensures.2 in
    subst (λ (x : ℕ). Decides c.reaches.result (Path (Arc (gap_of b) dir) x c.args.segment)) final
    (reaches_tells s log b stands dir c.in-Some-name.last c.args.segment low c.of.result.now c.of.ensures c.reaches.result c.reaches.ensures)
