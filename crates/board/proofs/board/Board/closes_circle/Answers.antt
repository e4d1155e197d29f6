use Rattle.std.proofs.Common.{sym, inl, inr}
use Rattle.shape.specs.Directions.{direction_number, direction_low}
use Rattle.board.proofs.Standing.{reaches_tells}
use Rattle.board.proofs.board.Board.closes_circle.Goals as goal

pub returns-else-arc : goal.returns-else-arc
returns-else-arc c s log stands =
    let arc = c.args.arc in
    let d = reaches_tells s log c.args.self.now stands (direction_number arc.direction) arc.to arc.from (direction_low arc.direction) _ c.of.ensures c.reaches.result c.reaches.ensures in
    ((λ t. inr (d.0 t)), λ p. elim p [ inl e ↦ absurd (c.if-arc.false (sym e)) | inr k ↦ d.1 k ])
