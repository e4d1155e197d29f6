use Rattle.std.proofs.Common.{Decides, refl}
use Rattle.drawings.specs.Arcs.{Arc}
use Rattle.shape.specs.Directions.{direction_number, direction_low}
use Rattle.logs.specs.Lines.{arc}
use Rattle.logs.specs.Answers.{Answers}
use Rattle.board.specs.Boards.{gap_of}
use Rattle.board.specs.Outcomes.{of_question}
use Rattle.board.proofs.Asking.{asked}
use Rattle.board.proofs.Exits.{handed_on}
use Rattle.board.proofs.Standing.{has_tells}
use Rattle.board.proofs.board.Board.arc.Goals as goal

pub returns-in_err-arc-clause-answers : goal.returns-in_err-arc-clause-answers
returns-in_err-arc-clause-answers c s log stands =
    handed_on (λ r. Answers s (gap_of c.args.self.now) (arc c.args.direction c.args.from c.args.to) (of_question r)) _ _ c.from_residual.ensures.1 (c.in_err-arc.ensures.names s log stands)

pub returns-clause-answers : goal.returns-clause-answers
returns-clause-answers c s log stands =
    let b = c.args.self.now in
    let named = c.in_ok-arc.arc in
    let n = c.in_ok-arc.ensures.names s log stands in (
      c.has.result,
      refl,
      n.0,
      n.1,
      asked c.args.direction c.args.from c.args.to named c.in_ok-arc.ensures.arc (λ d u v. Decides c.has.result (Arc (gap_of b) d u v)) (has_tells s log b stands (direction_number named.direction) named.from named.to (direction_low named.direction) _ c.of.ensures c.has.result c.has.ensures),
    )
