use Rattle.std.proofs.Common.{ℕ, List, length, sym, refl, subst}
use Rattle.shape.specs.declared.by_direction.ByDirection.{ByDirection}
use Rattle.logs.specs.Lines.{draft}
use Rattle.logs.specs.Refusing.{RefusesDraft, by_points, open_pair}
use Rattle.logs.specs.Answers.{Answers}
use Rattle.board.specs.Boards.{gap_of}
use Rattle.board.specs.Outcomes.{of_drawing}
use Rattle.board.specs.Placing.{coordinate_in}
use Rattle.board.proofs.Exits.{handed_on}
use Rattle.board.proofs.Laying.{drafted, obeys_draws}
use Rattle.board.proofs.Standing.{no_circle}
use Rattle.board.proofs.board.Board.draft.Goals as goal

pub returns-in_err-check_points-clause-answers : goal.returns-in_err-check_points-clause-answers
returns-in_err-check_points-clause-answers c s log stands =
    let places = c.args.points.now in
    handed_on (λ r. Answers s (gap_of c.args.self.now) (draft (length places)) (of_drawing r places)) _ _ c.from_residual.ensures.1 (by_points _ (c.in_err-check_points.ensures.fits s log stands))

pub returns-in_err-check_pairs-clause-answers : goal.returns-in_err-check_pairs-clause-answers
returns-in_err-check_pairs-clause-answers c s log stands =
    let b = c.args.self.now in
    let places = c.args.points.now in
    let o = c.in_err-check_pairs.ensures s log stands in
    handed_on (λ r. Answers s (gap_of b) (draft (length places)) (of_drawing r places)) _ _ c.from_residual-in_err-check_pairs.ensures.1
    (subst (RefusesDraft s (gap_of b) (length places)) (sym o.2) (open_pair (c.in_ok-check_points.ensures.fits s log stands) o.0 o.1 o.3))

pub returns-in_err-least_along-clause-answers : goal.returns-in_err-least_along-clause-answers
returns-in_err-least_along-clause-answers c s log stands =
    absurd (no_circle s log c.args.self.now stands (c.in_ok-check_points.ensures.fits s log stands).0 (c.in_err-least_along.ensures s log stands).1)

pub returns-in_err-least_along-2-clause-answers : goal.returns-in_err-least_along-2-clause-answers
returns-in_err-least_along-2-clause-answers c s log stands =
    absurd (no_circle s log c.args.self.now stands (c.in_ok-check_points.ensures.fits s log stands).0 (c.in_err-least_along-2.ensures s log stands).1)

pub returns-clause-answers : goal.returns-clause-answers
returns-clause-answers c s log stands =
    let b = c.args.self.now in
    let none = c.in_ok-check_pairs.ensures s log stands in
    let pair : ByDirection (List ℕ) = record { across = c.in_ok-least_along.field-0; up = c.in_ok-least_along-2.field-0 } in
    let d = drafted s log b stands pair (c.in_ok-least_along.ensures s log stands) (c.in_ok-least_along-2.ensures s log stands) in
    (c.draw.result, c.draw.new.points, coordinate_in pair, refl, record { fits = c.in_ok-check_points.ensures.fits s log stands; none_open = none }, d, c.draw.ensures s log stands (obeys_draws s log b stands none (coordinate_in pair) d.holds))
