use Rattle.std.proofs.Common.{sym, refl, subst, inl, inr}
use Rattle.logs.specs.Lines.{apart}
use Rattle.logs.specs.Answers.{Answers}
use Rattle.logs.specs.Refusing.{RefusesPair, no_segment}
use Rattle.board.specs.Boards.{gap_of}
use Rattle.board.specs.Outcomes.{of_pair}
use Rattle.board.proofs.Exits.{handed_on}
use Rattle.board.proofs.board.Board.apart.Goals as goal

pub returns-in_err-check_name-clause-answers : goal.returns-in_err-check_name-clause-answers
returns-in_err-check_name-clause-answers c s log stands =
    let r = c.in_err-check_name.ensures s log stands in
    handed_on (λ o. Answers s (gap_of c.args.self.now) (apart c.args.row c.args.column) (of_pair o)) _ _ c.from_residual.ensures.1
    (subst (RefusesPair s c.args.row c.args.column) (sym r.0) (no_segment c.args.row (inl (refl, r.1))))

pub returns-in_err-check_name-2-clause-answers : goal.returns-in_err-check_name-2-clause-answers
returns-in_err-check_name-2-clause-answers c s log stands =
    let row = c.in_ok-check_name.ensures s log stands in
    let r = c.in_err-check_name-2.ensures s log stands in
    handed_on (λ o. Answers s (gap_of c.args.self.now) (apart c.args.row c.args.column) (of_pair o)) _ _ c.from_residual-in_err-check_name-2.ensures.1
    (subst (RefusesPair s c.args.row c.args.column) (sym r.0) (no_segment c.args.column (inr (refl, row, r.1))))

pub returns-clause-answers : goal.returns-clause-answers
returns-clause-answers c s log stands =
    let row = c.in_ok-check_name.ensures s log stands in
    let column = c.in_ok-check_name-2.ensures s log stands in
    (c.pairing.result, refl, row, column, c.pairing.ensures s log stands row column)
