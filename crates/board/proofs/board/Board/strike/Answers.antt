use Rattle.std.proofs.Common.{List, Decides, refl, rules}
use Rattle.std.proofs.lemmas.Bool.Decides.{not_from_Decides}
use Rattle.segments.specs.Shapes.{Shape}
use Rattle.segments.specs.Segments.{ShapeArc}
use Rattle.drawings.specs.Arcs.{Arc}
use Rattle.shape.specs.Directions.{direction_number, direction_low}
use Rattle.logs.specs.Lines.{Line, strike}
use Rattle.logs.specs.Force.{AcceptsStrike}
use Rattle.logs.specs.Refusing.{by_change, not_in_force, given_by_shape}
use Rattle.logs.specs.Answers.{Answers}
use Rattle.logs.proofs.Stepping.{strike_never_both}
use Rattle.path_table.specs.Tracks.{Struck}
use Rattle.board.specs.Boards.{gap_of, Stands}
use Rattle.board.specs.Changing.{Changed}
use Rattle.board.specs.Outcomes.{of_change}
use Rattle.board.proofs.Asking.{asked}
use Rattle.board.proofs.Exits.{handed_on}
use Rattle.board.proofs.Standing.{has_tells, own_tells}
use Rattle.board.proofs.Moving.{refused_strike_stands, struck_stands}
use Rattle.board.proofs.board.Board.strike.Goals as goal

pub returns-in_err-arc-clause-answers : goal.returns-in_err-arc-clause-answers
returns-in_err-arc-clause-answers c s log stands =
    handed_on (λ r. Answers s (gap_of c.args.self.now) (strike c.args.direction c.args.from c.args.to) (of_change r)) _ _ c.from_residual.ensures.1 (by_change _ (c.in_err-arc.ensures.may s log stands))

pub returns-in_err-arc-clause-stands : goal.returns-in_err-arc-clause-stands
returns-in_err-arc-clause-stands c s log stands =
    let b = c.args.self.now in
    refused_strike_stands s log b c.args.direction c.args.from c.args.to stands (strike_never_both s (gap_of b) c.args.direction c.args.from c.args.to _ (by_change _ (c.in_err-arc.ensures.may s log stands)))

gone : (c : goal.Then-not-has) (s : Shape) (log : List Line) → Stands s log c.args.self.now → ¬ Arc (gap_of c.args.self.now) c.args.direction c.args.from c.args.to
gone c s log stands =
    let arc = c.in_ok-arc.arc in
    not_from_Decides c.has.result
    (asked c.args.direction c.args.from c.args.to arc c.in_ok-arc.ensures.arc (λ d u v. Decides c.has.result (Arc (gap_of c.args.self.now) d u v)) (has_tells s log c.args.self.now stands (direction_number arc.direction) arc.from arc.to (direction_low arc.direction) _ c.of-arcs.ensures c.has.result c.has.ensures)) (search rules)

pub returns-then-not-has-clause-answers : goal.returns-then-not-has-clause-answers
returns-then-not-has-clause-answers c s log stands = not_in_force (c.in_ok-arc.ensures.may s log stands) (gone c s log stands)

pub returns-then-not-has-clause-stands : goal.returns-then-not-has-clause-stands
returns-then-not-has-clause-stands c s log stands = refused_strike_stands s log c.args.self.now c.args.direction c.args.from c.args.to stands (λ w. gone c s log stands w.in_force)

given : (c : goal.Then-is_own) (s : Shape) (log : List Line) → Stands s log c.args.self.now → Arc (gap_of c.args.self.now) c.args.direction c.args.from c.args.to × ShapeArc s c.args.direction c.args.from c.args.to
given c s log stands =
    let b = c.args.self.now in
    let arc = c.in_ok-arc.arc in
    let dir = direction_number arc.direction in
    let low = direction_low arc.direction in
    asked c.args.direction c.args.from c.args.to arc c.in_ok-arc.ensures.arc (λ d u v. Arc (gap_of b) d u v × ShapeArc s d u v)
    ((has_tells s log b stands dir arc.from arc.to low _ c.of-arcs.ensures c.has.result c.has.ensures).0 (search rules), (own_tells s log b stands dir arc.from arc.to low _ c.of-arcs.ensures c.is_own.result c.is_own.ensures).0 c.if-is_own.true)

pub returns-then-is_own-clause-answers : goal.returns-then-is_own-clause-answers
returns-then-is_own-clause-answers c s log stands = let g = given c s log stands in given_by_shape (c.in_ok-arc.ensures.may s log stands) g.0 g.1

pub returns-then-is_own-clause-stands : goal.returns-then-is_own-clause-stands
returns-then-is_own-clause-stands c s log stands = refused_strike_stands s log c.args.self.now c.args.direction c.args.from c.args.to stands (λ w. w.not_own (given c s log stands).1)

accepts : (c : goal.After-withdraw) (s : Shape) (log : List Line) → Stands s log c.args.self.now → AcceptsStrike s (Arc (gap_of c.args.self.now)) c.args.direction c.args.from c.args.to
accepts c s log stands =
    let b = c.args.self.now in
    let arc = c.in_ok-arc.arc in
    let dir = direction_number arc.direction in
    let low = direction_low arc.direction in
    let may = c.in_ok-arc.ensures.may s log stands in
    let both =
    asked c.args.direction c.args.from c.args.to arc c.in_ok-arc.ensures.arc (λ d u v. Arc (gap_of b) d u v × (¬ ShapeArc s d u v))
    ((has_tells s log b stands dir arc.from arc.to low _ c.of-arcs.ensures c.has.result c.has.ensures).0 (search rules), not_from_Decides c.is_own.result (own_tells s log b stands dir arc.from arc.to low _ c.of-arcs.ensures c.is_own.result c.is_own.ensures) c.if-is_own.false) in
    record { from = may.0; to = may.1; drawable = may.2; in_force = both.0; not_own = both.1 }

pub returns-clause-answers : goal.returns-clause-answers
returns-clause-answers c s log stands = (refl, accepts c s log stands)

pub returns-clause-stands : goal.returns-clause-stands
returns-clause-stands c s log stands =
    struck_stands s log c.args.self.now c.withdraw.new.self c.args.direction c.args.from c.args.to stands (accepts c s log stands)
    (asked c.args.direction c.args.from c.args.to c.in_ok-arc.arc c.in_ok-arc.ensures.arc (λ d u v. Changed c.args.self.now c.withdraw.new.self d (λ x y. Struck x y u v)) c.withdraw.ensures)
