use Rattle.std.proofs.Common.{List, Decides, refl}
use Rattle.std.proofs.lemmas.Bool.Decides.{not_from_Decides}
use Rattle.segments.specs.Shapes.{Shape}
use Rattle.drawings.specs.Arcs.{Arc, IsOrReaches}
use Rattle.logs.specs.Lines.{Line, add}
use Rattle.logs.specs.Force.{AcceptsAdd}
use Rattle.logs.specs.Refusing.{by_change, closes_circle}
use Rattle.logs.specs.Answers.{Answers}
use Rattle.logs.proofs.Stepping.{add_never_both}
use Rattle.path_table.specs.Tracks.{Added}
use Rattle.board.specs.Boards.{gap_of, Stands}
use Rattle.board.specs.Changing.{Changed}
use Rattle.board.specs.Outcomes.{of_change}
use Rattle.board.proofs.Asking.{asked}
use Rattle.board.proofs.Exits.{handed_on}
use Rattle.board.proofs.Moving.{refused_add_stands, added_stands}
use Rattle.board.proofs.board.Board.add.Goals as goal

pub returns-in_err-arc-clause-answers : goal.returns-in_err-arc-clause-answers
returns-in_err-arc-clause-answers c s log stands =
    handed_on (λ r. Answers s (gap_of c.args.self.now) (add c.args.direction c.args.from c.args.to) (of_change r)) _ _ c.from_residual.ensures.1 (by_change _ (c.in_err-arc.ensures.may s log stands))

pub returns-in_err-arc-clause-stands : goal.returns-in_err-arc-clause-stands
returns-in_err-arc-clause-stands c s log stands =
    let b = c.args.self.now in
    refused_add_stands s log b c.args.direction c.args.from c.args.to stands (add_never_both s (gap_of b) c.args.direction c.args.from c.args.to _ (by_change _ (c.in_err-arc.ensures.may s log stands)))

circle : (c : goal.Then-closes_circle) (s : Shape) (log : List Line) → Stands s log c.args.self.now → IsOrReaches (Arc (gap_of c.args.self.now) c.args.direction) c.args.to c.args.from
circle c s log stands =
    (asked c.args.direction c.args.from c.args.to c.in_ok-arc.arc c.in_ok-arc.ensures.arc (λ d u v. Decides c.closes_circle.result (IsOrReaches (Arc (gap_of c.args.self.now) d) v u)) (c.closes_circle.ensures s log stands)).0
    c.if-closes_circle.true

pub returns-then-closes_circle-clause-answers : goal.returns-then-closes_circle-clause-answers
returns-then-closes_circle-clause-answers c s log stands = closes_circle (c.in_ok-arc.ensures.may s log stands) (circle c s log stands)

pub returns-then-closes_circle-clause-stands : goal.returns-then-closes_circle-clause-stands
returns-then-closes_circle-clause-stands c s log stands = refused_add_stands s log c.args.self.now c.args.direction c.args.from c.args.to stands (λ w. w.no_circle (circle c s log stands))

accepts : (c : goal.After-enter) (s : Shape) (log : List Line) → Stands s log c.args.self.now → AcceptsAdd s (Arc (gap_of c.args.self.now)) c.args.direction c.args.from c.args.to
accepts c s log stands =
    let may = c.in_ok-arc.ensures.may s log stands in
    record {
      from = may.0;
      to = may.1;
      drawable = may.2;
      no_circle = not_from_Decides c.closes_circle.result
          (asked c.args.direction c.args.from c.args.to c.in_ok-arc.arc c.in_ok-arc.ensures.arc (λ d u v. Decides c.closes_circle.result (IsOrReaches (Arc (gap_of c.args.self.now) d) v u)) (c.closes_circle.ensures s log stands))
          c.if-closes_circle.false;
    }

pub returns-clause-answers : goal.returns-clause-answers
returns-clause-answers c s log stands = (refl, accepts c s log stands)

pub returns-clause-stands : goal.returns-clause-stands
returns-clause-stands c s log stands =
    added_stands s log c.args.self.now c.enter.new.self c.args.direction c.args.from c.args.to stands (accepts c s log stands)
    (asked c.args.direction c.args.from c.args.to c.in_ok-arc.arc c.in_ok-arc.ensures.arc (λ d u v. Changed c.args.self.now c.enter.new.self d (λ x y. Added x y u v)) c.enter.ensures)
