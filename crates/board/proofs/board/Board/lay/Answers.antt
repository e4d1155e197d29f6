use Rattle.std.proofs.Common.{◌≡◌, List, ℕ, length, sym, refl, subst, arith}
use Rattle.drawings.specs.Flows.{Flows, FlowOver, GreatestAlong}
use Rattle.drawings.proofs.Listing.{each_direction}
use Rattle.shape.specs.declared.by_direction.ByDirection.{ByDirection}
use Rattle.logs.specs.declared.refusal.Refusal.TheVariants.{NotGreatest}
use Rattle.logs.specs.Lines.{lay, flow_of, cell_of}
use Rattle.logs.specs.Refusing.{RefusesLay, by_points, wrong_cells, open_pair, not_greatest}
use Rattle.logs.specs.Answers.{Answers}
use Rattle.board.specs.Boards.{gap_of}
use Rattle.board.specs.Flows.{FlowRefused}
use Rattle.board.specs.Outcomes.{of_drawing}
use Rattle.board.specs.Placing.{coordinate_in}
use Rattle.board.proofs.Exits.{handed_on}
use Rattle.board.proofs.Laying.{laid_fits, laid_says, least_of, cells_unfit, flow_refused, laid, greatest_along, obeys_draws, before_up}
use Rattle.board.proofs.board.Board.lay.Goals as goal

pub returns-in_err-check_points-clause-answers : goal.returns-in_err-check_points-clause-answers
returns-in_err-check_points-clause-answers c s log stands =
    let places = c.args.points.now in
    handed_on (λ r. Answers s (gap_of c.args.self.now) (lay (length places) c.args.across.now c.args.up.now) (of_drawing r places)) _ _ c.from_residual.ensures.1 (by_points _ (c.in_err-check_points.ensures.fits s log stands))

pub returns-in_err-flow-clause-answers : goal.returns-in_err-flow-clause-answers
returns-in_err-flow-clause-answers c s log stands =
    let b = c.args.self.now in
    let places = c.args.points.now in
    let across = c.args.across.now in
    let up = c.args.up.now in
    let o = c.in_err-flow.ensures in
    handed_on (λ r. Answers s (gap_of b) (lay (length places) across up) (of_drawing r places)) _ _ c.from_residual-in_err-flow.ensures.1
    (subst (RefusesLay s (gap_of b) (length places) across up) (sym o.0) (wrong_cells (c.in_ok-check_points.ensures.fits s log stands) (cells_unfit s log b stands b.segments.points across up stands.segments.points o.1)))

pub returns-in_err-check_pairs-clause-answers : goal.returns-in_err-check_pairs-clause-answers
returns-in_err-check_pairs-clause-answers c s log stands =
    let b = c.args.self.now in
    let places = c.args.points.now in
    let across = c.args.across.now in
    let up = c.args.up.now in
    let fit = c.in_ok-check_points.ensures.fits s log stands in
    let o = c.in_err-check_pairs.ensures s log stands in
    handed_on (λ r. Answers s (gap_of b) (lay (length places) across up) (of_drawing r places)) _ _ c.from_residual-in_err-check_pairs.ensures.1
    (subst (RefusesLay s (gap_of b) (length places) across up) (sym o.2) (open_pair fit.0 (laid_fits s log b stands (length places) across up c.in_ok-flow.flow c.in_ok-flow.ensures fit) o.0 o.1 o.3))

pub returns-in_err-check-clause-answers : goal.returns-in_err-check-clause-answers
returns-in_err-check-clause-answers c s log stands =
    let b = c.args.self.now in
    let places = c.args.points.now in
    let across = c.args.across.now in
    let up = c.args.up.now in
    let fit = c.in_ok-check_points.ensures.fits s log stands in
    let memory = laid_fits s log b stands (length places) across up c.in_ok-flow.flow c.in_ok-flow.ensures fit in
    let wrong = laid_says s log b stands across up c.in_ok-flow.flow c.in_ok-flow.ensures (λ gap f. FlowRefused s gap f c.in_err-check.field-0.0) (c.in_err-check.ensures s log) in
    handed_on (λ r. Answers s (gap_of b) (lay (length places) across up) (of_drawing r places)) _ _ c.from_residual-in_err-check.ensures.1
    (flow_refused s (gap_of b) (length places) across up fit.0 memory (c.in_ok-check_pairs.ensures s log stands) c.in_err-check.field-0.0 wrong)

pub returns-in_err-exact_along-clause-answers : goal.returns-in_err-exact_along-clause-answers
returns-in_err-exact_along-clause-answers c s log stands =
    let b = c.args.self.now in
    let gap = gap_of b in
    let places = c.args.points.now in
    let across = c.args.across.now in
    let up = c.args.up.now in
    let f = c.in_ok-flow.flow in
    let over = c.in_ok-flow.ensures in
    let fit = c.in_ok-check_points.ensures.fits s log stands in
    let flows = laid_says s log b stands across up f over (Flows s) (c.in_ok-check.ensures s log) in
    let e = c.in_err-exact_along.field-0.0 in
    let o =
    subst (λ (list : List ℕ). FlowOver s gap 0 (cell_of s.points list) → (e ≡ NotGreatest 0) × (GreatestAlong s gap 0 (cell_of s.points list) → ⊥)) over.across (c.in_err-exact_along.ensures s log stands) (flows 0 (omega arith)) in
    handed_on (λ r. Answers s gap (lay (length places) across up) (of_drawing r places)) _ _ c.from_residual-in_err-exact_along.ensures.1
    (subst (RefusesLay s gap (length places) across up) (sym o.0) (not_greatest fit.0 (laid_fits s log b stands (length places) across up f over fit) (c.in_ok-check_pairs.ensures s log stands) flows 0 (omega arith) (λ d h. absurd (omega arith)) o.1))

pub returns-in_err-exact_along-2-clause-answers : goal.returns-in_err-exact_along-2-clause-answers
returns-in_err-exact_along-2-clause-answers c s log stands =
    let b = c.args.self.now in
    let gap = gap_of b in
    let places = c.args.points.now in
    let across = c.args.across.now in
    let up = c.args.up.now in
    let f = c.in_ok-flow.flow in
    let over = c.in_ok-flow.ensures in
    let fit = c.in_ok-check_points.ensures.fits s log stands in
    let flows = laid_says s log b stands across up f over (Flows s) (c.in_ok-check.ensures s log) in
    let least = least_of s gap 0 f.cells.across.now across c.in_ok-exact_along.field-0 over.across (c.in_ok-exact_along.ensures s log stands) (flows 0 (omega arith)) in
    let first = greatest_along s log b stands across up 0 (omega arith) (flows 0 (omega arith)) _ least in
    let e = c.in_err-exact_along-2.field-0.0 in
    let o =
    subst (λ (list : List ℕ). FlowOver s gap 1 (cell_of s.points list) → (e ≡ NotGreatest 1) × (GreatestAlong s gap 1 (cell_of s.points list) → ⊥)) over.up (c.in_err-exact_along-2.ensures s log stands) (flows 1 (omega arith)) in
    handed_on (λ r. Answers s gap (lay (length places) across up) (of_drawing r places)) _ _ c.from_residual-in_err-exact_along-2.ensures.1
    (subst (RefusesLay s gap (length places) across up) (sym o.0)
    (not_greatest fit.0 (laid_fits s log b stands (length places) across up f over fit) (c.in_ok-check_pairs.ensures s log stands) flows 1 (omega arith) (before_up (λ d. GreatestAlong s gap d (flow_of s across up d)) first) o.1))

pub returns-clause-answers : goal.returns-clause-answers
returns-clause-answers c s log stands =
    let b = c.args.self.now in
    let gap = gap_of b in
    let places = c.args.points.now in
    let across = c.args.across.now in
    let up = c.args.up.now in
    let f = c.in_ok-flow.flow in
    let over = c.in_ok-flow.ensures in
    let fit = c.in_ok-check_points.ensures.fits s log stands in
    let none = c.in_ok-check_pairs.ensures s log stands in
    let flows = laid_says s log b stands across up f over (Flows s) (c.in_ok-check.ensures s log) in
    let pair : ByDirection (List ℕ) = record { across = c.in_ok-exact_along.field-0; up = c.in_ok-exact_along-2.field-0 } in
    let lx = least_of s gap 0 f.cells.across.now across pair.across over.across (c.in_ok-exact_along.ensures s log stands) (flows 0 (omega arith)) in
    let ly = least_of s gap 1 f.cells.up.now up pair.up over.up (c.in_ok-exact_along-2.ensures s log stands) (flows 1 (omega arith)) in
    let d = laid s log b stands across up flows pair lx ly in (
      c.draw.result,
      c.draw.new.points,
      coordinate_in pair,
      refl,
      record {
        drawable = fit.0;
        fits = laid_fits s log b stands (length places) across up f over fit;
        none_open = none;
        greatest = each_direction (λ dir. GreatestAlong s gap dir (flow_of s across up dir)) (greatest_along s log b stands across up 0 (omega arith) (flows 0 (omega arith)) _ lx) (greatest_along s log b stands across up 1 (omega arith) (flows 1 (omega arith)) _ ly);
      },
      d,
      c.draw.ensures s log stands (obeys_draws s log b stands none (coordinate_in pair) d.holds.0),
    )
