use Rattle.std.proofs.Common.{inl, inr, arith}
use Rattle.segments.specs.Shapes.{Point}
use Rattle.logs.specs.Refusing.{Off}
use Rattle.shape.proofs.Reading.{handed_on}
use Rattle.board.specs.Boards.{gap_of}
use Rattle.board.specs.Cells.{flow_in}
use Rattle.board.proofs.Laying.{none_off, flow_checked, before_up}
use Rattle.board.proofs.board.flows.Flow.check.Goals as goal

pub returns-in_err-check_on_arcs : goal.returns-in_err-check_on_arcs
returns-in_err-check_on_arcs c s log stands =
    let o = c.in_err-check_on_arcs.ensures s log stands in
    handed_on _ _ _ _ c.from_residual.ensures.1
    (inl (0, o.0, o.1, o.2, record { direction = omega arith; from = o.3; to = o.4; off = o.5; first_direction = λ d u v h. absurd (omega arith); first_cell = o.6 }))

pub returns-in_err-check_on_arcs-2 : goal.returns-in_err-check_on_arcs-2
returns-in_err-check_on_arcs-2 c s log stands =
    let f = c.args.self.now in
    let across = c.in_ok-check_on_arcs.ensures s log stands in
    let o = c.in_err-check_on_arcs-2.ensures s log stands in
    handed_on _ _ _ _ c.from_residual-in_err-check_on_arcs-2.ensures.1
    (inl (
      1,
      o.0,
      o.1,
      o.2,
      record {
        direction = omega arith;
        from = o.3;
        to = o.4;
        off = o.5;
        first_direction = λ d u v h. before_up (λ d. Point s u → Point s v → ¬ Off (gap_of f.board.now) (flow_in s f) d u v) (across u v) d h;
        first_cell = o.6;
      },
    ))

pub returns-in_err-check_balance : goal.returns-in_err-check_balance
returns-in_err-check_balance c s log stands =
    let f = c.args.self.now in
    let across = c.in_ok-check_on_arcs.ensures s log stands in
    let up = c.in_ok-check_on_arcs-2.ensures s log stands in
    let o = c.in_err-check_balance.ensures s log stands in
    handed_on _ _ _ _ c.from_residual-in_err-check_balance.ensures.1
    (inr (none_off s log f.board.now stands f.cells.across.now f.cells.up.now across up, (0, o.0, o.1, record { segment = o.2; unbalanced = o.3; first_direction = λ d h. absurd (omega arith); lowest = o.4 })))

pub returns : goal.returns
returns c s log stands =
    let f = c.args.self.now in
    flow_checked s log f.board.now stands f.cells.across.now f.cells.up.now (c.in_ok-check_on_arcs.ensures s log stands) (c.in_ok-check_on_arcs-2.ensures s log stands)
    (c.in_ok-check_balance.ensures s log stands) c.check_balance-2.result (c.check_balance-2.ensures s log stands)
