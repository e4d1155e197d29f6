use Rattle.std.proofs.Common.{◌≡◌, true, rules}
use Rattle.shape.proofs.Reading.{handed_on}
use Rattle.logs.specs.Refusing.{by_arc, contradictory}
use Rattle.board.proofs.board.Board.check_change.Goals as goal

pub returns-in_err-arc-clause-may : goal.returns-in_err-arc-clause-may
returns-in_err-arc-clause-may c s log stands = handed_on _ _ _ _ c.from_residual.ensures.1 (by_arc _ (c.in_err-arc.ensures.names s log stands))

pub returns-then-self-clause-may : goal.returns-then-self-clause-may
returns-then-self-clause-may c s log stands =
    let n = c.in_ok-arc.ensures.names s log stands in
    contradictory n.0 n.1 (stands.contradictory.0 c.if-self.true)

pub returns-clause-may : goal.returns-clause-may
returns-clause-may c s log stands =
    let n = c.in_ok-arc.ensures.names s log stands in
    (n.0, n.1, λ k. let t : c.args.self.now.contradictory ≡ true = stands.contradictory.1 k in search rules)
