use Rattle.propagation.proofs.Running.{Reached}
use Rattle.propagation.proofs.engine.propagate.Given as goal

abbrev pub invariant-loop-earlier : goal.invariant-loop-earlier
invariant-loop-earlier g l =
    let p = g.G.ConstraintGraph in
    Reached g.L.Label.meaning (p.size l.graph) (p.gaps l.graph) l.initial.newest l._earlier l.newest l.before
