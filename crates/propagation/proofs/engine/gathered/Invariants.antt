use Rattle.std.proofs.Common.{◌≡◌}
use Rattle.walks.specs.Rounds.{pulled}
use Rattle.propagation.specs.Engine.{at}
use Rattle.propagation.proofs.engine.gathered.Given as goal

abbrev pub invariant-loop-from : goal.invariant-loop-from
invariant-loop-from g l =
    let m = g.L.Label.meaning in
    l.label ≡ pulled m (g.G.ConstraintGraph.gaps l.graph) (at m l.old) l.to l.from
