use Rattle.std.proofs.Common.{◌≡◌, ℕ, ◌<◌, length}
use Rattle.walks.specs.Rounds.{pulled}
use Rattle.propagation.specs.Engine.{at}
use Rattle.propagation.proofs.engine.round.Given as goal

abbrev pub invariant-loop-node : goal.invariant-loop-node
invariant-loop-node g l =
    let m = g.L.Label.meaning in
    (k : ℕ) → k < l.node → at m l.new k ≡ pulled m (g.G.ConstraintGraph.gaps l.graph) (at m l.old) k (length l.old)
