use Rattle.std.proofs.Common.{◌≡◌, ℕ, ◌<◌, is_some}
use Rattle.propagation.specs.Engine.{at}
use Rattle.propagation.specs.Kinds.{reach_meaning}
use Rattle.propagation.proofs.reaching.mark_heads.Given as goal

abbrev pub invariant-loop-node : goal.invariant-loop-node
invariant-loop-node g l = (k : ℕ) → k < l.node → (at reach_meaning l.reached k).yes ≡ is_some (g.G.ConstraintGraph.gaps l.graph l.from k)
