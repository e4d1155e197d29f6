use Rattle.std.proofs.Common.{◌≡◌, ℕ, ◌<◌, pos, Some}
use Rattle.propagation.specs.Engine.{at}
use Rattle.propagation.specs.Kinds.{place_meaning}
use Rattle.propagation.proofs.longest.start_at_zero.Given as goal

abbrev pub invariant-loop-place : goal.invariant-loop-place
invariant-loop-place l = (k : ℕ) → k < l.place-index → (at place_meaning l.places k).at ≡ Some (pos 0)
