-- A table that was never written has no arcs. Assumes nothing.
use Rattle.std.proofs.Common.{◌≡◌, ℕ, Bool, false, ◌&&◌, get_or, replicate, pos, None, arith}
use Rattle.std.proofs.lemmas.Grind.{common_steps}
use Rattle.std.specs.Bool.{then_some}

pub no_arc : (n k : ℕ) (p q : Bool) → then_some (p && (q && get_or (replicate n false) k false)) (pos 1) ≡ None
no_arc n k p q = grind (arith, common_steps)
