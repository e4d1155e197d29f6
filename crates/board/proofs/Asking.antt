-- An arc as it was asked for. Assumes nothing.
use Rattle.std.proofs.Common.{ℕ, subst}
use Rattle.shape.specs.Directions.{direction_number}
use Rattle.board.specs.Asking.{AsAsked}
use Rattle.board.specs.declared.board.names.NamedArc.{NamedArc}

-- what holds of the arc holds of what was asked for
pub asked : (dir a b : ℕ) (arc : NamedArc) → AsAsked dir a b arc → (P : ℕ → ℕ → ℕ → Type 0) → P (direction_number arc.direction) arc.from arc.to → P dir a b
asked dir a b arc same P p = subst (P dir a) same.to (subst (λ (y : ℕ). P dir y arc.to) same.from (subst (λ (x : ℕ). P x arc.from arc.to) same.direction p))
