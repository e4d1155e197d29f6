-- A value for each direction, by the direction's number. Assumes nothing.
use Rattle.std.specs.Prelude.{ℕ, cond, ◌==◌}
use Rattle.std.specs.Borrow.{Lends, MutBor, Fml}
use denote.RattleType.{RattleType}
use Rattle.shape.specs.declared.by_direction.ByDirection.{ByDirection}
use Rattle.shape.specs.contracts.by_direction.ByDirection.{the_row}

-- the value of direction 0, or else that of direction 1
abbrev pub of_direction : {X : Type 0} → ByDirection X → ℕ → X
of_direction pair dir = cond (dir == 0) pair.across pair.up

-- with the value of the direction set to x
abbrev pub with_direction : {X : Type 0} → ByDirection X → ℕ → X → ByDirection X
with_direction pair dir x = record { across = cond (dir == 0) x pair.across; up = cond (dir == 0) pair.up x }

-- r lends the direction's value: what is last written through r stands there in the end, and the other's stays
abbrev pub LendsDirection : (R : RattleType) → MutBor (ByDirection R.Denot) → ℕ → MutBor R.Denot → Fml
LendsDirection R pair dir r = Lends (the_row R) R pair r (with_direction pair.now dir)
