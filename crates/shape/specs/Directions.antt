-- The numbers of sides and directions. Assumes nothing.
use Rattle.std.specs.Prelude.{◌≡◌, ℕ, ◌<◌, ◌≤◌, List, Result, MatchResult, codes}
use Rattle.std.proofs.Common.{arith}
use Rattle.shape.specs.declared.direction.Direction.{Direction}
use Rattle.shape.specs.declared.direction.Direction.TheVariants.{Across, Up}
use Rattle.shape.specs.declared.direction.Side.{Side}
use Rattle.shape.specs.declared.direction.Side.TheVariants.{Right, Above, Left, Below}
use Rattle.shape.specs.declared.direction.Unnumbered.{Unnumbered}

abbrev pub side_number : Side → ℕ
side_number Right = 0
side_number Above = 1
side_number Left = 2
side_number Below = 3

abbrev pub direction_number : Direction → ℕ
direction_number Across = 0
direction_number Up = 1

abbrev pub direction_text : Direction → List ℕ
direction_text Across = codes "across"
direction_text Up = codes "up"

-- the side with this number, or that there is none
abbrev pub NumbersSide : ℕ → Result Side Unnumbered → Type 0
NumbersSide n r = MatchResult r (λ side. side_number side ≡ n) (λ _. 3 < n)

-- the direction with this number, or that there is none
abbrev pub NumbersDirection : ℕ → Result Direction Unnumbered → Type 0
NumbersDirection n r = MatchResult r (λ direction. direction_number direction ≡ n) (λ _. 1 < n)

-- a direction's number is 0 or 1
pub direction_low : (direction : Direction) → direction_number direction ≤ 1
direction_low Across = omega arith
direction_low Up = omega arith
