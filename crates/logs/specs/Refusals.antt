-- What a refusal of a call on a board names. Assumes nothing.
use Rattle.std.specs.Prelude.{ℕ}
use Rattle.shape.specs.declared.refusal.Naming.{Naming}
use Rattle.logs.specs.declared.refusal.Refusal.{Refusal}
use Rattle.logs.specs.declared.refusal.Refusal.TheVariants.{NoDirection, NoSegment, Contradictory, ClosesCircle, NotInForce, GivenByShape, WrongPoints, WrongCells, OpenPair, FlowOffArcs, OutOfBalance, NotGreatest}

-- a number, with a direction and two values
abbrev pub of_arc : ℕ → ℕ → ℕ → ℕ → Naming
of_arc number direction first second = record { number = number; direction = direction; first = first; second = second }

-- each case with its number and the values that it names; what is not named is 0
abbrev pub naming : Refusal → Naming
naming NoDirection = of_arc 6 0 0 0
naming (NoSegment number) = of_arc 7 0 number 0
naming Contradictory = of_arc 8 0 0 0
naming (ClosesCircle dir a b) = of_arc 9 dir a b
naming (NotInForce dir a b) = of_arc 10 dir a b
naming (GivenByShape dir a b) = of_arc 11 dir a b
naming WrongPoints = of_arc 12 0 0 0
naming WrongCells = of_arc 13 0 0 0
naming (OpenPair r c) = of_arc 14 0 r c
naming (FlowOffArcs dir a b) = of_arc 15 dir a b
naming (OutOfBalance dir a) = of_arc 16 dir a 0
naming (NotGreatest dir) = of_arc 17 dir 0 0
