-- What a refusal of a shape file names. Assumes nothing.
use Rattle.std.specs.Prelude.{ℕ, List, ◌++◌, codes, decimal}
use Rattle.shape.specs.declared.refusal.Naming.{Naming}
use Rattle.shape.specs.declared.refusal.Refusal.{Refusal}
use Rattle.shape.specs.declared.refusal.Refusal.TheVariants.{NotAShape, WrongSize, OutOfRange, Repeated, Endless}

-- a number, with a point or none
abbrev pub of_point : ℕ → ℕ → Naming
of_point number point = record { number = number; direction = 0; first = point; second = 0 }

-- each case with its number and the values that it names
abbrev pub naming : Refusal → Naming
naming NotAShape = of_point 1 0
naming WrongSize = of_point 2 0
naming (OutOfRange v) = of_point 3 v
naming (Repeated v) = of_point 4 v
naming (Endless v) = of_point 5 v

-- the number, the direction, and the first and the second value
abbrev pub naming_digits : Naming → List ℕ
naming_digits n = decimal n.number ++ (codes " " ++ (decimal n.direction ++ (codes " " ++ (decimal n.first ++ (codes " " ++ decimal n.second)))))
