-- The laws that a table of neighbours keeps as its invariant. Assumes nothing.
use Rattle.std.specs.Prelude.{◌≡◌, ℕ}
use Rattle.std.proofs.Math.Logic.{∥∥₁_elim}
use Rattle.std.proofs.Common.{arith}
use Rattle.std.proofs.lemmas.Bool.Decides.{nat_tests}
use Rattle.segments.specs.Shapes.{Lawful}
use Rattle.segments.proofs.Laws.{lawful_prop}
use Rattle.shape.specs.declared.neighbours.Neighbours.{Neighbours}
use Rattle.shape.specs.declared.links.Links.{Links}
use Rattle.shape.specs.Tables.{cell, of_links}
use Rattle.shape.specs.Sources.{of_neighbours}

pub neighbours_lawful : (t : Neighbours) → Lawful (of_neighbours t)
neighbours_lawful t = ∥∥₁_elim t.lawful (lawful_prop (of_neighbours t)) (λ h. h)

-- a table of empty cells answers none
pub empty_next : (l : Links) → ((d v : ℕ) → cell l d v ≡ 0) → (d v : ℕ) → (of_links l).next d v ≡ 0
empty_next l z d v = let e = z d v in grind (arith, nat_tests)
