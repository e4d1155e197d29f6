-- An arc as it was asked for. Assumes nothing.
use Rattle.std.specs.Prelude.{◌≡◌, ℕ}
use Rattle.shape.specs.Directions.{direction_number}
use Rattle.board.specs.declared.board.names.NamedArc.{NamedArc}

-- its direction is the one with this number, and its names are these
pub record AsAsked (dir a b : ℕ) (arc : NamedArc) : Type 0 where
  pub direction : direction_number arc.direction ≡ dir
  pub from : arc.from ≡ a
  pub to : arc.to ≡ b
