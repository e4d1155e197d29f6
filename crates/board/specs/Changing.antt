-- A change of the arcs of one direction. Assumes nothing.
use Rattle.std.specs.Prelude.{◌≡◌, ℕ, ◌-◌}
use Rattle.path_table.specs.declared.direction_arcs.DirectionArcs.{DirectionArcs}
use Rattle.board.specs.Boards.{arcs_of}
use Rattle.board.specs.declared.board.Board.{Board}

-- the arcs of direction dir change as R has it, and all else stays
pub record Changed (before after : Board) (dir : ℕ) (R : DirectionArcs → DirectionArcs → Type 0) : Type 0 where
  pub arcs : R (arcs_of before dir) (arcs_of after dir)
  pub others_stay : arcs_of after (1 - dir) ≡ arcs_of before (1 - dir)
  pub shape_stays : after.shape ≡ before.shape
  pub segments_stay : after.segments ≡ before.segments
  pub verdict_stays : after.contradictory ≡ before.contradictory
