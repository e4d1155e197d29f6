use Rattle.std.proofs.Common.{arith}
use Rattle.drawings.proofs.Climbing.{contradictory_has_no_drawing}
use Rattle.drawings.proofs.Obeying.{obeying_is_simple, stepping_is_simple}
use Rattle.drawings.proofs.Crossing.{arcs_of_a_simple_drawing, crossing_is_touch}
use Rattle.drawings.proofs.Coordinates.{complete_is_drawn}
use Rattle.drawings.proofs.Reached.{drawing_is_reached}
use Rattle.drawings.proofs.Steps.{gaps_of_one_step}
use Rattle.drawings.proofs.step_of_arcs.Goals as goal

pub returns : goal.returns
returns c =
    record {
      simple = obeying_is_simple;
      steps = stepping_is_simple _ (omega arith);
      complete = complete_is_drawn;
      arcs = arcs_of_a_simple_drawing _ (omega arith);
      reached = drawing_is_reached _ (omega arith);
      gaps = gaps_of_one_step _ (omega arith);
      crossing = crossing_is_touch;
      contradictory = contradictory_has_no_drawing;
    }
