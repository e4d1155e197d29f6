-- Every simple drawing is within reach of the arcs that it gives. Assumes nothing.
use Rattle.std.proofs.Common.{ℕ, ◌≤◌}
use Rattle.drawings.specs.Arcs.{Arc, BetweenNames}
use Rattle.drawings.specs.Drawings.{Gives}
use Rattle.drawings.specs.Theorems.{DrawingIsReached}
use Rattle.drawings.proofs.Carrying.{complete_map}
use Rattle.drawings.proofs.Obeying.{obeying_is_simple}
use Rattle.drawings.proofs.Crossing.{arcs_of_a_simple_drawing}
use Rattle.drawings.proofs.Coordinates.{lay_exists}
use Rattle.drawings.proofs.Shortest.{lay_is_shortest}
use Rattle.drawings.proofs.Units.{greatest_flow_exists}

pub drawing_is_reached : (step : ℕ) → step ≤ 1 → DrawingIsReached step
drawing_is_reached step small s L e simple gap low same =
    let arcs = arcs_of_a_simple_drawing step small s L e simple in
    let complete = complete_map s (Gives s e) (Arc gap) (λ dir a b. ((same dir a b).1, (same dir a b).0)) arcs.complete in
    let between : BetweenNames s (Arc gap) = λ dir a b r. let g = (same dir a b).0 r in (g.0, g.1) in
    let obeys = arcs.obeyed gap (λ dir a b r. ((same dir a b).0 r, low dir a b)) in
    record {
      complete = complete;
      some_flow = greatest_flow_exists s L gap between complete.own complete.no_circle;
      some_lay = lay_exists s L gap between;
      simple = λ f c lay. obeying_is_simple s L gap complete.own complete.none_open _ lay.holds.0;
      no_longer = λ f best c lay. lay_is_shortest s L gap between f best c lay e obeys;
    }
