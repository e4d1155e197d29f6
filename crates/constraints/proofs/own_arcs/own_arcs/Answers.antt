use Rattle.std.proofs.Common.{◌≡◌, rules}
use Rattle.shape.specs.Directions.{direction_number, direction_low}
use Rattle.constraints.proofs.own_arcs.own_arcs.Goals as goal

pub returns-in_ok-table-2 : goal.returns-in_ok-table-2
returns-in_ok-table-2 g c =
    let d = c.in_ok-direction.direction in
    let is : c.args.direction ≡ direction_number d = search rules in
    let low = direction_low d in
    rw is (search rules)
