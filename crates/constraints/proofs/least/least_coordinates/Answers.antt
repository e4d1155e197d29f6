use Rattle.propagation.specs.Tables.{arc_gaps}
use Rattle.constraints.proofs.Owning.{least_of_shape}
use Rattle.constraints.proofs.least.least_coordinates.Goals as goal

pub returns : goal.returns
returns g c =
    let own = c.in_ok-table.ensures in
    let t = c.in_ok-table.table in
    least_of_shape (g.S.ShapeSource.shape c.args.source.now) c.args.direction t.nodes (arc_gaps t) own.0 own.1 own.2 c.least_over.result c.least_over.ensures
