use Rattle.std.proofs.Common.{get_or, pos, ap, ◌∙◌}
use Rattle.walks.specs.Places.{Least, GainingCircuit}
use Rattle.shape.specs.Directions.{direction_number, direction_low}
use Rattle.path_table.specs.declared.direction_arcs.DirectionArcs.{DirectionArcs}
use Rattle.board.proofs.Exits.{or_refused}
use Rattle.board.proofs.Laying.{along_graph, circuit_circle}
use Rattle.board.proofs.board.Board.least_along.Goals as goal

pub returns : goal.returns
returns c s log stands =
    let b = c.args.self.now in
    let dir = direction_number c.args.direction in
    let low = direction_low c.args.direction in
    let lent = c.graph.ensures ∙ ap (λ (t : DirectionArcs). t.force) c.of.ensures in
    or_refused c.least_over.result _ c.ok_or.result c.ok_or.ensures.value c.least_over.ensures
    (λ k. circuit_circle s log b stands dir low (along_graph s log b stands dir low c.graph.result.now lent GainingCircuit k))
    (λ xs h. along_graph s log b stands dir low c.graph.result.now lent (λ n G. Least n G (λ v. pos (get_or xs v 0))) h.0)
