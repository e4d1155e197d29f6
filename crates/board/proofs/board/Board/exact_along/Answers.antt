use Rattle.std.proofs.Common.{◌≡◌, ℕ, List, get_or, pos, ap, ◌∙◌, subst}
use Rattle.walks.specs.Nodes.{Gaps}
use Rattle.walks.specs.Flows.{layer}
use Rattle.walks.specs.Places.{Least, GainingCircuit}
use Rattle.drawings.specs.Graphs.{graph, cells}
use Rattle.shape.specs.Directions.{direction_number, direction_low}
use Rattle.logs.specs.Lines.{cell_of}
use Rattle.path_table.specs.declared.direction_arcs.DirectionArcs.{DirectionArcs}
use Rattle.std.specs.Option.{ok_or}
use Rattle.logs.specs.declared.refusal.Refusal.TheVariants.{NotGreatest}
use Rattle.board.specs.Boards.{gap_of}
use Rattle.board.specs.Cells.{bytes_in}
use Rattle.board.proofs.Exits.{or_refused}
use Rattle.board.proofs.Laying.{along_layer, circuit_less}
use Rattle.board.proofs.board.Board.exact_along.Goals as goal

pub returns : goal.returns
returns c s log stands flow =
    let b = c.args.self.now in
    let dir = direction_number c.args.direction in
    let low = direction_low c.args.direction in
    let over = c.new-layer.result in
    let held = c.new-layer.ensures.holds ∙ c.bytes.ensures in
    let lent = c.new-layer.ensures.stands_over ∙ c.graph.ensures ∙ ap (λ (t : DirectionArcs). t.force) c.of.ensures in
    or_refused c.least_over.result (NotGreatest dir) c.ok_or.result
    (subst (λ (d : ℕ). c.ok_or.result ≡ ok_or c.least_over.result (NotGreatest d)) c.from.ensures c.ok_or.ensures.value) c.least_over.ensures
    (λ k. circuit_less s log b stands dir low (cell_of s.points (bytes_in c.args.flow.now dir)) flow
    (subst (λ (list : List ℕ). GainingCircuit s.points (layer (graph (gap_of b) dir) (cells (cell_of s.points list)))) held
    (along_layer s log b stands dir low over.below.now lent over.cells.now GainingCircuit k)))
    (λ xs h.
    let P : ℕ → Gaps → Type 0 = λ n G. Least n G (λ v. pos (get_or xs v 0)) in
    subst (λ (list : List ℕ). P s.points (layer (graph (gap_of b) dir) (cells (cell_of s.points list)))) held (along_layer s log b stands dir low over.below.now lent over.cells.now P h.0))
