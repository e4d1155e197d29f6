-- Coordinates that are least over the nodes of each direction are draft's, or lay's over the flow layer. Assumes nothing.
use Rattle.std.proofs.Common.{ℕ, suc, ◌-◌, ◌<◌, ◌≤◌, ℤ, pos, ◌≤ℤ◌, arith}
use borrow.Author.Differences.{ints}
use Rattle.walks.specs.Nodes.{Gaps}
use Rattle.walks.specs.Places.{Keeps, Least as NodeLeast, GainingCircuit}
use Rattle.walks.specs.Flows.{Tight, layer}
use Rattle.walks.proofs.Longest.{settled_is_least, circuit_refutes}
use Rattle.walks.proofs.Duality.{tight_is_greatest}
use Rattle.walks.proofs.Greatest.{layer_keeps, layer_tight}
use Rattle.segments.specs.Shapes.{Shape, Lawful}
use Rattle.segments.specs.Segments.{Named}
use Rattle.drawings.specs.Arcs.{Arcs, Arc, BetweenNames, Circle}
use Rattle.drawings.specs.Drawings.{Obeys}
use Rattle.drawings.specs.Flows.{OnArcs, FlowOver, GreatestAlong, Flow, Coordinates, drawn, Draft, Lay}
use Rattle.drawings.specs.Graphs.{graph, cells}
use Rattle.drawings.proofs.Nodes.{each_point, graph_opposed, obeys_keeps, keeps_obeys, on_arcs_nodes}
use Rattle.drawings.proofs.Greatest.{nodes_greatest, settled_tells}
use Rattle.drawings.proofs.Reaching.{circuit_path}
use Rattle.drawings.proofs.Coordinates.{layers, exact_keeps, tight_exact, rounds_enough}

-- ---- over any graphs of the two directions
module _ (s : Shape) (G : ℕ → Gaps) (c : Coordinates) (least : (dir : ℕ) → dir ≤ 1 → NodeLeast s.points (G dir) (λ i. pos (c dir (suc i)))) where
  pub nowhere_greater : (e : Coordinates) → ((dir : ℕ) → dir ≤ 1 → Keeps s.points (G dir) (λ i. pos (e dir (suc i)))) → (dir a : ℕ) → Named s dir a → c dir a ≤ e dir a
  nowhere_greater e keeps dir a n = each_point s (λ a. c dir a ≤ e dir a) at a n.1
    where
      under : (m r : ℕ) → pos m ≤ℤ pos r → m ≤ r
      under m r h = omega (arith, ints)

      at : (i : ℕ) → i < s.points → c dir (suc i) ≤ e dir (suc i)
      at i h = under _ _ ((least dir n.0).least (λ i. pos (e dir (suc i))) (keeps dir n.0) (λ v l. omega (arith, ints)) i h)

-- ---- draft: over the arcs
pub least_draft : (s : Shape) (gap : Arcs) → BetweenNames s (Arc gap) → (c : Coordinates) → ((dir : ℕ) → dir ≤ 1 → NodeLeast s.points (graph gap dir) (λ i. pos (c dir (suc i)))) → Draft s gap c
least_draft s gap between c least =
    record {
      holds = keeps_obeys s gap between (drawn c) (λ dir h. (least dir h).keeps);
      least = λ e obeys. nowhere_greater s (graph gap) c least e (λ dir h. obeys_keeps s.points gap (drawn e) obeys dir);
    }

-- arcs without a circle have no circuit
pub clear_no_circuit : (s : Shape) (gap : Arcs) → ¬ Circle (Arc gap) → (dir : ℕ) → dir ≤ 1 → ¬ GainingCircuit s.points (graph gap dir)
clear_no_circuit s gap clear dir h k = let p = circuit_path gap dir s.points k in clear (dir, p.0, h, p.1)

-- ---- lay: over the flow layer
pub least_lay : (s : Shape) (gap : Arcs) → BetweenNames s (Arc gap) → (f : Flow) → ((dir : ℕ) → dir ≤ 1 → OnArcs s gap dir (f dir)) → (c : Coordinates) → ((dir : ℕ) → dir ≤ 1 → NodeLeast s.points (layers gap f dir) (λ i. pos (c dir (suc i)))) → Lay s gap f c
least_lay s gap between f on c least =
    record { holds = (obeys, tight_exact s gap f on c obeys tight); least = λ e p. nowhere_greater s (layers gap f) c least e (exact_keeps s gap f e p.0 p.1) }
  where
    obeys : Obeys gap (drawn c)
    obeys = keeps_obeys s gap between (drawn c) (λ dir h. layer_keeps s.points (graph gap dir) (cells (f dir)) _ (least dir h).keeps)

    tight : (dir : ℕ) → dir ≤ 1 → Tight s.points (graph gap dir) (cells (f dir)) (λ i. pos (c dir (suc i)))
    tight dir h = layer_tight s.points (graph gap dir) (cells (f dir)) _ (graph_opposed s.points gap dir) (on_arcs_nodes s gap dir (f dir) (on dir h)) (least dir h).keeps

module _ (s : Shape) (L : Lawful s) (gap : Arcs) (between : BetweenNames s (Arc gap)) (dir : ℕ) (hd : dir ≤ 1) (f : ℕ → ℕ → ℕ) (flow : FlowOver s gap dir f) where
  -- coordinates over the layer show that the flow is greatest
  pub least_greatest : (x : ℕ → ℤ) → Keeps s.points (layer (graph gap dir) (cells f)) x → GreatestAlong s gap dir f
  least_greatest x keeps =
      let on = on_arcs_nodes s gap dir f flow.on_arcs in
      nodes_greatest s L gap between dir hd f flow
      (tight_is_greatest s.points (graph gap dir) (cells f) x (layer_keeps s.points (graph gap dir) (cells f) x keeps) (layer_tight s.points (graph gap dir) (cells f) x (graph_opposed s.points gap dir) on keeps))

  -- and a circuit of the layer shows that it is not
  pub circuit_not_greatest : GainingCircuit s.points (layer (graph gap dir) (cells f)) → ¬ GreatestAlong s gap dir f
  circuit_not_greatest k best =
      let n = s.points in
      let G = layer (graph gap dir) (cells f) in
      let settled = (settled_tells s L gap between dir hd f flow (n - 1) (rounds_enough s L)).1 best in
      circuit_refutes n G _ (settled_is_least n G (n - 1) settled).keeps k
