-- Exact coordinates are as long as the flow's sum, and every drawing that obeys is at least that long. Assumes nothing.
use Rattle.std.proofs.Common.{◌≡◌, ℕ, suc, ◌+◌, ◌≤◌, ℤ, pos, ◌+ℤ◌, ◌≤ℤ◌, ap₂, arith}
use borrow.Author.Differences.{ints}
use Rattle.walks.proofs.Duality.{volume_le_span, span_le_volume, tight_is_greatest}
use Rattle.segments.specs.Shapes.{Shape, Lawful}
use Rattle.drawings.specs.Arcs.{Arcs, Arc, BetweenNames}
use Rattle.drawings.specs.Drawings.{Drawing, Obeys, length_along, total}
use Rattle.drawings.specs.Flows.{FlowOver, flow_sum, Flow, Flows, Greatest, Coordinates, drawn, Exact}
use Rattle.drawings.specs.Graphs.{graph, cells}
use Rattle.drawings.specs.Theorems.{LayIsShortest, LayTotalIsFlow, LayShowsGreatest, WithoutLayNotGreatest}
use Rattle.drawings.proofs.Nodes.{obeys_keeps, on_arcs_nodes, volume_is_sum}
use Rattle.drawings.proofs.Totals.{length_is_span}
use Rattle.drawings.proofs.Greatest.{nodes_greatest}
use Rattle.drawings.proofs.Coordinates.{exact_tight, lay_exists}

module _ (s : Shape) (L : Lawful s) (gap : Arcs) (between : BetweenNames s (Arc gap)) where
  -- no flow has a larger sum than the wires of a drawing that obeys are long
  pub flow_below_length : (dir : ℕ) → dir ≤ 1 → (f : ℕ → ℕ → ℕ) → FlowOver s gap dir f → (e : Drawing) → Obeys gap e → pos (flow_sum s gap dir f) ≤ℤ length_along s e dir
  flow_below_length dir h f flow e obeys =
      under _ _ _ _ (volume_le_span s.points (graph gap dir) (cells f) (λ i. e dir (suc i)) (on_arcs_nodes s gap dir f flow.on_arcs) (obeys_keeps s.points gap e obeys dir)) (volume_is_sum s gap dir f) (length_is_span s L dir h gap between f flow e)
    where
      under : (v p n l : ℤ) → v ≤ℤ p → v ≡ n → l ≡ p → n ≤ℤ l
      under v p n l h a b = omega (arith, ints)

  module _ (f : Flow) (flows : Flows s gap f) (c : Coordinates) (exact : Exact s gap f c) where
    -- exact coordinates are no longer than the flow's sum
    pub exact_below_flow : (dir : ℕ) → dir ≤ 1 → length_along s (drawn c) dir ≤ℤ pos (flow_sum s gap dir (f dir))
    exact_below_flow dir h =
        under _ _ _ _ (span_le_volume s.points (graph gap dir) (cells (f dir)) (λ i. pos (c dir (suc i))) (exact_tight s gap f c exact dir h)) (volume_is_sum s gap dir (f dir)) (length_is_span s L dir h gap between (f dir) (flows dir h) (drawn c))
      where
        under : (p v n l : ℤ) → p ≤ℤ v → v ≡ n → l ≡ p → l ≤ℤ n
        under p v n l h a b = omega (arith, ints)

    pub exact_is_shortest : (e : Drawing) → Obeys gap e → total s (drawn c) ≤ℤ total s e
    exact_is_shortest e obeys =
        sums _ _ _ _ _ _ (exact_below_flow 0 (omega arith)) (exact_below_flow 1 (omega arith))
        (flow_below_length 0 (omega arith) (f 0) (flows 0 (omega arith)) e obeys) (flow_below_length 1 (omega arith) (f 1) (flows 1 (omega arith)) e obeys)
      where
        sums : (a b x y u v : ℤ) → a ≤ℤ x → b ≤ℤ y → x ≤ℤ u → y ≤ℤ v → (a +ℤ b) ≤ℤ (u +ℤ v)
        sums a b x y u v p q r t = omega (arith, ints)

    module _ (obeys : Obeys gap (drawn c)) where
      pub exact_length : (dir : ℕ) → dir ≤ 1 → length_along s (drawn c) dir ≡ pos (flow_sum s gap dir (f dir))
      exact_length dir h = equal _ _ (exact_below_flow dir h) (flow_below_length dir h (f dir) (flows dir h) (drawn c) obeys)
        where
          equal : (x y : ℤ) → x ≤ℤ y → y ≤ℤ x → x ≡ y
          equal x y p q = omega (arith, ints)

      pub exact_total : total s (drawn c) ≡ pos (flow_sum s gap 0 (f 0) + flow_sum s gap 1 (f 1))
      exact_total = ap₂ ◌+ℤ◌ (exact_length 0 (omega arith)) (exact_length 1 (omega arith))

      pub exact_shows_greatest : Greatest s gap f
      exact_shows_greatest dir h =
          nodes_greatest s L gap between dir h (f dir) (flows dir h)
          (tight_is_greatest s.points (graph gap dir) (cells (f dir)) (λ i. pos (c dir (suc i))) (obeys_keeps s.points gap (drawn c) obeys dir) (exact_tight s gap f c exact dir h))

pub lay_is_shortest : LayIsShortest
lay_is_shortest s L gap between f best c lay e obeys = exact_is_shortest s L gap between f (λ dir h. (best dir h).flow) c lay.holds.1 e obeys

pub lay_total_is_flow : LayTotalIsFlow
lay_total_is_flow s L gap between f best c lay = exact_total s L gap between f (λ dir h. (best dir h).flow) c lay.holds.1 lay.holds.0

pub lay_shows_greatest : LayShowsGreatest
lay_shows_greatest s L gap between f flows c lay = exact_shows_greatest s L gap between f flows c lay.holds.1 lay.holds.0

pub without_lay_not_greatest : WithoutLayNotGreatest
without_lay_not_greatest s L gap between f flows none best = none (lay_exists s L gap between f best)
