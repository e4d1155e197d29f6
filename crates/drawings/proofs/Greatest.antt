-- Flows over the points and over the nodes: balance, sums and which is greatest. Assumes nothing.
use Rattle.std.proofs.Common.{◌≡◌, ℕ, suc, ◌+◌, ◌<◌, ◌≤◌, ◌⊎◌, ◌↔◌, ℤ, pos, ◌-ℤ◌, ◌*ℤ◌, ◌≤ℤ◌, ◌<ℤ◌, sym, ap, ◌∙◌, subst, inl, inr, arith}
use borrow.Author.Differences.{ints}
use Rattle.walks.specs.Nodes.{worth}
use Rattle.walks.specs.Sums.{inflow, outflow}
use Rattle.walks.specs.Places.{Settled, SettledOrCircuit}
use Rattle.walks.specs.Flows.{OnArcs as NodeOnArcs, SameBalance, volume, Greatest as NodeGreatest, layer}
use Rattle.walks.proofs.Pigeonhole.{distinct_few}
use Rattle.walks.proofs.Circuits.{long_walks_split}
use Rattle.walks.proofs.Longest.{settled_or_circuit}
use Rattle.walks.proofs.Folds.{sum_same, sumZ_same}
use Rattle.walks.proofs.Greatest.{greatest_or_better, layer_tells_greatest}
use Rattle.segments.specs.Shapes.{Shape, Lawful}
use Rattle.drawings.specs.Arcs.{Arcs, Arc, BetweenNames}
use Rattle.drawings.specs.Flows.{BalancedAt, FlowOver, flow_sum, GreatestAlong}
use Rattle.drawings.specs.Graphs.{as_gap, graph, cells}
use Rattle.drawings.specs.Theorems.{LabelsTellGreatest}
use Rattle.drawings.proofs.Nodes.{each_point, each_pair, node_point, graph_opposed, on_arcs_nodes, volume_is_sum, lifted, lifted_is}
use Rattle.drawings.proofs.Totals.{balanced_at}

-- the last round of so many nodes settles the places, or a circuit drives them
pub settled_or_circuit_at : (n : ℕ) → SettledOrCircuit n n
settled_or_circuit_at n = settled_or_circuit n n n (long_walks_split n n n (distinct_few n) (omega arith)) (omega arith)

-- what comes in and what goes out, on two sides
pub two_sided : (i o n f : ℕ) → pos i -ℤ pos o ≡ pos f -ℤ pos n → i + n ≡ o + f
two_sided i o n f e = omega (arith, ints)

pub one_sided : (i o n f : ℕ) → i + n ≡ o + f → pos i -ℤ pos o ≡ pos f -ℤ pos n
one_sided i o n f e = omega (arith, ints)

module _ (s : Shape) (L : Lawful s) (gap : Arcs) (between : BetweenNames s (Arc gap)) (dir : ℕ) (hd : dir ≤ 1) where
  -- two flows have one balance
  pub same_balance : (f g : ℕ → ℕ → ℕ) → FlowOver s gap dir f → FlowOver s gap dir g → SameBalance s.points (cells f) (cells g)
  same_balance f g ff fg i h =
      both (inflow s.points (cells f) i) (outflow s.points (cells f) i) (inflow s.points (cells g) i) (outflow s.points (cells g) i) _
      (balanced_at s L dir hd gap between f ff (suc i) (node_point s i h)) (balanced_at s L dir hd gap between g fg (suc i) (node_point s i h))
    where
      both : (i o j p : ℕ) (z : ℤ) → pos i -ℤ pos o ≡ z → pos j -ℤ pos p ≡ z → j + o ≡ i + p
      both i o j p z a b = omega (arith, ints)

  -- cells over the nodes with the balance of a flow are a flow
  pub lifted_flow : (f : ℕ → ℕ → ℕ) → FlowOver s gap dir f → (G : ℕ → ℕ → ℕ) → NodeOnArcs s.points (graph gap dir) G → SameBalance s.points (cells f) G → FlowOver s gap dir (lifted G)
  lifted_flow f flow G on same =
      record {
        balanced = λ a n. each_point s (BalancedAt s dir (lifted G)) at a n.1;
        on_arcs = each_pair s (λ a b. gap dir a b ≡ 0 → lifted G a b ≡ 0) (λ i j hi hj e. lifted_is G i j ∙ on i j hi hj (ap as_gap e));
      }
    where
      moved : (i o j p j' p' : ℕ) (z : ℤ) → pos i -ℤ pos o ≡ z → j + o ≡ i + p → j' ≡ j → p' ≡ p → pos j' -ℤ pos p' ≡ z
      moved i o j p j' p' z a b x y = omega (arith, ints)

      at : (i : ℕ) → i < s.points → BalancedAt s dir (lifted G) (suc i)
      at i h =
          moved (inflow s.points (cells f) i) (outflow s.points (cells f) i) (inflow s.points G i) (outflow s.points G i) _ _ _
          (balanced_at s L dir hd gap between f flow (suc i) (node_point s i h)) (same i h)
          (sum_same s.points _ (λ a. G a i) (λ a l. lifted_is G a i)) (sum_same s.points _ (λ b. G i b) (λ b l. lifted_is G i b))

  pub lifted_sum : (G : ℕ → ℕ → ℕ) → pos (flow_sum s gap dir (lifted G)) ≡ volume s.points (graph gap dir) G
  lifted_sum G =
      sym (volume_is_sum s gap dir (lifted G))
      ∙ sumZ_same s.points _ _ (λ i hi. sumZ_same s.points _ _ (λ j hj. ap (λ (t : ℕ). pos t *ℤ worth (graph gap dir) i j) (lifted_is G i j)))

  -- a flow is greatest over the points exactly if it is over the nodes
  pub greatest_nodes : (f : ℕ → ℕ → ℕ) → GreatestAlong s gap dir f → NodeGreatest s.points (graph gap dir) (cells f)
  greatest_nodes f best G on same =
      under _ _ _ _ (best.most (lifted G) (lifted_flow f best.flow G on same)) (lifted_sum G) (volume_is_sum s gap dir f)
    where
      under : (m k : ℕ) (x y : ℤ) → m ≤ k → pos m ≡ x → y ≡ pos k → x ≤ℤ y
      under m k x y h p q = omega (arith, ints)

  pub nodes_greatest : (f : ℕ → ℕ → ℕ) → FlowOver s gap dir f → NodeGreatest s.points (graph gap dir) (cells f) → GreatestAlong s gap dir f
  nodes_greatest f flow best =
      record {
        flow = flow;
        most = λ g other. under _ _ _ _ (best (cells g) (on_arcs_nodes s gap dir g other.on_arcs) (same_balance f g flow other)) (volume_is_sum s gap dir g) (volume_is_sum s gap dir f);
      }
    where
      under : (x y : ℤ) (m k : ℕ) → x ≤ℤ y → x ≡ pos m → y ≡ pos k → m ≤ k
      under x y m k h p q = omega (arith, ints)

  -- a flow is greatest, or there is another with a larger sum
  pub greatest_or_larger : (f : ℕ → ℕ → ℕ) → FlowOver s gap dir f → GreatestAlong s gap dir f ⊎ ((g : ℕ → ℕ → ℕ) × FlowOver s gap dir g × (flow_sum s gap dir f < flow_sum s gap dir g))
  greatest_or_larger f flow =
      elim (greatest_or_better s.points (graph gap dir) (cells f) (graph_opposed s.points gap dir) (on_arcs_nodes s gap dir f flow.on_arcs)) [
        | inl best ↦ inl (nodes_greatest f flow best)
        | inr b ↦ inr (lifted b.0, lifted_flow f flow b.0 b.1.on b.1.balanced, over _ _ _ _ b.1.more (volume_is_sum s gap dir f) (lifted_sum b.0))
      ]
    where
      over : (x y : ℤ) (m k : ℕ) → x <ℤ y → x ≡ pos m → pos k ≡ y → m < k
      over x y m k h p q = omega (arith, ints)

  -- the places of the flow layer settle exactly if the flow is greatest
  pub settled_tells : (f : ℕ → ℕ → ℕ) → FlowOver s gap dir f → (k : ℕ) → s.points ≤ k + 1 → Settled s.points (layer (graph gap dir) (cells f)) k ↔ GreatestAlong s gap dir f
  settled_tells f flow k late =
      let n = s.points in
      let t = layer_tells_greatest n n n (settled_or_circuit_at n) (omega arith) (graph gap dir) (cells f) k late (graph_opposed n gap dir) (on_arcs_nodes s gap dir f flow.on_arcs) in
      ((λ h. nodes_greatest f flow (t.0 h)), λ h. t.1 (greatest_nodes f h))

pub labels_tell_greatest : (n m : ℕ) → n ≤ m → LabelsTellGreatest n m
labels_tell_greatest n m h s L e gap between dir hd f flow k late =
    subst (λ (j : ℕ). Settled j (layer (graph gap dir) (cells f)) k ↔ GreatestAlong s gap dir f) e (settled_tells s L gap between dir hd f flow k (omega arith))
