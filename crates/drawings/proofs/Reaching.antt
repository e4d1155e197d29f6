-- Paths of arcs as walks over the nodes, so that they are decided; pairs are one of three. Assumes nothing.
use Rattle.std.proofs.Common.{◌≡◌, ℕ, zero, suc, ◌+◌, ◌-◌, ◌<◌, ◌≤◌, Bool, true, false, T, ◌⊎◌, ◌↔◌, List, [], ◌∷◌, ◌++◌, length, sym, refl, ◌∙◌, subst, inl, inr, arith}
use native.Mathlib.Decide.{dec_le}
use Rattle.std.proofs.ByRecursion.{All-append}
use Rattle.walks.specs.Nodes.{Arc as NodeArc, Walk, origin}
use Rattle.walks.specs.Reach.{reached, Reaches as NodeReaches}
use Rattle.walks.specs.Places.{GainingCircuit}
use Rattle.walks.proofs.Pigeonhole.{distinct_few}
use Rattle.walks.proofs.Circuits.{origin_append, walk_append, long_walks_split, walks_shorten}
use Rattle.walks.proofs.Reaching.{rounds_decide_reach}
use Rattle.segments.specs.Shapes.{Shape, Point, Within}
use Rattle.segments.specs.Segments.{last}
use Rattle.segments.proofs.Lines.{rows, columns, last_point, end_stays}
use Rattle.drawings.specs.Arcs.{Arcs, Arc, BetweenNames, Path, one, more, IsOrReaches, Touch, Way, Apart, Open}
use Rattle.drawings.specs.Graphs.{graph}
use Rattle.drawings.specs.Theorems.{WaysAreNumbered, PairIsOneOfThree, WaysByReach}
use Rattle.drawings.proofs.Deciding.{dec_and, dec_by, some_point, point?, touch?}
use Rattle.drawings.proofs.Nodes.{each_pair, as_gap_arc, as_gap_is_arc}

-- ---- paths, put together
pub path_on : {R : ℕ → ℕ → Type 0} {a b c : ℕ} → Path R a b → R b c → Path R a c
path_on (one r) q = more r (one q)
path_on (more r p) q = more r (path_on p q)

pub path_join : {R : ℕ → ℕ → Type 0} {a b c : ℕ} → Path R a b → Path R b c → Path R a c
path_join (one r) q = more r q
path_join (more r p) q = more r (path_join p q)

-- ---- walks and paths
module _ (gap : Arcs) (dir : ℕ) where
  pub walk_path : (j i : ℕ) (l : List ℕ) → Walk (NodeArc (graph gap dir)) j (i ∷ l) → Path (Arc gap dir) (suc (origin i l)) (suc j)
  walk_path j i [] w = one (as_gap_arc (gap dir (suc i) (suc j)) w.0)
  walk_path j i (h ∷ l) w = path_on (walk_path i h l w.1) (as_gap_arc (gap dir (suc i) (suc j)) w.0)

  pub walk_reaches : (j : ℕ) (l : List ℕ) → Walk (NodeArc (graph gap dir)) j l → IsOrReaches (Arc gap dir) (suc (origin j l)) (suc j)
  walk_reaches j [] w = inl refl
  walk_reaches j (i ∷ l) w = inr (walk_path j i l w)

  -- a closed walk of one arc or more is a path back to its beginning
  pub circuit_path : (n : ℕ) → GainingCircuit n (graph gap dir) → (a : ℕ) × Path (Arc gap dir) a a
  circuit_path n c = go c.loop c.circuit.walk c.circuit.closed c.circuit.moves
    where
      go : (l : List ℕ) → Walk (NodeArc (graph gap dir)) c.node l → origin c.node l ≡ c.node → 0 < length l → (a : ℕ) × Path (Arc gap dir) a a
      go [] w e m = absurd (omega arith)
      go (i ∷ l) w e m = (suc c.node, subst (λ (t : ℕ). Path (Arc gap dir) (suc t) (suc c.node)) e (walk_path c.node i l w))

module _ (s : Shape) (gap : Arcs) (between : BetweenNames s (Arc gap)) (dir : ℕ) where
  node_below : (a : ℕ) → Point s a → a - 1 < s.points
  node_below a p = omega (arith, p.0, p.1)

  arc_walk : (a b : ℕ) → Arc gap dir a b → Walk (NodeArc (graph gap dir)) (b - 1) ((a - 1) ∷ [])
  arc_walk a b r =
      let n = between dir a b r in
      let ea : suc (a - 1) ≡ a = omega (arith, n.0.1.0) in
      let eb : suc (b - 1) ≡ b = omega (arith, n.1.1.0) in
      (as_gap_is_arc _ (subst (λ (t : ℕ). Arc gap dir t (suc (b - 1))) (sym ea) (subst (λ (t : ℕ). Arc gap dir a t) (sym eb) r)), tt)

  pub path_starts : {a b : ℕ} → Path (Arc gap dir) a b → Point s a
  path_starts (one r) = (between dir _ _ r).0.1
  path_starts (more r p) = (between dir _ _ r).0.1

  pub path_ends : {a b : ℕ} → Path (Arc gap dir) a b → Point s b
  path_ends (one r) = (between dir _ _ r).1.1
  path_ends (more r p) = path_ends p

  pub path_walk : {a b : ℕ} → Path (Arc gap dir) a b → NodeReaches s.points (graph gap dir) (a - 1) (b - 1)
  path_walk {a} {b} (one r) = record { way = (a - 1) ∷ []; within = (node_below a (between dir a b r).0.1, tt); walk = arc_walk a b r; from = refl }
  path_walk {a} {b} (more {b = m} r p) =
      let q = path_walk p in
      let first = (a - 1) ∷ [] in
      record {
        way = q.way ++ first;
        within = All-append (λ x. x < s.points) q.way first q.within (node_below a (between dir a m r).0.1, tt);
        walk = walk_append (NodeArc (graph gap dir)) (b - 1) q.way first q.walk (subst (λ (t : ℕ). Walk (NodeArc (graph gap dir)) t ((a - 1) ∷ [])) (sym q.from) (arc_walk a m r));
        from = origin_append (b - 1) q.way first;
      }

  pub reaches_nodes : (i j : ℕ) → IsOrReaches (Arc gap dir) (suc i) (suc j) → NodeReaches s.points (graph gap dir) i j
  reaches_nodes i j (inl e) = record { way = []; within = tt; walk = tt; from = omega arith }
  reaches_nodes i j (inr p) =
      let ei : suc i - 1 ≡ i = omega arith in
      let ej : suc j - 1 ≡ j = omega arith in
      subst (λ (t : ℕ). NodeReaches s.points (graph gap dir) t j) ei (subst (λ (t : ℕ). NodeReaches s.points (graph gap dir) (suc i - 1) t) ej (path_walk p))

  pub nodes_reach : (i j : ℕ) → NodeReaches s.points (graph gap dir) i j → IsOrReaches (Arc gap dir) (suc i) (suc j)
  nodes_reach i j r = subst (λ (t : ℕ). IsOrReaches (Arc gap dir) (suc t) (suc j)) r.from (walk_reaches gap dir j r.way r.walk)

  -- so many rounds of reach decide paths of no arc or more
  pub rounds_tell_reach : (k : ℕ) → s.points ≤ k + 1 → (i j : ℕ) → j < s.points → T (reached s.points (graph gap dir) i k j) ↔ IsOrReaches (Arc gap dir) (suc i) (suc j)
  rounds_tell_reach k late i j hj =
      let n = s.points in
      let d = rounds_decide_reach n k k (walks_shorten n n k (long_walks_split n n n (distinct_few n) (omega arith)) (omega arith)) (omega arith) k (omega arith) (graph gap dir) i j hj in
      ((λ t. nodes_reach i j (d.0 t)), λ r. d.1 (reaches_nodes i j r))

  dec_T : (t : Bool) → Dec (T t)
  dec_T true = yes tt
  dec_T false = no (λ x. x)

  pub reaches? : (a b : ℕ) → Point s a → Point s b → Dec (IsOrReaches (Arc gap dir) a b)
  reaches? = each_pair s (λ a b. Dec (IsOrReaches (Arc gap dir) a b)) (λ i j hi hj. let d = rounds_tell_reach s.points (omega arith) i j hj in dec_by d.0 d.1 (dec_T (reached s.points (graph gap dir) i s.points j)))

  first_step : {a b : ℕ} → Path (Arc gap dir) a b → (u : ℕ) × Arc gap dir a u × IsOrReaches (Arc gap dir) u b
  first_step {a} {b} (one r) = (b, r, inl refl)
  first_step (more {b = m} r p) = (m, r, inr p)

  pub step_reaches : {a u b : ℕ} → Arc gap dir a u → IsOrReaches (Arc gap dir) u b → Path (Arc gap dir) a b
  step_reaches {a} r (inl e) = one (subst (Arc gap dir a) e r)
  step_reaches r (inr p) = more r p

  pub path? : (a b : ℕ) → Dec (Path (Arc gap dir) a b)
  path? a b =
      dec_by (λ t. step_reaches t.2.0 t.2.1.1) (λ p. let f = first_step p in (f.0, (between dir _ _ f.1).1.1, (f.1, (path_ends p, f.2))))
      (some_point s (λ u. Arc gap dir a u × (Point s b × IsOrReaches (Arc gap dir) u b)) (λ u pu. dec_and (dec_le 1 (gap dir a u)) (with_end u pu (point? s b))))
    where
      with_end : (u : ℕ) → Point s u → Dec (Point s b) → Dec (Point s b × IsOrReaches (Arc gap dir) u b)
      with_end u pu (yes pb) = dec_and (yes pb) (reaches? u b pu pb)
      with_end u pu (no n) = no (λ t. n t.0)

-- ---- pairs
-- a way is one of four
pub four_ways : (s : Shape) (leads : ℕ → ℕ → ℕ → Type 0) (r c : ℕ) → ((dir a b : ℕ) → Dec (leads dir a b)) → Dec ((k : ℕ) × Way s leads k r c)
four_ways s leads r c lead? = go (lead? 0 _ _) (lead? 0 _ _) (lead? 1 _ _) (lead? 1 _ _)
  where
    go : Dec (Way s leads 1 r c) → Dec (Way s leads 2 r c) → Dec (Way s leads 3 r c) → Dec (Way s leads 4 r c) → Dec ((k : ℕ) × Way s leads k r c)
    go (yes w) d2 d3 d4 = yes (1, w)
    go (no n1) (yes w) d3 d4 = yes (2, w)
    go (no n1) (no n2) (yes w) d4 = yes (3, w)
    go (no n1) (no n2) (no n3) (yes w) = yes (4, w)
    go (no n1) (no n2) (no n3) (no n4) = no none
      where
        none : ¬ ((k : ℕ) × Way s leads k r c)
        none (zero, w) = w
        none (suc zero, w) = n1 w
        none (suc (suc zero), w) = n2 w
        none (suc (suc (suc zero)), w) = n3 w
        none (suc (suc (suc (suc zero))), w) = n4 w
        none (suc (suc (suc (suc (suc k)))), w) = w

way_within : (n : ℕ) → 4 ≤ n → (s : Shape) (leads : ℕ → ℕ → ℕ → Type 0) (k r c : ℕ) → Way s leads k r c → Within n k
way_within n h s leads zero r c w = absurd w
way_within n h s leads (suc zero) r c w = (omega arith, omega arith)
way_within n h s leads (suc (suc zero)) r c w = (omega arith, omega arith)
way_within n h s leads (suc (suc (suc zero))) r c w = (omega arith, omega arith)
way_within n h s leads (suc (suc (suc (suc zero)))) r c w = (omega arith, omega arith)
way_within n h s leads (suc (suc (suc (suc (suc k))))) r c w = absurd w

each_way : (n : ℕ) → n ≤ 4 → (s : Shape) (k r c : ℕ) → Within n k → Way s (λ dir a b. Unit {0}) k r c
each_way n h s zero r c w = absurd (omega (arith, w.0))
each_way n h s (suc zero) r c w = tt
each_way n h s (suc (suc zero)) r c w = tt
each_way n h s (suc (suc (suc zero))) r c w = tt
each_way n h s (suc (suc (suc (suc zero)))) r c w = tt
each_way n h s (suc (suc (suc (suc (suc k))))) r c w = absurd (omega (arith, w.1))

pub ways_are_numbered : (n : ℕ) → n ≡ 4 → WaysAreNumbered n
ways_are_numbered n e = record { within = λ s gap. way_within n (omega arith) s (λ dir. Path (Arc gap dir)); each = each_way n (omega arith) }

pub pair_is_one_of_three : PairIsOneOfThree
pair_is_one_of_three s L gap between r c nr nc = go (touch? s r c) (four_ways s (λ dir. Path (Arc gap dir)) r c (path? s gap between))
  where
    go : Dec (Touch s r c) → Dec ((k : ℕ) × Way s (λ dir. Path (Arc gap dir)) k r c) → Touch s r c ⊎ (Apart s (Arc gap) r c ⊎ Open s (Arc gap) r c)
    go (yes t) w = inl t
    go (no t) (yes w) = inr (inl (t, w))
    go (no t) (no w) = inr (inr (nr, nc, t, λ a. w a.1))

-- where no way of no arc leads
past : {P : Type 0} {a b : ℕ} → ¬ (a ≡ b) → ((a ≡ b) ⊎ P) ↔ P
past n = ((λ k. elim k [ inl e ↦ absurd (n e) | inr p ↦ p ]), λ p. inr p)

-- a way of no arc is a touch
pub ways_by_reach : WaysByReach
ways_by_reach s L gap r c nr nc t zero = ((λ w. w), λ w. w)
ways_by_reach s L gap r c nr nc t (suc zero) = past (λ e. t (last s 0 r, last_point s L 0 r nr.1, end_stays s L 0 1 (rows s L) r nr.1 ∙ nr.2, e))
ways_by_reach s L gap r c nr nc t (suc (suc zero)) = past (λ e. t (r, nr.1, nr.2, sym e))
ways_by_reach s L gap r c nr nc t (suc (suc (suc zero))) = past (λ e. t (c, nc.1, sym e, nc.2))
ways_by_reach s L gap r c nr nc t (suc (suc (suc (suc zero)))) = past (λ e. t (last s 1 c, last_point s L 1 c nc.1, e, end_stays s L 1 0 (columns s L) c nc.1 ∙ nc.2))
ways_by_reach s L gap r c nr nc t (suc (suc (suc (suc (suc k))))) = ((λ w. w), λ w. w)
