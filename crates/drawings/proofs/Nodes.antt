-- Points and the nodes of a graph: arcs, cells and coordinates carried over, both ways. Assumes nothing.
use Rattle.std.proofs.Common.{◌≡◌, ℕ, zero, suc, ◌-◌, ◌*◌, ◌<◌, ◌≤◌, Bool, true, false, cond, T, ◌⊎◌, ℤ, pos, ◌+ℤ◌, ◌*ℤ◌, neg_ℤ, ◌≤ℤ◌, ◌<ℤ◌, is_some, Some, None, Option, unwrap_or, sym, refl, ap, ◌∙◌, subst, ap₂, inl, inr, arith}
use borrow.Author.Differences.{ints}
use Rattle.std.specs.Option.{option_or, option_map}
use Rattle.walks.specs.Sums.{sum}
use Rattle.walks.specs.Places.{Keeps, EveryGap}
use Rattle.walks.specs.Flows.{OnArcs as NodeOnArcs, volume, Opposed}
use Rattle.walks.proofs.Folds.{pos_sum, sumZ_same}
use Rattle.walks.proofs.Greatest.{from_zero_opposed}
use Rattle.segments.specs.Shapes.{Shape, Point}
use Rattle.drawings.specs.Arcs.{Arcs, Arc, BetweenNames}
use Rattle.drawings.specs.Drawings.{Drawing, Obeys}
use Rattle.drawings.specs.Flows.{OnArcs, flow_sum}
use Rattle.drawings.specs.Graphs.{as_gap, graph, cells}

-- ---- each point is a node and one more
pub each_point : (s : Shape) (P : ℕ → Type 0) → ((i : ℕ) → i < s.points → P (suc i)) → (a : ℕ) → Point s a → P a
each_point s P h zero p = absurd (omega (arith, p.0))
each_point s P h (suc i) p = h i (omega (arith, p.1))

pub each_pair : (s : Shape) (P : ℕ → ℕ → Type 0) → ((i j : ℕ) → i < s.points → j < s.points → P (suc i) (suc j)) → (a b : ℕ) → Point s a → Point s b → P a b
each_pair s P h a b pa pb = each_point s (λ a. P a b) (λ i hi. each_point s (P (suc i)) (λ j hj. h i j hi hj) b pb) a pa

pub node_point : (s : Shape) (i : ℕ) → i < s.points → Point s (suc i)
node_point s i h = (omega arith, omega arith)

-- ---- gaps as numbers and as options
nothing_is_no_gap : {P : Type 0} {z : ℤ} → ◌≡◌ {A = Option ℤ} None (Some z) → P
nothing_is_no_gap e = absurd (let y : ◌≡◌ {A = ℕ} 0 1 = cc in omega arith)

pub as_gap_none : (g : ℕ) → as_gap g ≡ None → g ≡ 0
as_gap_none zero e = refl
as_gap_none (suc g) e = nothing_is_no_gap (sym e)

pub as_gap_some : (g : ℕ) (z : ℤ) → as_gap g ≡ Some z → (1 ≤ g) × (pos g ≡ z)
as_gap_some zero z e = nothing_is_no_gap e
as_gap_some (suc g) z e = (omega arith, cc)

pub as_gap_there : (g : ℕ) → 1 ≤ g → as_gap g ≡ Some (pos g)
as_gap_there zero h = absurd (omega arith)
as_gap_there (suc g) h = refl

pub as_gap_worth : (g : ℕ) → unwrap_or (as_gap g) (pos 0) ≡ pos g
as_gap_worth zero = refl
as_gap_worth (suc g) = refl

pub as_gap_arc : (g : ℕ) → T (is_some (as_gap g)) → 1 ≤ g
as_gap_arc zero t = absurd t
as_gap_arc (suc g) t = omega arith

pub as_gap_is_arc : (g : ℕ) → 1 ≤ g → T (is_some (as_gap g))
as_gap_is_arc zero h = absurd (omega arith)
as_gap_is_arc (suc g) h = tt

-- a gap of the flow layer is that of an arc, or minus that of the arc back
pub layer_gap : (p q : ℕ) (u : Bool) (g : ℤ) → option_or (as_gap p) (cond u (option_map neg_ℤ (as_gap q)) None) ≡ Some g → ((1 ≤ p) × (g ≡ pos p)) ⊎ ((u ≡ true) × (g ≡ neg_ℤ (pos q)))
layer_gap (suc p) q u g e = inl (omega arith, cc)
layer_gap zero (suc q) true g e = inr (refl, cc)
layer_gap zero zero true g e = nothing_is_no_gap e
layer_gap zero q false g e = nothing_is_no_gap e

-- ---- the graph of one direction
pub graph_opposed : (n : ℕ) (gap : Arcs) (dir : ℕ) → Opposed n (graph gap dir)
graph_opposed n gap dir = from_zero_opposed n (graph gap dir) high
  where
    high : EveryGap n (graph gap dir) (λ g. pos 0 ≤ℤ g)
    high i j g hi hj e = let r = (as_gap_some (gap dir (suc i) (suc j)) g e).1 in omega (arith, ints)

pub obeys_keeps : (n : ℕ) (gap : Arcs) (c : Drawing) → Obeys gap c → (dir : ℕ) → Keeps n (graph gap dir) (λ i. c dir (suc i))
obeys_keeps n gap c obeys dir i j g hi hj e =
    let r = as_gap_some (gap dir (suc i) (suc j)) g e in
    subst (λ (t : ℤ). (c dir (suc i) +ℤ t) ≤ℤ c dir (suc j)) r.1 (obeys dir (suc i) (suc j) r.0)

pub keeps_obeys : (s : Shape) (gap : Arcs) → BetweenNames s (Arc gap) → (c : Drawing) → ((dir : ℕ) → dir ≤ 1 → Keeps s.points (graph gap dir) (λ i. c dir (suc i))) → Obeys gap c
keeps_obeys s gap between c keeps dir a b r =
    let n = between dir a b r in
    each_pair s (λ a b. Arc gap dir a b → (c dir a +ℤ pos (gap dir a b)) ≤ℤ c dir b) (λ i j hi hj t. keeps dir n.0.0 i j _ hi hj (as_gap_there _ t)) a b n.0.1 n.1.1 r

-- each arc rises in coordinates of the nodes that satisfy the gaps
pub keeps_rises : (s : Shape) (gap : Arcs) → BetweenNames s (Arc gap) → (dir : ℕ) (x : ℕ → ℤ) → Keeps s.points (graph gap dir) x → (a b : ℕ) → Arc gap dir a b → x (a - 1) <ℤ x (b - 1)
keeps_rises s gap between dir x keeps a b r =
    let n = between dir a b r in
    each_pair s (λ a b. Arc gap dir a b → x (a - 1) <ℤ x (b - 1)) at a b n.0.1 n.1.1 r
  where
    up : (u v p q : ℤ) (g : ℕ) → u ≡ p → v ≡ q → 1 ≤ g → (p +ℤ pos g) ≤ℤ q → u <ℤ v
    up u v p q g e f h k = omega (arith, ints)

    at : (i j : ℕ) → i < s.points → j < s.points → Arc gap dir (suc i) (suc j) → x (suc i - 1) <ℤ x (suc j - 1)
    at i j hi hj r = up _ _ _ _ _ (ap x (let e : suc i - 1 ≡ i = omega arith in e)) (ap x (let e : suc j - 1 ≡ j = omega arith in e)) r (keeps i j _ hi hj (as_gap_there _ r))

pub on_arcs_nodes : (s : Shape) (gap : Arcs) (dir : ℕ) (f : ℕ → ℕ → ℕ) → OnArcs s gap dir f → NodeOnArcs s.points (graph gap dir) (cells f)
on_arcs_nodes s gap dir f on i j hi hj e = on (suc i) (suc j) (node_point s i hi) (node_point s j hj) (as_gap_none _ e)

pub volume_is_sum : (s : Shape) (gap : Arcs) (dir : ℕ) (f : ℕ → ℕ → ℕ) → volume s.points (graph gap dir) (cells f) ≡ pos (flow_sum s gap dir f)
volume_is_sum s gap dir f =
    sym (pos_sum s.points (λ i. sum s.points (λ j. f (suc i) (suc j) * gap dir (suc i) (suc j)))
    ∙ sumZ_same s.points _ _ (λ i hi.
    pos_sum s.points (λ j. f (suc i) (suc j) * gap dir (suc i) (suc j))
    ∙ sumZ_same s.points _ _ (λ j hj. ap (λ z. pos (f (suc i) (suc j)) *ℤ z) (sym (as_gap_worth (gap dir (suc i) (suc j)))))))

-- ---- cells over the nodes, as cells over the points
abbrev pub lifted : (ℕ → ℕ → ℕ) → ℕ → ℕ → ℕ
lifted G a b = G (a - 1) (b - 1)

pub lifted_is : (G : ℕ → ℕ → ℕ) (i j : ℕ) → lifted G (suc i) (suc j) ≡ G i j
lifted_is G i j = ap₂ G (omega arith) (omega arith)
