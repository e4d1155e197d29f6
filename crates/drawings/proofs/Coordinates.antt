-- Settled places are the least coordinates: draft's over the arcs, lay's over the flow layer. Assumes nothing.
use Rattle.std.proofs.Common.{◌≡◌, ℕ, suc, ◌+◌, ◌-◌, ◌<◌, ◌≤◌, ltb, ◌≢◌, ◌↔◌, ℤ, pos, negsuc, ◌+ℤ◌, nat_abs, ◌≤ℤ◌, refl, ap, ◌∙◌, subst, inl, inr, arith}
use native.Mathlib.Decide.{ℕ_discrete}
use borrow.Author.Differences.{ints}
use Rattle.std.proofs.lemmas.Bool.{ltb-true}
use Rattle.walks.specs.Nodes.{Gaps}
use Rattle.walks.specs.Places.{Keeps, Settled, Least as NodeLeast, place as node_place}
use Rattle.walks.specs.Flows.{Tight, layer}
use Rattle.walks.proofs.Longest.{settled_is_least}
use Rattle.walks.proofs.Greatest.{layer_keeps, layer_tight}
use Rattle.segments.specs.Shapes.{Shape, Lawful}
use Rattle.segments.specs.Segments.{Named}
use Rattle.drawings.specs.Arcs.{Arcs, Arc, BetweenNames, Path, Circle}
use Rattle.drawings.specs.Drawings.{Obeys}
use Rattle.drawings.specs.Flows.{OnArcs, Flow, Greatest, Coordinates, drawn, Exact, Least, Draft, Lay}
use Rattle.drawings.specs.Graphs.{graph, cells}
use Rattle.drawings.specs.Theorems.{LabelsTellCircles, CompleteIsDrawn, DraftExists, DraftIsOne, LayExists, LayIsOne}
use Rattle.drawings.proofs.Climbing.{path_climbs}
use Rattle.drawings.proofs.Nodes.{each_point, each_pair, node_point, as_gap_worth, layer_gap, graph_opposed, obeys_keeps, keeps_obeys, keeps_rises, on_arcs_nodes}
use Rattle.drawings.proofs.Obeying.{obeying_is_simple}
use Rattle.drawings.proofs.Reaching.{circuit_path}
use Rattle.drawings.proofs.Greatest.{settled_or_circuit_at, settled_tells}

pub whole : (z : ℤ) → pos 0 ≤ℤ z → pos (nat_abs z) ≡ z
whole (pos n) h = refl
whole (negsuc n) h = absurd (omega (arith, ints))

-- the places after k rounds over the graph of each direction, as coordinates
abbrev pub places : Shape → (ℕ → Gaps) → (ℕ → ℕ) → Coordinates
places s G k dir a = nat_abs (node_place s.points (G dir) (k dir) (a - 1))

-- ---- settled places
module _ (s : Shape) (G : ℕ → Gaps) (k : ℕ → ℕ) (settled : (dir : ℕ) → dir ≤ 1 → Settled s.points (G dir) (k dir)) where
  least_at : (dir : ℕ) → dir ≤ 1 → NodeLeast s.points (G dir) (node_place s.points (G dir) (k dir))
  least_at dir h = settled_is_least s.points (G dir) (k dir) (settled dir h)

  pub place_value : (dir i : ℕ) → dir ≤ 1 → i < s.points → pos (places s G k dir (suc i)) ≡ node_place s.points (G dir) (k dir) i
  place_value dir i h l =
      let e : suc i - 1 ≡ i = omega arith in
      whole _ ((least_at dir h).from_zero (suc i - 1) (omega arith)) ∙ ap (node_place s.points (G dir) (k dir)) e

  pub places_keep : (dir : ℕ) → dir ≤ 1 → Keeps s.points (G dir) (λ i. pos (places s G k dir (suc i)))
  places_keep dir h i j g hi hj e = moved _ _ _ _ _ ((least_at dir h).keeps i j g hi hj e) (place_value dir i h hi) (place_value dir j h hj)
    where
      moved : (g x y u v : ℤ) → (x +ℤ g) ≤ℤ y → u ≡ x → v ≡ y → (u +ℤ g) ≤ℤ v
      moved g x y u v p q r = omega (arith, ints)

  pub places_least : (e : Coordinates) → ((dir : ℕ) → dir ≤ 1 → Keeps s.points (G dir) (λ i. pos (e dir (suc i)))) → (dir a : ℕ) → Named s dir a → places s G k dir a ≤ e dir a
  places_least e keeps dir a n = each_point s (λ a. places s G k dir a ≤ e dir a) at a n.1
    where
      under : (m r : ℕ) (x : ℤ) → pos m ≡ x → x ≤ℤ pos r → m ≤ r
      under m r x p q = omega (arith, ints)

      at : (i : ℕ) → i < s.points → places s G k dir (suc i) ≤ e dir (suc i)
      at i h =
          under _ _ _ (place_value dir i n.0 h)
          ((least_at dir n.0).least (λ i. pos (e dir (suc i))) (keeps dir n.0) (λ v l. omega (arith, ints)) i h)

-- ---- draft: over the arcs
pub settled_draft : (s : Shape) (gap : Arcs) → BetweenNames s (Arc gap) → (k : ℕ → ℕ) → ((dir : ℕ) → dir ≤ 1 → Settled s.points (graph gap dir) (k dir)) → Draft s gap (places s (graph gap) k)
settled_draft s gap between k settled =
    record {
      holds = keeps_obeys s gap between (drawn (places s (graph gap) k)) (places_keep s (graph gap) k settled);
      least = λ e obeys. places_least s (graph gap) k settled e (λ dir h. obeys_keeps s.points gap (drawn e) obeys dir);
    }

-- the places of a direction settle exactly if no path of it leads back to its beginning
pub settles_without_circle : (s : Shape) (gap : Arcs) → BetweenNames s (Arc gap) → (dir k : ℕ) → s.points ≤ k + 1 → Settled s.points (graph gap dir) k ↔ (¬ ((a : ℕ) × Path (Arc gap dir) a a))
settles_without_circle s gap between dir k late = (
  λ settled p.
      let x = node_place s.points (graph gap dir) k in
      let h = path_climbs (Arc gap dir) (λ a. x (a - 1)) (keeps_rises s gap between dir x (settled_is_least s.points (graph gap dir) k settled).keeps) p.1 in
      omega (arith, ints),
  λ clear. elim (settled_or_circuit_at s.points (graph gap dir) k late) [ inl t ↦ t | inr c ↦ absurd (clear (circuit_path gap dir s.points c)) ],
)

pub labels_tell_circles : (n m : ℕ) → n ≤ m → LabelsTellCircles n m
labels_tell_circles n m h s L e gap between dir hd k late =
    subst (λ (j : ℕ). Settled j (graph gap dir) k ↔ (¬ ((a : ℕ) × Path (Arc gap dir) a a))) e (settles_without_circle s gap between dir k (omega arith))

-- one round fewer than there are points is enough
abbrev pub rounds : Shape → ℕ → ℕ
rounds s dir = s.points - 1

pub rounds_enough : (s : Shape) → Lawful s → s.points ≤ (s.points - 1) + 1
rounds_enough s L = omega (arith, L.some)

pub clear_draft : (s : Shape) → Lawful s → (gap : Arcs) → BetweenNames s (Arc gap) → ¬ Circle (Arc gap) → Draft s gap (places s (graph gap) (rounds s))
clear_draft s L gap between clear = settled_draft s gap between (rounds s) (λ dir h. (settles_without_circle s gap between dir (s.points - 1) (rounds_enough s L)).1 (λ p. clear (dir, p.0, h, p.1)))

pub draft_exists : DraftExists
draft_exists s L gap between clear = (places s (graph gap) (rounds s), clear_draft s L gap between clear)

pub complete_is_drawn : CompleteIsDrawn
complete_is_drawn s L gap between complete =
    let d = draft_exists s L gap between complete.no_circle in
    (d.0, d.1, obeying_is_simple s L gap complete.own complete.none_open _ d.1.holds)

-- ---- lay: over the flow layer
-- the flow layer of each direction
abbrev pub layers : Arcs → Flow → ℕ → Gaps
layers gap f dir = layer (graph gap dir) (cells (f dir))

pub exact_keeps : (s : Shape) (gap : Arcs) (f : Flow) (e : Coordinates) → Obeys gap (drawn e) → Exact s gap f e → (dir : ℕ) → dir ≤ 1 → Keeps s.points (layers gap f dir) (λ i. pos (e dir (suc i)))
exact_keeps s gap f e obeys exact dir h i j g hi hj q =
    elim (layer_gap (gap dir (suc i) (suc j)) (gap dir (suc j) (suc i)) (ltb 0 (f dir (suc j) (suc i))) g q) [
      | inl r ↦ (
          let o = obeys dir (suc i) (suc j) r.0 in
          let z = r.1 in
          omega (arith, ints))
      | inr r ↦ (
          let o = exact dir (suc j) (suc i) h (node_point s j hj) (node_point s i hi) (λ y. omega (arith, ltb-true 0 (f dir (suc j) (suc i)) r.0)) in
          let z = r.1 in
          omega (arith, ints))
    ]

pub tight_exact : (s : Shape) (gap : Arcs) (f : Flow) → ((dir : ℕ) → dir ≤ 1 → OnArcs s gap dir (f dir)) → (c : Coordinates) → Obeys gap (drawn c) → ((dir : ℕ) → dir ≤ 1 → Tight s.points (graph gap dir) (cells (f dir)) (λ i. pos (c dir (suc i)))) → Exact s gap f c
tight_exact s gap f on c obeys tight dir a b h = each_pair s (λ a b. f dir a b ≢ 0 → c dir b ≡ c dir a + gap dir a b) at a b
  where
    meet : (x y g : ℕ) (w : ℤ) → w ≡ pos g → (pos x +ℤ pos g) ≤ℤ pos y → pos y ≤ℤ (pos x +ℤ w) → y ≡ x + g
    meet x y g w p q r = omega (arith, ints)

    at : (i j : ℕ) → i < s.points → j < s.points → f dir (suc i) (suc j) ≢ 0 → c dir (suc j) ≡ c dir (suc i) + gap dir (suc i) (suc j)
    at i j hi hj d =
        let arc : Arc gap dir (suc i) (suc j) = elim (ℕ_discrete (gap dir (suc i) (suc j)) 0) [ yes z ↦ absurd (d (on dir h (suc i) (suc j) (node_point s i hi) (node_point s j hj) z)) | no z ↦ omega arith ] in
        meet _ _ _ _ (as_gap_worth (gap dir (suc i) (suc j))) (obeys dir (suc i) (suc j) arc) (tight dir h i j hi hj (omega arith))

pub exact_tight : (s : Shape) (gap : Arcs) (f : Flow) (c : Coordinates) → Exact s gap f c → (dir : ℕ) → dir ≤ 1 → Tight s.points (graph gap dir) (cells (f dir)) (λ i. pos (c dir (suc i)))
exact_tight s gap f c exact dir h i j hi hj above =
    near _ _ _ _ (as_gap_worth (gap dir (suc i) (suc j))) (exact dir (suc i) (suc j) h (node_point s i hi) (node_point s j hj) (λ z. omega arith))
  where
    near : (x y g : ℕ) (w : ℤ) → w ≡ pos g → y ≡ x + g → pos y ≤ℤ (pos x +ℤ w)
    near x y g w p q = omega (arith, ints)

pub settled_lay : (s : Shape) (gap : Arcs) → BetweenNames s (Arc gap) → (f : Flow) → ((dir : ℕ) → dir ≤ 1 → OnArcs s gap dir (f dir)) → (k : ℕ → ℕ) → ((dir : ℕ) → dir ≤ 1 → Settled s.points (layers gap f dir) (k dir)) → Lay s gap f (places s (layers gap f) k)
settled_lay s gap between f on k settled =
    record { holds = (obeys, tight_exact s gap f on c obeys tight); least = λ e p. places_least s (layers gap f) k settled e (exact_keeps s gap f e p.0 p.1) }
  where
    c : Coordinates
    c = places s (layers gap f) k

    keeps : (dir : ℕ) → dir ≤ 1 → Keeps s.points (layers gap f dir) (λ i. pos (places s (layers gap f) k dir (suc i)))
    keeps = places_keep s (layers gap f) k settled

    obeys : Obeys gap (drawn (places s (layers gap f) k))
    obeys = keeps_obeys s gap between (drawn (places s (layers gap f) k)) (λ dir h. layer_keeps s.points (graph gap dir) (cells (f dir)) _ (keeps dir h))

    tight : (dir : ℕ) → dir ≤ 1 → Tight s.points (graph gap dir) (cells (f dir)) (λ i. pos (places s (layers gap f) k dir (suc i)))
    tight dir h = layer_tight s.points (graph gap dir) (cells (f dir)) _ (graph_opposed s.points gap dir) (on_arcs_nodes s gap dir (f dir) (on dir h)) (keeps dir h)

pub greatest_lay : (s : Shape) → Lawful s → (gap : Arcs) → BetweenNames s (Arc gap) → (f : Flow) → Greatest s gap f → Lay s gap f (places s (layers gap f) (rounds s))
greatest_lay s L gap between f best =
    settled_lay s gap between f (λ dir h. (best dir h).flow.on_arcs) (rounds s) (λ dir h. (settled_tells s L gap between dir h (f dir) (best dir h).flow (s.points - 1) (rounds_enough s L)).1 (best dir h))

pub lay_exists : LayExists
lay_exists s L gap between f best = (places s (layers gap f) (rounds s), greatest_lay s L gap between f best)

-- ---- there is only one
pub least_is_one : (s : Shape) (P : Coordinates → Type 0) (c e : Coordinates) → Least s P c → Least s P e → (dir a : ℕ) → Named s dir a → c dir a ≡ e dir a
least_is_one s P c e lc le dir a n = omega (arith, lc.least e le.holds dir a n, le.least c lc.holds dir a n)

pub draft_is_one : DraftIsOne
draft_is_one s gap c e lc le dir a n = least_is_one s (λ e. Obeys gap (drawn e)) c e lc le dir a n

pub lay_is_one : LayIsOne
lay_is_one s gap f c e lc le dir a n = least_is_one s (λ e. Obeys gap (drawn e) × Exact s gap f e) c e lc le dir a n
