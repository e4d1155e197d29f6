-- How large cells, coordinates and totals become. Assumes nothing.
use Rattle.std.proofs.Common.{◌≡◌, ℕ, zero, suc, ◌+◌, ◌-◌, ◌*◌, ◌<◌, ◌≤◌, Bool, true, false, cond, eqb, ltb, ℤ, pos, negsuc, ◌+ℤ◌, ◌-ℤ◌, ◌*ℤ◌, nat_abs, ◌≤ℤ◌, sym, refl, ap, ◌∙◌, subst, ap₂, inl, inr, mul-le-mul_left, mul-suc, arith}
use native.Mathlib.Decide.{ℕ_discrete}
use borrow.Author.Differences.{ints}
use Rattle.walks.specs.Nodes.{Gaps}
use Rattle.walks.specs.Sums.{sumZ}
use Rattle.walks.specs.Places.{EveryGap, place as node_place}
use Rattle.walks.proofs.Folds.{sumZ_le, sumZ_zero}
use Rattle.walks.proofs.Longest.{place_high}
use Rattle.walks.proofs.Ends.{place_within}
use Rattle.walks.proofs.Duality.{times_le}
use Rattle.segments.specs.Shapes.{Shape, Lawful, Point}
use Rattle.segments.specs.Segments.{last, segment, Named}
use Rattle.segments.proofs.Chains.{last_ends, segment_named}
use Rattle.drawings.specs.Arcs.{Arcs, Arc, BetweenNames, Path, IsOrReaches, Circle}
use Rattle.drawings.specs.Drawings.{Drawing, wire_length, length_along}
use Rattle.drawings.specs.Flows.{FlowOver, Flow, drawn}
use Rattle.drawings.specs.Graphs.{graph}
use Rattle.drawings.specs.Theorems.{CellsWithin, DraftWithin, LayWithin, TotalWithin}
use Rattle.drawings.proofs.Deciding.{dec_or}
use Rattle.drawings.proofs.Climbing.{climbs_no_circle, obeys_climbs}
use Rattle.drawings.proofs.Nodes.{each_pair, node_point, as_gap_some, layer_gap}
use Rattle.drawings.proofs.Reaching.{path?, step_reaches}
use Rattle.drawings.proofs.Totals.{length_is_span}
use Rattle.drawings.proofs.Coordinates.{places, rounds, layers, clear_draft, draft_is_one, greatest_lay, lay_is_one}

-- ---- sums of terms that are bounded
sum_small : (m n : ℕ) (f : ℕ → ℤ) → ((i : ℕ) → i < n → f i ≤ℤ pos m) → sumZ n f ≤ℤ pos (m * n)
sum_small m zero f h = omega (arith, ints)
sum_small m (suc n) f h =
    let a = sum_small m n f (λ i l. h i (omega arith)) in
    let b = h n (omega arith) in
    let e : m * suc n ≡ m * n + m = mul-suc m n in
    omega (arith, ints)

-- where one term is 0 or less
sum_less_one : (m n : ℕ) (f : ℕ → ℤ) → ((i : ℕ) → i < n → f i ≤ℤ pos m) → (z : ℕ) → z < n → f z ≤ℤ pos 0 → sumZ n f ≤ℤ pos (m * (n - 1))
sum_less_one m zero f h z l q = absurd (omega arith)
sum_less_one m (suc n) f h z l q =
    let e : suc n - 1 ≡ n = omega arith in
    subst (λ (t : ℕ). sumZ (suc n) f ≤ℤ pos (m * t)) (sym e)
    (elim (ℕ_discrete z n) [
      | yes d ↦ (
          let a = sum_small m n f (λ i l. h i (omega arith)) in
          let b : f n ≤ℤ pos 0 = subst (λ (t : ℕ). f t ≤ℤ pos 0) d q in
          omega (arith, ints))
      | no d ↦ (
          let a = sum_less_one m n f (λ i l. h i (omega arith)) z (omega arith) q in
          let b = h n (omega arith) in
          let k : m * n ≡ m * (n - 1) + m = (let t : n ≡ suc (n - 1) = omega arith in ap (λ (t : ℕ). m * t) t ∙ mul-suc m (n - 1)) in
          omega (arith, ints))
    ])

sum_above : (n : ℕ) (f : ℕ → ℤ) → ((i : ℕ) → i < n → pos 0 ≤ℤ f i) → pos 0 ≤ℤ sumZ n f
sum_above n f h = subst (λ (t : ℤ). t ≤ℤ sumZ n f) (sumZ_zero n) (sumZ_le n (λ _. pos 0) f h)

-- one term of a sum of terms from 0 up
term_below : (n : ℕ) (f : ℕ → ℤ) → ((i : ℕ) → i < n → pos 0 ≤ℤ f i) → (i : ℕ) → i < n → f i ≤ℤ sumZ n f
term_below zero f h i l = absurd (omega arith)
term_below (suc n) f h i l =
    let a = sum_above n f (λ i l. h i (omega arith)) in
    let b = h n (omega arith) in
    elim (ℕ_discrete i n) [
      | yes e ↦ subst (λ (t : ℕ). f t ≤ℤ sumZ (suc n) f) (sym e) (omega (arith, ints))
      | no d ↦ (let c = term_below n f (λ i l. h i (omega arith)) i (omega arith) in omega (arith, ints))
    ]

-- ---- the wires of one direction: at most one fewer than there are points
length_within : (s : Shape) → Lawful s → (c : Drawing) (m dir : ℕ) → ((v : ℕ) → Point s v → wire_length s c dir v ≤ℤ pos m) → length_along s c dir ≤ℤ pos (m * (s.points - 1))
length_within s L c m dir h =
    let low = L.some in
    let z = last s dir 1 in
    let r = last_ends s L dir 1 (omega arith, low) in
    let p = r.point in
    let e : suc (z - 1) ≡ z = omega (arith, p.0) in
    sum_less_one m s.points (λ i. wire_length s c dir (suc i)) (λ i l. h (suc i) (node_point s i l)) (z - 1) (omega (arith, p.0, p.1))
    (subst (λ (t : ℕ). wire_length s c dir t ≤ℤ pos 0) (sym e) (none (s.next dir z) _ r.beyond))
  where
    none : (w : ℕ) (x : ℤ) → w ≡ 0 → cond (eqb w 0) (pos 0) x ≤ℤ pos 0
    none w x e = rw e (omega (arith, ints))

-- ---- cells: the cut between what leads to a, at 0, and the rest, at 1
module _ (s : Shape) (L : Lawful s) (gap : Arcs) (between : BetweenNames s (Arc gap)) (clear : ¬ Circle (Arc gap)) (dir : ℕ) (hd : dir ≤ 1) (f : ℕ → ℕ → ℕ) (flow : FlowOver s gap dir f) (a : ℕ) where
  leads? : (v : ℕ) → Dec (IsOrReaches (Arc gap dir) v a)
  leads? v = dec_or (ℕ_discrete v a) (path? s gap between dir v a)

  side : {P : Type 0} → Dec P → ℤ
  side (yes p) = pos 0
  side (no n) = pos 1

  side_yes : {P : Type 0} (d : Dec P) → P → side d ≡ pos 0
  unfolding side
  side_yes (yes p) q = refl
  side_yes (no n) q = absurd (n q)

  side_no : {P : Type 0} (d : Dec P) → ¬ P → side d ≡ pos 1
  unfolding side
  side_no (yes p) q = absurd (q p)
  side_no (no n) q = refl

  side_within : {P : Type 0} (d : Dec P) → (pos 0 ≤ℤ side d) × (side d ≤ℤ pos 1)
  unfolding side
  side_within (yes p) = (omega (arith, ints), omega (arith, ints))
  side_within (no n) = (omega (arith, ints), omega (arith, ints))

  side_rises : {P Q : Type 0} (d : Dec P) (e : Dec Q) → (Q → P) → side d ≤ℤ side e
  unfolding side
  side_rises (yes p) e h = (side_within e).0
  side_rises (no n) (yes q) h = absurd (n (h q))
  side_rises (no n) (no m) h = omega (arith, ints)

  abbrev cut : Drawing
  cut d v = side (leads? v)

  cut_length : length_along s cut dir ≤ℤ pos (1 * (s.points - 1))
  cut_length = length_within s L cut 1 dir (λ v p. short (eqb (s.next dir v) 0) _ _ (side_within (leads? (segment s dir (s.next dir v)))).1 (side_within (leads? (segment s dir v))).0)
    where
      short : (t : Bool) (x y : ℤ) → x ≤ℤ pos 1 → pos 0 ≤ℤ y → cond t (pos 0) (x -ℤ y) ≤ℤ pos 1
      short true x y h k = omega (arith, ints)
      short false x y h k = omega (arith, ints)

  -- arcs do not fall over the cut
  climbs : (x y : ℕ) → Arc gap dir x y → side (leads? x) ≤ℤ side (leads? y)
  climbs x y r = side_rises (leads? x) (leads? y) (λ q. inr (step_reaches s gap between dir r q))

  arc_at : (x y : ℕ) → Point s x → Point s y → 0 < f x y → Arc gap dir x y
  arc_at x y px py h = elim (ℕ_discrete (gap dir x y) 0) [ yes e ↦ absurd (omega (arith, flow.on_arcs x y px py e)) | no d ↦ omega arith ]

  term : (i j : ℕ) → i < s.points → j < s.points → pos 0 ≤ℤ (pos (f (suc i) (suc j)) *ℤ (side (leads? (suc j)) -ℤ side (leads? (suc i))))
  term i j hi hj =
      subst (λ (t : ℤ). t ≤ℤ (pos (f (suc i) (suc j)) *ℤ (side (leads? (suc j)) -ℤ side (leads? (suc i))))) (times_zero (f (suc i) (suc j)))
      (times_le (f (suc i) (suc j)) (pos 0) (side (leads? (suc j)) -ℤ side (leads? (suc i))) (λ h. less _ _ (climbs (suc i) (suc j) (arc_at (suc i) (suc j) (node_point s i hi) (node_point s j hj) h))))
    where
      times_zero : (k : ℕ) → pos k *ℤ pos 0 ≡ pos 0
      times_zero k = omega (arith, ints)

      less : (x y : ℤ) → x ≤ℤ y → pos 0 ≤ℤ (y -ℤ x)
      less x y h = omega (arith, ints)

  -- no circle: an arc from a leads to what does not lead to a
  cell_at : (i j : ℕ) → i < s.points → j < s.points → suc i ≡ a → 0 < f (suc i) (suc j) → f (suc i) (suc j) ≤ s.points - 1
  cell_at i j hi hj e h =
      let r : Arc gap dir (suc i) (suc j) = arc_at (suc i) (suc j) (node_point s i hi) (node_point s j hj) h in
      let zi = side_yes (leads? (suc i)) (inl e) in
      let zj = side_no (leads? (suc j)) (λ q. clear (dir, suc i, hd, subst (λ (t : ℕ). Path (Arc gap dir) (suc i) t) (sym e) (step_reaches s gap between dir r q))) in
      let line = term_below s.points (λ j. pos (f (suc i) (suc j)) *ℤ (side (leads? (suc j)) -ℤ side (leads? (suc i)))) (λ j hj. term i j hi hj) j hj in
      let all = term_below s.points (λ i. sumZ s.points (λ j. pos (f (suc i) (suc j)) *ℤ (side (leads? (suc j)) -ℤ side (leads? (suc i))))) (λ i hi. sum_above s.points _ (λ j hj. term i j hi hj)) i hi in
      let here : pos (f (suc i) (suc j)) *ℤ (side (leads? (suc j)) -ℤ side (leads? (suc i))) ≡ pos (f (suc i) (suc j)) = ap₂ (λ x y. pos (f (suc i) (suc j)) *ℤ (x -ℤ y)) zj zi ∙ once (f (suc i) (suc j)) in
      joined _ _ _ _ _ _ here line all (length_is_span s L dir hd gap between f flow cut) cut_length
    where
      once : (k : ℕ) → pos k *ℤ (pos 1 -ℤ pos 0) ≡ pos k
      once k = omega (arith, ints)

      joined : (c r l x : ℤ) (k n : ℕ) → c ≡ pos k → c ≤ℤ r → r ≤ℤ l → x ≡ l → x ≤ℤ pos (1 * n) → k ≤ n
      joined c r l x k n p q t u v = omega (arith, ints)

pub cells_within : (n m : ℕ) → n - 1 ≤ m → CellsWithin n m
cells_within n m h s L e gap between clear dir hd f flow = each_pair s (λ a b. f a b ≤ m) at
  where
    at : (i j : ℕ) → i < s.points → j < s.points → f (suc i) (suc j) ≤ m
    at i j hi hj =
        elim (ℕ_discrete (f (suc i) (suc j)) 0) [
          | yes z ↦ omega arith
          | no d ↦ omega (arith, cell_at s L gap between clear dir hd f flow (suc i) i j hi hj refl (omega arith))
        ]

-- ---- coordinates
place_small : (n : ℕ) (gap : Gaps) (g : ℕ) → EveryGap n gap (λ z. z ≤ℤ pos g) → (k v : ℕ) → v < n → nat_abs (node_place n gap k v) ≤ g * k
place_small n gap g small k v h = by _ _ (place_high n gap k v) (place_within g n gap small k v h)
  where
    by : (z : ℤ) (m : ℕ) → pos 0 ≤ℤ z → z ≤ℤ pos m → nat_abs z ≤ m
    by (pos x) m p q = omega (arith, ints)
    by (negsuc x) m p q = absurd (omega (arith, ints))

module _ (s : Shape) (g : ℕ) (gap : Arcs) (small : (dir a b : ℕ) → gap dir a b ≤ g) where
  graph_small : (dir : ℕ) → EveryGap s.points (graph gap dir) (λ z. z ≤ℤ pos g)
  graph_small dir i j z hi hj e =
      let r = (as_gap_some (gap dir (suc i) (suc j)) z e).1 in
      let l = small dir (suc i) (suc j) in
      omega (arith, ints)

  layer_small : (f : Flow) (dir : ℕ) → EveryGap s.points (layers gap f dir) (λ z. z ≤ℤ pos g)
  layer_small f dir i j z hi hj e =
      elim (layer_gap (gap dir (suc i) (suc j)) (gap dir (suc j) (suc i)) (ltb 0 (f dir (suc j) (suc i))) z e) [
        | inl r ↦ (
            let q = r.1 in
            let l = small dir (suc i) (suc j) in
            omega (arith, ints))
        | inr r ↦ (let q = r.1 in omega (arith, ints))
      ]

  places_small : (G : ℕ → Gaps) → ((dir : ℕ) → EveryGap s.points (G dir) (λ z. z ≤ℤ pos g)) → (dir a : ℕ) → Named s dir a → places s G (rounds s) dir a ≤ g * (s.points - 1)
  places_small G low dir a n = place_small s.points (G dir) g (low dir) (s.points - 1) (a - 1) (let p = n.1 in omega (arith, p.0, p.1))

-- k is at least one fewer than there are points
scaled : (g n m k : ℕ) → m ≡ n → n - 1 ≤ k → g * (m - 1) ≤ g * k
scaled g n m k e l = mul-le-mul_left g (let h : m - 1 ≤ k = omega arith in h)

under : (c p m h : ℕ) → c ≡ p → p ≤ m → m ≤ h → c ≤ h
under c p m h q r t = omega arith

pub draft_within : (g n k : ℕ) → n - 1 ≤ k → DraftWithin g n (g * k)
draft_within g n k l s L e gap between small c draft dir a name =
    let clear = climbs_no_circle (Arc gap) (drawn c) (obeys_climbs gap (drawn c) draft.holds) in
    let same = draft_is_one s gap c (places s (graph gap) (rounds s)) draft (clear_draft s L gap between clear) dir a name in
    under _ _ _ _ same (places_small s g gap small (graph gap) (graph_small s g gap small) dir a name) (scaled g n s.points k e l)

pub lay_within : (g n k : ℕ) → n - 1 ≤ k → LayWithin g n (g * k)
lay_within g n k l s L e gap between small f best c lay dir a name =
    let same = lay_is_one s gap f c (places s (layers gap f) (rounds s)) lay (greatest_lay s L gap between f best) dir a name in
    under _ _ _ _ same (places_small s g gap small (layers gap f) (layer_small s g gap small f) dir a name) (scaled g n s.points k e l)

-- ---- totals
pub total_within : (h n k : ℕ) → n - 1 ≤ k → TotalWithin h n (2 * (h * k))
total_within h n k l s L e c low = sums _ _ _ _ (along 0 (omega arith)) (along 1 (omega arith)) (scaled h n s.points k e l)
  where
    wire : (dir v : ℕ) → dir ≤ 1 → Point s v → Dec (s.next dir v ≡ 0) → wire_length s (drawn c) dir v ≤ℤ pos h
    wire dir v hd p (yes z) = rw z (omega (arith, ints))
    wire dir v hd p (no d) = short (eqb (s.next dir v) 0) _ _ (low dir _ (segment_named s L dir (s.next dir v) hd (L.to_points dir v d)))
      where
        short : (b : Bool) (x y : ℕ) → x ≤ h → cond b (pos 0) (pos x -ℤ pos y) ≤ℤ pos h
        short true x y k = omega (arith, ints)
        short false x y k = omega (arith, ints)

    along : (dir : ℕ) → dir ≤ 1 → length_along s (drawn c) dir ≤ℤ pos (h * (s.points - 1))
    along dir hd = length_within s L (drawn c) h dir (λ v p. wire dir v hd p (ℕ_discrete (s.next dir v) 0))

    sums : (x y : ℤ) (m t : ℕ) → x ≤ℤ pos m → y ≤ℤ pos m → m ≤ t → (x +ℤ y) ≤ℤ pos (2 * t)
    sums x y m t p q r = omega (arith, ints)
