-- The arcs of a simple drawing: where a row and a column cross they share a point, so no pair is open. Assumes nothing.
use Rattle.std.proofs.Common.{◌≡◌, ℕ, zero, suc, ◌≤◌, Bool, true, false, ◌≢◌, ◌⊎◌, ℤ, ◌≤ℤ◌, ◌<ℤ◌, sym, refl, ap, ◌∙◌, subst, inl, inr, arith}
use lib.Signed.{le_z, lt_z}
use borrow.Author.Differences.{ints}
use Rattle.segments.specs.Shapes.{Shape, Lawful, Point, steps}
use Rattle.segments.specs.Segments.{last, segment, row, column, Named}
use Rattle.segments.proofs.Chains.{before, not_none, last_is, segment_named}
use Rattle.segments.proofs.Lines.{Directions, rows, columns, last_point, wire_stays, chain_stays, own_named}
use Rattle.drawings.specs.Arcs.{Arc, one, Touch, NoneOpen}
use Rattle.drawings.specs.Drawings.{Drawing, Spot, SameSpot, place, EndOf, SimpleDrawing, Gives}
use Rattle.drawings.specs.Theorems.{ArcsOfASimpleDrawing, CrossingIsTouch}
use Rattle.drawings.proofs.Climbing.{climbs_no_circle, draws_climbs}

-- ---- what lies at z on the chain from w: a point, or a wire that covers it
abbrev Covers : Shape → Drawing → ℕ → ℕ → ℤ → Type 0
Covers s e d u z = (z ≡ place s e u d) ⊎ ((s.next d u ≢ 0) × (place s e u d ≤ℤ z) × (z ≤ℤ place s e (s.next d u) d))

pub covered : (s : Shape) → Lawful s → (e : Drawing) (d k w : ℕ) (z : ℤ) → Point s (steps s d k w) → place s e w d ≤ℤ z → z ≤ℤ place s e (steps s d k w) d → (j : ℕ) × Point s (steps s d j w) × Covers s e d (steps s d j w) z
covered s L e d zero w z p a b = (0, p, inl (omega (arith, ints)))
covered s L e d (suc k) w z p a b = go (le_z (place s e (steps s d k w) d) z) refl (λ h. covered s L e d k w z (before s L d _ p) a h)
  where
    go : (t : Bool) → le_z (place s e (steps s d k w) d) z ≡ t → (z ≤ℤ place s e (steps s d k w) d → (j : ℕ) × Point s (steps s d j w) × Covers s e d (steps s d j w) z) → (j : ℕ) × Point s (steps s d j w) × Covers s e d (steps s d j w) z
    go true q ih = (k, before s L d _ p, inr (not_none s _ p, omega (arith, ints), b))
    go false q ih = ih (omega (arith, ints))

-- a grid point by its coordinates
abbrev spot : ℤ → ℤ → Spot
spot x y zero = x
spot x y (suc k) = y

pairwise : (p q : Spot) → p 0 ≡ q 0 → p 1 ≡ q 1 → SameSpot p q
pairwise p q x y zero h = x
pairwise p q x y (suc zero) h = y
pairwise p q x y (suc (suc k)) h = absurd (omega arith)

module _ (s : Shape) (L : Lawful s) (e : Drawing) (simple : SimpleDrawing s e) where
  -- an end of a wire, at p
  end_at : (d v : ℕ) (p : Spot) → Point s v → s.next d v ≢ 0 → EndOf s e d v p → (u : ℕ) × Point s u × ((u ≡ v) ⊎ (u ≡ s.next d v)) × SameSpot p (place s e u)
  end_at d v p q h (inl z) = (v, q, inl refl, z)
  end_at d v p q h (inr z) = (s.next d v, L.to_points d v h, inr refl, z)

  stays : (d o v u : ℕ) → Directions s d o → Point s v → s.next d v ≢ 0 → (u ≡ v) ⊎ (u ≡ s.next d v) → segment s o u ≡ segment s o v
  stays d o v u D p h (inl f) = ap (segment s o) f
  stays d o v u D p h (inr f) = ap (segment s o) f ∙ wire_stays s L d o D v p h

  -- u lies on the row r and v on the column c, each where the other crosses
  meeting : (r c u v : ℕ) → Point s u → Point s v → row s u ≡ r → column s v ≡ c → place s e u 1 ≡ e 1 r → place s e v 0 ≡ e 0 c → Covers s e 0 u (e 0 c) → Covers s e 1 v (e 1 r) → Touch s r c
  meeting r c u v pu pv lu lv yu xv (inl q) (inl w) =
      (u, pu, lu, ap (column s) (simple.simple.points u v pu pv (pairwise _ _ (sym q ∙ sym xv) (yu ∙ w))) ∙ lv)
  meeting r c u v pu pv lu lv yu xv (inl q) (inr w) =
      let k = simple.simple.clear 1 v u (omega arith, pv, w.0) pu (subst (λ (t : ℤ). place s e v 1 ≤ℤ t) (sym yu) w.1, subst (λ (t : ℤ). t ≤ℤ place s e (s.next 1 v) 1) (sym yu) w.2, sym q ∙ sym xv) in
      (u, pu, lu, stays 1 0 v u (columns s L) pv w.0 k ∙ lv)
  meeting r c u v pu pv lu lv yu xv (inr q) (inl w) =
      let k = simple.simple.clear 0 u v (omega arith, pu, q.0) pv (subst (λ (t : ℤ). place s e u 0 ≤ℤ t) (sym xv) q.1, subst (λ (t : ℤ). t ≤ℤ place s e (s.next 0 u) 0) (sym xv) q.2, sym w ∙ sym yu) in
      (v, pv, stays 0 1 u v (rows s L) pu q.0 k ∙ lu, lv)
  meeting r c u v pu pv lu lv yu xv (inr q) (inr w) =
      let p = spot (e 0 c) (e 1 r) in
      let k = simple.simple.wires 0 u 1 v (omega arith, pu, q.0) (omega arith, pv, w.0) (λ z. omega (arith, z.0)) p (q.1, q.2, sym yu) (w.1, w.2, sym xv) in
      let m = end_at 0 u p pu q.0 k.0 in
      let n = end_at 1 v p pv w.0 k.1 in
      let same : m.0 ≡ n.0 = simple.simple.points m.0 n.0 m.1 n.1 (λ dir h. sym (m.3 dir h) ∙ n.3 dir h) in
      (m.0, m.1, stays 0 1 u m.0 (rows s L) pu q.0 m.2 ∙ lu, ap (column s) same ∙ stays 1 0 v n.0 (columns s L) pv w.0 n.2 ∙ lv)

  -- a row and a column that cross share a point
  pub simple_touch : (r c : ℕ) → Named s 1 r → Named s 0 c → place s e r 0 ≤ℤ e 0 c → e 0 c ≤ℤ place s e (last s 0 r) 0 → place s e c 1 ≤ℤ e 1 r → e 1 r ≤ℤ place s e (last s 1 c) 1 → Touch s r c
  simple_touch r c nr nc a b x y =
      let i = last_is s L 0 r nr.1 in
      let j = last_is s L 1 c nc.1 in
      let f = covered s L e 0 i.0 r (e 0 c) i.2 a (subst (λ (t : ℕ). e 0 c ≤ℤ place s e t 0) i.1 b) in
      let g = covered s L e 1 j.0 c (e 1 r) j.2 x (subst (λ (t : ℕ). e 1 r ≤ℤ place s e t 1) j.1 y) in
      let lu = chain_stays s L 0 1 (rows s L) f.0 r f.1 ∙ nr.2 in
      let lv = chain_stays s L 1 0 (columns s L) g.0 c g.1 ∙ nc.2 in
      meeting r c (steps s 0 f.0 r) (steps s 1 g.0 c) f.1 g.1 lu lv (ap (e 1) lu) (ap (e 0) lv) f.2 g.2

  not_below : (x y : ℤ) → (x <ℤ y → ⊥) → y ≤ℤ x
  not_below x y h = by_test (lt_z x y) refl
    where
      by_test : (t : Bool) → lt_z x y ≡ t → y ≤ℤ x
      by_test true q = absurd (h (omega (arith, ints)))
      by_test false q = omega (arith, ints)

  -- where every arc that the drawing gives is there, no pair is open
  pub given_none_open : (arc : ℕ → ℕ → ℕ → Type 0) → ((dir a b : ℕ) → Gives s e dir a b → arc dir a b) → NoneOpen s arc
  given_none_open arc all r c o =
      let nr = o.0 in
      let nc = o.1 in
      let right = segment_named s L 0 _ (omega arith) (last_point s L 0 r nr.1) in
      let left = segment_named s L 0 r (omega arith) nr.1 in
      let bottom = segment_named s L 1 c (omega arith) nc.1 in
      let top = segment_named s L 1 _ (omega arith) (last_point s L 1 c nc.1) in
      o.2 (simple_touch r c nr nc
      (not_below _ _ (λ h. o.3 (o.2, (2, one (all 0 _ _ (nc, left, h))))))
      (not_below _ _ (λ h. o.3 (o.2, (1, one (all 0 _ _ (right, nc, h))))))
      (not_below _ _ (λ h. o.3 (o.2, (3, one (all 1 _ _ (nr, bottom, h))))))
      (not_below _ _ (λ h. o.3 (o.2, (4, one (all 1 _ _ (top, nr, h)))))))

pub crossing_is_touch : CrossingIsTouch
crossing_is_touch s L e simple r c nr nc p on_row on_column =
    let x : p 0 ≡ e 0 c = on_column.0 in
    let y : p 1 ≡ e 1 r = on_row.0 in
    simple_touch s L e simple r c nr nc
    (subst (λ (t : ℤ). place s e r 0 ≤ℤ t) x on_row.1) (subst (λ (t : ℤ). t ≤ℤ place s e (last s 0 r) 0) x on_row.2)
    (subst (λ (t : ℤ). place s e c 1 ≤ℤ t) y on_column.1) (subst (λ (t : ℤ). t ≤ℤ place s e (last s 1 c) 1) y on_column.2)

pub arcs_of_a_simple_drawing : (step : ℕ) → step ≤ 1 → ArcsOfASimpleDrawing step
arcs_of_a_simple_drawing step small s L e simple =
    record {
      complete = record {
        own = λ dir a b r. let n = own_named s L dir a b r in (n.0, n.1, draws_climbs s e simple.draws dir a b r);
        no_circle = climbs_no_circle (Gives s e) e (λ dir a b r. r.2);
        none_open = given_none_open s L e simple (Gives s e) (λ dir a b r. r);
      };
      among = λ gap given. climbs_no_circle (Arc gap) e (λ dir a b r. (given dir a b r).2);
      obeyed = λ gap given dir a b r. let g = (given dir a b r).0.2 in let l = (given dir a b r).1 in omega (arith, ints);
    }
