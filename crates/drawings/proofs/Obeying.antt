-- Drawings that obey arcs which leave no pair open are simple. Assumes nothing.
use Rattle.std.proofs.Common.{◌≡◌, ℕ, zero, suc, ◌≤◌, Bool, true, false, ◌≢◌, ◌⊎◌, ◌≤ℤ◌, ◌<ℤ◌, sym, refl, ap, ◌∙◌, subst, inl, inr, arith}
use lib.Signed.{le_z}
use borrow.Author.Differences.{ints}
use Rattle.segments.specs.Shapes.{Shape, Lawful, Point}
use Rattle.segments.specs.Segments.{last, segment, Named}
use Rattle.segments.proofs.Chains.{segment_named}
use Rattle.segments.proofs.Lines.{Directions, turned, rows, columns, wire_stays}
use Rattle.drawings.specs.Arcs.{Arcs, Arc, HasOwn, Path, Way, NoneOpen}
use Rattle.drawings.specs.Drawings.{Drawing, Spot, SameSpot, place, Draws, EndOf, PointsApart, WiresApart, WiresClear, SimpleDrawing}
use Rattle.drawings.specs.Theorems.{ObeyingIsSimple, SteppingIsSimple}
use Rattle.drawings.proofs.Climbing.{path_climbs, obeys_climbs, line_low, line_high, one_on_line, within_wire}
use Rattle.drawings.proofs.Deciding.{touch?}

-- lines that cross share a point: l runs along d and m along e
abbrev pub Meets : Shape → Drawing → ℕ → ℕ → Type 0
Meets s c d e =
    (l m : ℕ) → Named s e l → Named s d m → place s c l d ≤ℤ c d m → c d m ≤ℤ place s c (last s d l) d → place s c m e ≤ℤ c e l → c e l ≤ℤ place s c (last s e m) e → (u : ℕ) × Point s u × (segment s e u ≡ l) × (segment s d u ≡ m)

turned_meets : (s : Shape) (c : Drawing) (d e : ℕ) → Meets s c d e → Meets s c e d
turned_meets s c d e meets l m nl nm a b x y = let t = meets m l nm nl x y a b in (t.0, t.1, t.3, t.2)

-- p lies on the wire from v to side d
abbrev Along : Shape → Drawing → ℕ → ℕ → ℕ → Spot → Type 0
Along s c d e v p = (place s c v d ≤ℤ p d) × (p d ≤ℤ place s c (s.next d v) d) × (p e ≡ place s c v e)

-- p is the place of u, which is an end of the wire from v
end_is : (s : Shape) (c : Drawing) (d v u : ℕ) (p : Spot) → SameSpot p (place s c u) → (u ≡ v) ⊎ (u ≡ s.next d v) → EndOf s c d v p
end_is s c d v u p q (inl f) = inl (subst (λ (t : ℕ). SameSpot p (place s c t)) f q)
end_is s c d v u p q (inr f) = inr (subst (λ (t : ℕ). SameSpot p (place s c t)) f q)

-- ---- in a drawing of the shape whose crossing lines share a point, over the two directions in either order
module _ (s : Shape) (L : Lawful s) (c : Drawing) (draws : Draws s c) (d e : ℕ) (D : Directions s d e) (meets : Meets s c d e) where
  -- a point that lies on a line belongs to it
  belongs : (u l : ℕ) → Point s u → Named s e l → place s c u e ≡ c e l → place s c l d ≤ℤ place s c u d → place s c u d ≤ℤ place s c (last s d l) d → segment s e u ≡ l
  belongs u l p n y a b =
      let low = line_low s L c draws e d (turned D) u p in
      let high = line_high s L c draws e d (turned D) u p in
      let t = meets l (segment s d u) n (segment_named s L d u D.run p) a b (omega (arith, ints)) (omega (arith, ints)) in
      let z : place s c t.0 e ≡ c e l = ap (c e) t.2 in
      ap (segment s e) (one_on_line s L c draws e d (turned D) u t.0 p t.1 (sym t.3) (y ∙ sym z)) ∙ t.2

  -- a wire lies within its line
  wire_high : (v : ℕ) → Point s v → s.next d v ≢ 0 → place s c (s.next d v) d ≤ℤ place s c (last s d (segment s e v)) d
  wire_high v p w =
      subst (λ (t : ℕ). place s c (s.next d v) d ≤ℤ place s c (last s d t) d) (wire_stays s L d e D v p w) (line_high s L c draws d e D (s.next d v) (L.to_points d v w))

  pub clears : (v u : ℕ) → Point s v → s.next d v ≢ 0 → Point s u → Along s c d e v (place s c u) → (u ≡ v) ⊎ (u ≡ s.next d v)
  clears v u pv w pu on =
      let a = on.0 in
      let b = on.1 in
      let low = line_low s L c draws d e D v pv in
      let high = wire_high v pv w in
      within_wire s L c draws d e D v u pv w pu (sym (belongs u (segment s e v) pu (segment_named s L e v D.name pv) on.2 (omega (arith, ints)) (omega (arith, ints)))) a b

  same_spot : (p q : Spot) → p d ≡ q d → p e ≡ q e → SameSpot p q
  same_spot p q x y dir h =
      elim (D.either dir h) [
        | inl r ↦ subst (λ (t : ℕ). p t ≡ q t) (sym r) x
        | inr r ↦ subst (λ (t : ℕ). p t ≡ q t) (sym r) y
      ]

  pub points_apart : PointsApart s c
  points_apart v w pv pw same =
      let x = same d D.run in
      let low = line_low s L c draws d e D w pw in
      let high = line_high s L c draws d e D w pw in
      one_on_line s L c draws d e D v w pv pw (belongs v (segment s e w) pv (segment_named s L e w D.name pw) (same e D.name) (omega (arith, ints)) (omega (arith, ints))) x

  -- two wires of one direction that share a grid point: the one begins where the other ends
  follows : (v w : ℕ) → Point s v → s.next d v ≢ 0 → Point s w → v ≢ w → (p : Spot) → Along s c d e v p → Along s c d e w p → place s c v d ≤ℤ place s c w d → EndOf s c d v p × EndOf s c d w p
  follows v w pv hv pw ne p a b x =
      let a1 = a.1 in
      let b0 = b.0 in
      elim (clears v w pv hv pw (x, omega (arith, ints), sym b.2 ∙ a.2)) [
        | inl f ↦ absurd (ne (sym f))
        | inr f ↦ (
            let g : place s c w d ≡ place s c (s.next d v) d = ap (λ (t : ℕ). place s c t d) f in
            let q : SameSpot p (place s c w) = same_spot p (place s c w) (omega (arith, ints)) b.2 in
            (end_is s c d v w p q (inr f), inl q))
      ]

  pub beside : (v w : ℕ) → Point s v → s.next d v ≢ 0 → Point s w → s.next d w ≢ 0 → v ≢ w → (p : Spot) → Along s c d e v p → Along s c d e w p → EndOf s c d v p × EndOf s c d w p
  beside v w pv hv pw hw ne p a b = go (le_z (place s c v d) (place s c w d)) refl
    where
      go : (t : Bool) → le_z (place s c v d) (place s c w d) ≡ t → EndOf s c d v p × EndOf s c d w p
      go true q = follows v w pv hv pw ne p a b (omega (arith, ints))
      go false q = let r = follows w v pw hw pv (λ f. ne (sym f)) p b a (omega (arith, ints)) in (r.1, r.0)

-- a wire of each direction
crosses : (s : Shape) (L : Lawful s) (c : Drawing) (draws : Draws s c) (d e : ℕ) (D : Directions s d e) → Meets s c d e → (v w : ℕ) → Point s v → s.next d v ≢ 0 → Point s w → s.next e w ≢ 0 → (p : Spot) → Along s c d e v p → Along s c e d w p → EndOf s c d v p × EndOf s c e w p
crosses s L c draws d e D meets v w pv hv pw hw p a b =
    let a0 = a.0 in
    let a1 = a.1 in
    let a2 : p e ≡ place s c v e = a.2 in
    let b0 = b.0 in
    let b1 = b.1 in
    let b2 : p d ≡ place s c w d = b.2 in
    let xl = line_low s L c draws d e D v pv in
    let xh = wire_high s L c draws d e D meets v pv hv in
    let yl = line_low s L c draws e d (turned D) w pw in
    let yh = wire_high s L c draws e d (turned D) (turned_meets s c d e meets) w pw hw in
    let t = meets (segment s e v) (segment s d w) (segment_named s L e v D.name pv) (segment_named s L d w D.run pw) (omega (arith, ints)) (omega (arith, ints)) (omega (arith, ints)) (omega (arith, ints)) in
    let u = t.0 in
    let ue : place s c u e ≡ place s c v e = ap (c e) t.2 in
    let ud : place s c u d ≡ place s c w d = ap (c d) t.3 in
    let q : SameSpot p (place s c u) = same_spot s L c draws d e D meets p (place s c u) (b2 ∙ sym ud) (a2 ∙ sym ue) in (
      end_is s c d v u p q (clears s L c draws d e D meets v u pv hv t.1 (omega (arith, ints), omega (arith, ints), ue)),
      end_is s c e w u p q (clears s L c draws e d (turned D) (turned_meets s c d e meets) w u pw hw t.1 (omega (arith, ints), omega (arith, ints), ud)),
    )

-- ---- both directions together
module _ (s : Shape) (L : Lawful s) (c : Drawing) (draws : Draws s c) (meets : Meets s c 0 1) where
  across : Directions s 0 1
  across = rows s L

  up : Directions s 1 0
  up = columns s L

  meets_up : Meets s c 1 0
  meets_up = turned_meets s c 0 1 meets

  wires_clear : WiresClear s c
  wires_clear zero v u w p on = clears s L c draws 0 1 across meets v u w.1 w.2 p on
  wires_clear (suc zero) v u w p on = clears s L c draws 1 0 up meets_up v u w.1 w.2 p on
  wires_clear (suc (suc k)) v u w p on = absurd (omega (arith, w.0))

  wires_apart : WiresApart s c
  wires_apart zero v zero w wv ww ne p a b = beside s L c draws 0 1 across meets v w wv.1 wv.2 ww.1 ww.2 (λ f. ne (refl, f)) p a b
  wires_apart zero v (suc zero) w wv ww ne p a b = crosses s L c draws 0 1 across meets v w wv.1 wv.2 ww.1 ww.2 p a b
  wires_apart (suc zero) v zero w wv ww ne p a b = crosses s L c draws 1 0 up meets_up v w wv.1 wv.2 ww.1 ww.2 p a b
  wires_apart (suc zero) v (suc zero) w wv ww ne p a b = beside s L c draws 1 0 up meets_up v w wv.1 wv.2 ww.1 ww.2 (λ f. ne (refl, f)) p a b
  wires_apart (suc (suc k)) v e w wv ww ne p a b = absurd (omega (arith, wv.0))
  wires_apart zero v (suc (suc k)) w wv ww ne p a b = absurd (omega (arith, ww.0))
  wires_apart (suc zero) v (suc (suc k)) w wv ww ne p a b = absurd (omega (arith, ww.0))

  pub meets_simple : SimpleDrawing s c
  meets_simple = record { draws = draws; simple = record { points = points_apart s L c draws 0 1 across meets; wires = wires_apart; clear = wires_clear } }

-- ---- no pair is open
module _ (s : Shape) (arc : ℕ → ℕ → ℕ → Type 0) (c : Drawing) (climbs : (dir a b : ℕ) → arc dir a b → c dir a <ℤ c dir b) where
  -- no way leads where the row r and the column m cross
  pub crossing_no_way : (k r m : ℕ) → place s c r 0 ≤ℤ c 0 m → c 0 m ≤ℤ place s c (last s 0 r) 0 → place s c m 1 ≤ℤ c 1 r → c 1 r ≤ℤ place s c (last s 1 m) 1 → ¬ Way s (λ dir. Path (arc dir)) k r m
  crossing_no_way zero r m a b x y w = w
  crossing_no_way (suc zero) r m a b x y w = let h = path_climbs (arc 0) (c 0) (climbs 0) w in omega (arith, ints)
  crossing_no_way (suc (suc zero)) r m a b x y w = let h = path_climbs (arc 0) (c 0) (climbs 0) w in omega (arith, ints)
  crossing_no_way (suc (suc (suc zero))) r m a b x y w = let h = path_climbs (arc 1) (c 1) (climbs 1) w in omega (arith, ints)
  crossing_no_way (suc (suc (suc (suc zero)))) r m a b x y w = let h = path_climbs (arc 1) (c 1) (climbs 1) w in omega (arith, ints)
  crossing_no_way (suc (suc (suc (suc (suc k))))) r m a b x y w = w

  none_meets : NoneOpen s arc → Meets s c 0 1
  none_meets none r m nr nm a b x y =
      elim (touch? s r m) [
        | yes t ↦ t
        | no t ↦ absurd (none r m (nr, nm, t, λ apart. crossing_no_way apart.1.0 r m a b x y apart.1.1))
      ]

  -- over any arcs, as a relation
  pub climbing_simple : Lawful s → Draws s c → NoneOpen s arc → SimpleDrawing s c
  climbing_simple L draws none = meets_simple s L c draws (none_meets none)

-- where each arc rises
pub rising_is_simple : (s : Shape) → Lawful s → (gap : Arcs) → HasOwn s (Arc gap) → NoneOpen s (Arc gap) → (c : Drawing) → ((dir a b : ℕ) → Arc gap dir a b → c dir a <ℤ c dir b) → SimpleDrawing s c
rising_is_simple s L gap own none c rises = climbing_simple s (Arc gap) c rises L (λ dir v w. rises dir _ _ (own dir _ _ (v, w, refl, refl))) none

pub obeying_is_simple : ObeyingIsSimple
obeying_is_simple s L gap own none c obeys = rising_is_simple s L gap own none c (obeys_climbs gap c obeys)

pub stepping_is_simple : (step : ℕ) → 1 ≤ step → SteppingIsSimple step
stepping_is_simple step h s L gap own none c steps = rising_is_simple s L gap own none c (λ dir a b r. let k = steps dir a b r in omega (arith, ints))
