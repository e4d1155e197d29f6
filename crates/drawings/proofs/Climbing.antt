-- Paths and chains climb: their coordinates rise. Assumes nothing.
use Rattle.std.proofs.Common.{◌≡◌, ℕ, zero, suc, ◌≤◌, ◌≢◌, ◌⊎◌, ℤ, ◌≤ℤ◌, ◌<ℤ◌, sym, ◌∙◌, subst, inl, inr, arith}
use borrow.Author.Differences.{ints}
use Rattle.segments.specs.Shapes.{Shape, Lawful, Point, steps}
use Rattle.segments.specs.Segments.{last, segment, ShapeArc}
use Rattle.segments.proofs.Chains.{steps_first, not_none, before, last_is}
use Rattle.segments.proofs.Lines.{Directions, from_first, in_order, same_end}
use Rattle.drawings.specs.Arcs.{Arcs, Arc, Path, one, more, Circle}
use Rattle.drawings.specs.Drawings.{Drawing, place, Draws, Obeys}
use Rattle.drawings.specs.Theorems.{ContradictoryHasNoDrawing}

-- ---- paths
pub path_climbs : (R : ℕ → ℕ → Type 0) (x : ℕ → ℤ) → ((a b : ℕ) → R a b → x a <ℤ x b) → {a b : ℕ} → Path R a b → x a <ℤ x b
path_climbs R x h (one r) = h _ _ r
path_climbs R x h (more r p) =
    let a = h _ _ r in
    let b = path_climbs R x h p in
    omega (arith, ints)

-- arcs that a drawing gives close no circle
pub climbs_no_circle : (arc : ℕ → ℕ → ℕ → Type 0) (c : Drawing) → ((dir a b : ℕ) → arc dir a b → c dir a <ℤ c dir b) → ¬ Circle arc
climbs_no_circle arc c h k = let q = path_climbs (arc k.0) (c k.0) (h k.0) k.3 in omega (arith, ints)

-- a path of arcs is one of all arcs that they imply
pub path_map : {R S : ℕ → ℕ → Type 0} {a b : ℕ} → ((x y : ℕ) → R x y → S x y) → Path R a b → Path S a b
path_map f (one r) = one (f _ _ r)
path_map f (more r p) = more (f _ _ r) (path_map f p)

pub circle_map : (R S : ℕ → ℕ → ℕ → Type 0) → ((dir x y : ℕ) → R dir x y → S dir x y) → Circle R → Circle S
circle_map R S f k = (k.0, k.1, k.2, path_map (f k.0) k.3)

-- ---- arcs that are obeyed
pub obeys_climbs : (gap : Arcs) (c : Drawing) → Obeys gap c → (dir a b : ℕ) → Arc gap dir a b → c dir a <ℤ c dir b
obeys_climbs gap c obeys dir a b r = let h = obeys dir a b r in omega (arith, ints)

-- the shape's own arcs rise in every drawing of it
pub draws_climbs : (s : Shape) (c : Drawing) → Draws s c → (dir a b : ℕ) → ShapeArc s dir a b → c dir a <ℤ c dir b
draws_climbs s c draws dir a b r =
    subst (λ (t : ℕ). c dir t <ℤ c dir b) r.2 (subst (λ (t : ℕ). place s c r.0 dir <ℤ c dir t) r.3 (draws dir r.0 r.1))

pub contradictory_has_no_drawing : ContradictoryHasNoDrawing
contradictory_has_no_drawing s k e draws = climbs_no_circle (ShapeArc s) e (draws_climbs s e draws) k

-- ---- chains
module _ (s : Shape) (L : Lawful s) (c : Drawing) (draws : Draws s c) where
  pub chain_climbs : (d k v : ℕ) → d ≤ 1 → Point s (steps s d (suc k) v) → place s c v d <ℤ place s c (steps s d (suc k) v) d
  chain_climbs d zero v h p = draws d v (h, before s L d v p, not_none s _ p)
  chain_climbs d (suc k) v h p =
      let q = before s L d _ p in
      let a = chain_climbs d k v h q in
      let b = draws d (steps s d (suc k) v) (h, q, not_none s _ p) in
      omega (arith, ints)

  chain_rises : (d k v : ℕ) → d ≤ 1 → Point s (steps s d k v) → place s c v d ≤ℤ place s c (steps s d k v) d
  chain_rises d zero v h p = omega (arith, ints)
  chain_rises d (suc k) v h p = let a = chain_climbs d k v h p in omega (arith, ints)

  -- where k + 1 steps lead to q, it lies higher
  step_climbs : (d k v q : ℕ) → d ≤ 1 → Point s q → steps s d (suc k) v ≡ q → place s c v d <ℤ place s c q d
  step_climbs d k v q h pq e = subst (λ (t : ℕ). place s c v d <ℤ place s c t d) e (chain_climbs d k v h (subst (Point s) (sym e) pq))

  -- ---- lines that run along d
  module _ (d e : ℕ) (D : Directions s d e) where
    -- a line begins at its lowest coordinate
    pub line_low : (u : ℕ) → Point s u → place s c (segment s e u) d ≤ℤ place s c u d
    line_low u p =
        let r = from_first s L d e D u p in
        subst (λ (t : ℕ). place s c (segment s e u) d ≤ℤ place s c t d) r.1 (chain_rises d r.0 (segment s e u) D.run (subst (Point s) (sym r.1) p))

    -- and ends at its highest
    pub line_high : (u : ℕ) → Point s u → place s c u d ≤ℤ place s c (last s d (segment s e u)) d
    line_high u p =
        let j = last_is s L d u p in
        subst (λ (t : ℕ). place s c u d ≤ℤ place s c t d) (sym j.1 ∙ same_end s L d e D u p) (chain_rises d j.0 u D.run j.2)

    -- two points of a line that have one coordinate are one
    pub one_on_line : (p q : ℕ) → Point s p → Point s q → segment s e p ≡ segment s e q → place s c p d ≡ place s c q d → p ≡ q
    one_on_line p q hp hq l x = go (in_order s L d e D p q hp hq l)
      where
        ahead : (k : ℕ) → steps s d k p ≡ q → p ≡ q
        ahead zero a = a
        ahead (suc k) a = absurd (let m = step_climbs d k p q D.run hq a in omega (arith, ints))

        behind : (k : ℕ) → steps s d k q ≡ p → p ≡ q
        behind zero a = sym a
        behind (suc k) a = absurd (let m = step_climbs d k q p D.run hp a in omega (arith, ints))

        go : (k : ℕ) × ((steps s d k p ≡ q) ⊎ (steps s d k q ≡ p)) → p ≡ q
        go r = elim r.1 [ inl a ↦ ahead r.0 a | inr a ↦ behind r.0 a ]

    -- a point of the wire's line that lies within the wire is an end of it
    pub within_wire : (v u : ℕ) → Point s v → s.next d v ≢ 0 → Point s u → segment s e v ≡ segment s e u → place s c v d ≤ℤ place s c u d → place s c u d ≤ℤ place s c (s.next d v) d → (u ≡ v) ⊎ (u ≡ s.next d v)
    within_wire v u pv w pu l x y = go (in_order s L d e D v u pv pu l)
      where
        ahead : (k : ℕ) → steps s d k v ≡ u → (u ≡ v) ⊎ (u ≡ s.next d v)
        ahead zero a = inl (sym a)
        ahead (suc zero) a = inr (sym a)
        ahead (suc (suc k)) a = absurd (let m = step_climbs d k (s.next d v) u D.run pu (steps_first s d (suc k) v ∙ a) in omega (arith, ints))

        behind : (k : ℕ) → steps s d k u ≡ v → (u ≡ v) ⊎ (u ≡ s.next d v)
        behind zero a = inl a
        behind (suc k) a = absurd (let m = step_climbs d k u v D.run pv a in omega (arith, ints))

        go : (k : ℕ) × ((steps s d k v ≡ u) ⊎ (steps s d k u ≡ v)) → (u ≡ v) ⊎ (u ≡ s.next d v)
        go r = elim r.1 [ inl a ↦ ahead r.0 a | inr a ↦ behind r.0 a ]
