-- Lines: a segment of one direction runs along the other, forward by one side and back by the opposite one. Assumes nothing.
use Rattle.std.proofs.Common.{◌≡◌, ℕ, zero, suc, ◌-◌, ◌≤◌, ◌≢◌, ◌⊎◌, ◌↔◌, sym, refl, ap, ◌∙◌, subst, inl, inr, arith}
use native.Mathlib.Decide.{dec_le}
use Rattle.segments.specs.Shapes.{Shape, Lawful, Point, steps}
use Rattle.segments.specs.Segments.{last, segment, Named, ShapeArc}
use Rattle.segments.proofs.Chains.{steps_first, steps_on, not_none, before, last_is, last_ends, last_on, segment_named}

-- d and e are the two directions, in either order: a segment of direction e runs along d
pub record Directions (s : Shape) (d e : ℕ) : Type 0 where
  pub run : d ≤ 1
  pub name : e ≤ 1
  pub along : (v w : ℕ) → Point s v → Point s w → (s.next d v ≡ w) ↔ (s.next (3 - e) w ≡ v)
  pub across : (v w : ℕ) → Point s v → Point s w → (s.next e v ≡ w) ↔ (s.next (3 - d) w ≡ v)
  pub either : (dir : ℕ) → dir ≤ 1 → (dir ≡ d) ⊎ (dir ≡ e)

pub turned : {s : Shape} {d e : ℕ} → Directions s d e → Directions s e d
turned D = record { run = D.name; name = D.run; along = D.across; across = D.along; either = λ dir h. elim (D.either dir h) [ inl p ↦ inr p | inr p ↦ inl p ] }

module _ (s : Shape) (L : Lawful s) where
  -- rows run across
  pub rows : Directions s 0 1
  rows =
      record {
        run = omega arith;
        name = omega arith;
        along = λ v w pv pw. L.opposite 0 v w (omega arith) pv pw;
        across = λ v w pv pw. L.opposite 1 v w (omega arith) pv pw;
        either = either;
      }
    where
      either : (dir : ℕ) → dir ≤ 1 → (dir ≡ 0) ⊎ (dir ≡ 1)
      either zero h = inl refl
      either (suc zero) h = inr refl
      either (suc (suc n)) h = absurd (omega arith)

  -- and columns run up
  pub columns : Directions s 1 0
  columns = turned rows

  pub last_point : (d v : ℕ) → Point s v → Point s (last s d v)
  last_point d v p = (last_ends s L d v p).point

  -- ---- f and b are opposite sides
  module _ (f b : ℕ) (opposite : (v w : ℕ) → Point s v → Point s w → (s.next f v ≡ w) ↔ (s.next b w ≡ v)) where
    pub back_one : (v : ℕ) → Point s v → s.next f v ≢ 0 → s.next b (s.next f v) ≡ v
    back_one v p h = (opposite v (s.next f v) p (L.to_points f v h)).0 refl

    back_many : (k v : ℕ) → Point s (steps s f k v) → steps s b k (steps s f k v) ≡ v
    back_many zero v p = refl
    back_many (suc k) v p =
        let q = before s L f _ p in
        sym (steps_first s b k _) ∙ ap (steps s b k) (back_one _ q (not_none s _ p)) ∙ back_many k v q

    last_back : (v : ℕ) → Point s v → s.next f v ≢ 0 → last s b (s.next f v) ≡ last s b v
    last_back v p h =
        let e = back_one v p h in
        sym (last_on s L b 1 (s.next f v) (L.to_points f v h) (subst (Point s) (sym e) p)) ∙ ap (last s b) e

  -- ---- along a line
  module _ (d e : ℕ) (D : Directions s d e) where
    -- both ends of a wire lie on one line
    pub wire_stays : (v : ℕ) → Point s v → s.next d v ≢ 0 → segment s e (s.next d v) ≡ segment s e v
    wire_stays v p h = last_back d (3 - e) D.along v p h

    -- and so do all points of a chain
    pub chain_stays : (k v : ℕ) → Point s (steps s d k v) → segment s e (steps s d k v) ≡ segment s e v
    chain_stays zero v p = refl
    chain_stays (suc k) v p = let q = before s L d _ p in wire_stays (steps s d k v) q (not_none s _ p) ∙ chain_stays k v q

    -- the far end of a line lies on it
    pub end_stays : (v : ℕ) → Point s v → segment s e (last s d v) ≡ segment s e v
    end_stays v p = let r = last_is s L d v p in ap (segment s e) r.1 ∙ chain_stays r.0 v r.2

    -- the first point of a line leads to each of its points
    pub from_first : (v : ℕ) → Point s v → (k : ℕ) × (steps s d k (segment s e v) ≡ v)
    from_first v p =
        let r = last_is s L (3 - e) v p in
        (r.0, ap (steps s d r.0) r.1 ∙ back_many (3 - e) d (λ x y px py. ((D.along y x py px).1, (D.along y x py px).0)) r.0 v r.2)

    -- two points of a line are ordered along it
    pub in_order : (p q : ℕ) → Point s p → Point s q → segment s e p ≡ segment s e q → (k : ℕ) × ((steps s d k p ≡ q) ⊎ (steps s d k q ≡ p))
    in_order p q hp hq same =
        let i = from_first p hp in
        let j = from_first q hq in
        let w = segment s e p in
        let jw : steps s d j.0 w ≡ q = ap (steps s d j.0) same ∙ j.1 in
        elim (dec_le i.0 j.0) [
          | yes l ↦ (j.0 - i.0, inl (ap (steps s d (j.0 - i.0)) (sym i.1) ∙ sym (steps_on s d i.0 j.0 w l) ∙ jw))
          | no l ↦ (i.0 - j.0, inr (ap (steps s d (i.0 - j.0)) (sym jw) ∙ sym (steps_on s d j.0 i.0 w (omega arith)) ∙ i.1))
        ]

    -- every point of a line has the same far end
    pub same_end : (v : ℕ) → Point s v → last s d v ≡ last s d (segment s e v)
    same_end v p =
        let r = from_first v p in
        ap (last s d) (sym r.1) ∙ last_on s L d r.0 (segment s e v) (last_point (3 - e) v p) (subst (Point s) (sym r.1) p)

  -- the shape's arcs go between names
  pub own_named : (dir a b : ℕ) → ShapeArc s dir a b → Named s dir a × Named s dir b
  own_named dir a b r =
      let w = r.1 in
      (subst (Named s dir) r.2 (segment_named s L dir r.0 w.0 w.1), subst (Named s dir) r.3 (segment_named s L dir _ w.0 (L.to_points dir r.0 w.2)))
