-- Chains of steps, and the segments that they make. Assumes nothing.
use Rattle.std.proofs.Common.{◌≡◌, ℕ, zero, suc, ◌+◌, ◌-◌, ◌<◌, ◌≤◌, cond, eqb, ◌≢◌, List, [], ◌∷◌, length, sym, refl, ap, ◌∙◌, subst, suc-add, zero-add, arith}
use native.Mathlib.Decide.{ℕ_discrete, dec_le}
use Rattle.std.proofs.lemmas.Bool.{eq-eqb, ne_eqb}
use Rattle.walks.specs.Nodes.{Below, Apart, Distinct}
use Rattle.walks.proofs.Pigeonhole.{distinct_few}
use Rattle.segments.specs.Shapes.{Shape, Lawful, Point, steps}
use Rattle.segments.specs.Segments.{Ends, last_within, last, segment, Named, chain_within, chain}

-- ---- steps, with no law
pub steps_first : (s : Shape) (d k v : ℕ) → steps s d k (s.next d v) ≡ steps s d (suc k) v
steps_first s d zero v = refl
steps_first s d (suc k) v = ap (s.next d) (steps_first s d k v)

pub steps_add : (s : Shape) (d j k v : ℕ) → steps s d (j + k) v ≡ steps s d j (steps s d k v)
steps_add s d zero k v = rw zero-add refl
steps_add s d (suc j) k v = rw suc-add (ap (s.next d) (steps_add s d j k v))

pub steps_on : (s : Shape) (d j k v : ℕ) → j ≤ k → steps s d k v ≡ steps s d (k - j) (steps s d j v)
steps_on s d j k v h = let e : k ≡ (k - j) + j = omega arith in ap (λ (t : ℕ). steps s d t v) e ∙ steps_add s d (k - j) j v

pub steps_stay_none : (s : Shape) (d : ℕ) → s.next d 0 ≡ 0 → (k : ℕ) → steps s d k 0 ≡ 0
steps_stay_none s d z zero = refl
steps_stay_none s d z (suc k) = ap (s.next d) (steps_stay_none s d z k) ∙ z

-- the points of a chain of k steps, each less 1, the latest first
abbrev trail : Shape → ℕ → ℕ → ℕ → List ℕ
trail s d zero v = (v - 1) ∷ []
trail s d (suc k) v = (steps s d (suc k) v - 1) ∷ trail s d k v

trail_length : (s : Shape) (d k v : ℕ) → length (trail s d k v) ≡ suc k
trail_length s d zero v = refl
trail_length s d (suc k) v = omega (arith, trail_length s d k v)

pub not_none : (s : Shape) (v : ℕ) → Point s v → v ≢ 0
not_none s v p e = omega (arith, p.0)

less_one : (s : Shape) (a b : ℕ) → Point s a → Point s b → a ≢ b → a - 1 ≢ b - 1
less_one s a b p q h e = h (omega (arith, p.0, q.0))

-- ---- a chain of points that differ has at most as many as there are
module _ (s : Shape) (d v : ℕ) where
  trail_below : (k : ℕ) → ((i : ℕ) → i ≤ k → Point s (steps s d i v)) → Below s.points (trail s d k v)
  trail_below zero p = let q = p 0 (omega arith) in (omega (arith, q.0, q.1), tt)
  trail_below (suc k) p = let q = p (suc k) (omega arith) in (omega (arith, q.0, q.1), trail_below k (λ i h. p i (omega arith)))

  trail_apart : (k x : ℕ) → Point s x → ((i : ℕ) → i ≤ k → Point s (steps s d i v)) → ((i : ℕ) → i ≤ k → x ≢ steps s d i v) → Apart (x - 1) (trail s d k v)
  trail_apart zero x px p h = (less_one s x v px (p 0 (omega arith)) (h 0 (omega arith)), tt)
  trail_apart (suc k) x px p h = (less_one s x _ px (p (suc k) (omega arith)) (h (suc k) (omega arith)), trail_apart k x px (λ i l. p i (omega arith)) (λ i l. h i (omega arith)))

  trail_distinct : (k : ℕ) → ((i : ℕ) → i ≤ k → Point s (steps s d i v)) → ((i j : ℕ) → i < j → j ≤ k → steps s d j v ≢ steps s d i v) → Distinct (trail s d k v)
  trail_distinct zero p h = (tt, tt)
  trail_distinct (suc k) p h =
      let q : (i : ℕ) → i ≤ k → Point s (steps s d i v) = λ i l. p i (omega arith) in
      (trail_apart k _ (p (suc k) (omega arith)) q (λ i l. h i (suc k) (omega arith) (omega arith)), trail_distinct k q (λ i j l m. h i j l (omega arith)))

  pub distinct_chain_short : (k : ℕ) → ((i : ℕ) → i ≤ k → Point s (steps s d i v)) → ((i j : ℕ) → i < j → j ≤ k → steps s d j v ≢ steps s d i v) → suc k ≤ s.points
  distinct_chain_short k p h = omega (arith, trail_length s d k v, distinct_few s.points _ (trail_below k p) (trail_distinct k p h))

-- ---- what the laws give
module _ (s : Shape) (L : Lawful s) where
  pub zero_next : (d : ℕ) → s.next d 0 ≡ 0
  zero_next d = elim (ℕ_discrete (s.next d 0) 0) [ yes e ↦ e | no h ↦ absurd (let p = (L.from_points d 0 h).1.0 in omega arith) ]

  pub steps_zero : (d k : ℕ) → steps s d k 0 ≡ 0
  steps_zero d k = steps_stay_none s d (zero_next d) k

  -- the points before a point of a chain
  pub before : (d v : ℕ) → Point s (s.next d v) → Point s v
  before d v p = (L.from_points d v (not_none s _ p)).1

  early : (d j k v : ℕ) → Point s (steps s d (j + k) v) → Point s (steps s d k v)
  early d zero k v p = subst (λ (t : ℕ). Point s (steps s d t v)) (zero-add k) p
  early d (suc j) k v p = early d j k v (before d _ (subst (λ (t : ℕ). Point s (steps s d t v)) (suc-add j k) p))

  pub earlier : (d j k v : ℕ) → j ≤ k → Point s (steps s d k v) → Point s (steps s d j v)
  earlier d j k v h p = let e : k ≡ (k - j) + j = omega arith in early d (k - j) j v (subst (λ (t : ℕ). Point s (steps s d t v)) e p)

  -- no point of a chain comes back
  later_differs : (d i j v : ℕ) → i < j → Point s (steps s d i v) → steps s d j v ≢ steps s d i v
  later_differs d i j v h p e =
      let q : j ≡ suc (j - suc i) + i = omega arith in
      L.never_returns d (j - suc i) (steps s d i v) p (sym (steps_add s d (suc (j - suc i)) i v) ∙ ap (λ (t : ℕ). steps s d t v) (sym q) ∙ e)

  stays_point : (d k v : ℕ) → Point s v → steps s d k v ≢ 0 → Point s (steps s d k v)
  stays_point d zero v p h = p
  stays_point d (suc k) v p h = L.to_points d _ h

  -- a chain of as many steps as points has ended
  pub chain_ends : (d v : ℕ) → Point s v → steps s d s.points v ≡ 0
  chain_ends d v p =
      elim (ℕ_discrete (steps s d s.points v) 0) [
        | yes e ↦ e
        | no h ↦
            let q = stays_point d s.points v p h in
            let at : (i : ℕ) → i ≤ s.points → Point s (steps s d i v) = λ i l. earlier d i s.points v l q in
            absurd (omega (arith, distinct_chain_short s d v s.points at (λ i j l m. later_differs d i j v l (at i (omega arith)))))
      ]

  last_at : (d k v : ℕ) → Point s v → steps s d k v ≡ 0 → (j : ℕ) × (last_within k s d v ≡ steps s d j v) × Point s (steps s d j v) × (s.next d (steps s d j v) ≡ 0)
  last_at d zero v p e = absurd (omega (arith, p.0))
  last_at d (suc k) v p e = go (ℕ_discrete (s.next d v) 0) (λ h. last_at d k (s.next d v) (L.to_points d v h) (steps_first s d k v ∙ e))
    where
      go : Dec (s.next d v ≡ 0) → (s.next d v ≢ 0 → (j : ℕ) × (last_within k s d (s.next d v) ≡ steps s d j (s.next d v)) × Point s (steps s d j (s.next d v)) × (s.next d (steps s d j (s.next d v)) ≡ 0)) → (j : ℕ) × (last_within (suc k) s d v ≡ steps s d j v) × Point s (steps s d j v) × (s.next d (steps s d j v) ≡ 0)
      go (yes q) ih = (0, rw (eq-eqb (s.next d v) 0 q) refl, p, q)
      go (no h) ih =
          let r = ih h in
          let f = steps_first s d r.0 v in
          (suc r.0, rw (ne_eqb (s.next d v) 0 h) (r.1 ∙ f), subst (Point s) f r.2, subst (λ (t : ℕ). s.next d t ≡ 0) f r.3)

  pub last_is : (d v : ℕ) → Point s v → (j : ℕ) × (last s d v ≡ steps s d j v) × Point s (steps s d j v) × (s.next d (steps s d j v) ≡ 0)
  last_is d v p = last_at d s.points v p (chain_ends d v p)

  pub last_ends : (d v : ℕ) → Point s v → Ends s d v (last s d v)
  last_ends d v p =
      let r = last_is d v p in
      record { led = (r.0, sym r.1); point = subst (Point s) (sym r.1) r.2; beyond = ap (s.next d) r.1 ∙ r.3 }

  past_end : (d j k v : ℕ) → j < k → s.next d (steps s d j v) ≡ 0 → steps s d k v ≡ 0
  past_end d j k v h e = steps_on s d (suc j) k v (omega arith) ∙ ap (steps s d (k - suc j)) e ∙ steps_zero d (k - suc j)

  one_end : (d j k v : ℕ) → Point s (steps s d j v) → s.next d (steps s d j v) ≡ 0 → Point s (steps s d k v) → s.next d (steps s d k v) ≡ 0 → steps s d j v ≡ steps s d k v
  one_end d j k v p e q f =
      elim (ℕ_discrete j k) [
        | yes h ↦ ap (λ (t : ℕ). steps s d t v) h
        | no h ↦ elim (dec_le j k) [
          | yes l ↦ absurd (not_none s _ q (past_end d j k v (omega arith) e))
          | no l ↦ absurd (not_none s _ p (past_end d k j v (omega arith) f))
        ]
      ]

  -- every point of a chain has the same last point
  pub last_on : (d j v : ℕ) → Point s v → Point s (steps s d j v) → last s d (steps s d j v) ≡ last s d v
  last_on d j v p q =
      let a = last_is d v p in
      let b = last_is d (steps s d j v) q in
      let e = steps_add s d b.0 j v in
      b.1 ∙ sym e ∙ one_end d (b.0 + j) a.0 v (subst (Point s) (sym e) b.2) (subst (λ (t : ℕ). s.next d t ≡ 0) (sym e) b.3) a.2 a.3 ∙ sym a.1

  pub segment_named : (dir v : ℕ) → dir ≤ 1 → Point s v → Named s dir (segment s dir v)
  segment_named dir v h p =
      let r = last_is (3 - dir) v p in
      (h, (last_ends (3 - dir) v p).point, ap (last s (3 - dir)) r.1 ∙ last_on (3 - dir) r.0 v p r.2)

-- ---- how far a chain still goes, for loops that follow it
abbrev pub ahead_within : ℕ → Shape → ℕ → ℕ → ℕ
ahead_within zero s d v = 0
ahead_within (suc k) s d v = cond (eqb (s.next d v) 0) 0 (suc (ahead_within k s d (s.next d v)))

abbrev pub ahead : Shape → ℕ → ℕ → ℕ
ahead s d v = ahead_within s.points s d v

module _ (s : Shape) (L : Lawful s) (d : ℕ) where
  ahead_more : (k v : ℕ) → Point s v → steps s d k v ≡ 0 → ahead_within (suc k) s d v ≡ ahead_within k s d v
  ahead_more zero v p e = absurd (omega (arith, p.0))
  ahead_more (suc k) v p e = go (ℕ_discrete (s.next d v) 0) (λ h. ahead_more k (s.next d v) (L.to_points d v h) (steps_first s d k v ∙ e))
    where
      go : Dec (s.next d v ≡ 0) → (s.next d v ≢ 0 → ahead_within (suc k) s d (s.next d v) ≡ ahead_within k s d (s.next d v)) → ahead_within (suc (suc k)) s d v ≡ ahead_within (suc k) s d v
      go (yes q) ih = rw (eq-eqb (s.next d v) 0 q) refl
      go (no h) ih = rw (ne_eqb (s.next d v) 0 h) (ap suc (ih h))

  ahead_falls_within : (n v : ℕ) → Point s v → s.next d v ≢ 0 → steps s d n v ≡ 0 → ahead_within n s d (s.next d v) < ahead_within n s d v
  ahead_falls_within zero v p h e = absurd (omega (arith, p.0))
  ahead_falls_within (suc k) v p h e =
      let w = s.next d v in
      let same = ahead_more k w (L.to_points d v h) (steps_first s d k v ∙ e) in
      let here : ahead_within (suc k) s d v ≡ suc (ahead_within k s d w) = rw (ne_eqb (s.next d v) 0 h) refl in
      omega arith

  -- one step on
  pub ahead_falls : (v : ℕ) → Point s v → s.next d v ≢ 0 → ahead s d (s.next d v) < ahead s d v
  ahead_falls v p h = ahead_falls_within s.points v p h (chain_ends s L d v p)

  pub last_next : (v : ℕ) → Point s v → s.next d v ≢ 0 → last s d (s.next d v) ≡ last s d v
  last_next v p h = last_on s L d 1 v p (L.to_points d v h)

  last_here_within : (n v : ℕ) → s.next d v ≡ 0 → last_within n s d v ≡ v
  last_here_within zero v e = refl
  last_here_within (suc k) v e = rw (eq-eqb (s.next d v) 0 e) refl

  pub last_here : (v : ℕ) → s.next d v ≡ 0 → last s d v ≡ v
  last_here v e = last_here_within s.points v e

  -- the points of a chain, one by one
  chain_more : (k v : ℕ) → Point s v → steps s d k v ≡ 0 → chain_within (suc k) s d v ≡ chain_within k s d v
  chain_more zero v p e = absurd (omega (arith, p.0))
  chain_more (suc k) v p e = go (ℕ_discrete (s.next d v) 0) (λ h. chain_more k (s.next d v) (L.to_points d v h) (steps_first s d k v ∙ e))
    where
      go : Dec (s.next d v ≡ 0) → (s.next d v ≢ 0 → chain_within (suc k) s d (s.next d v) ≡ chain_within k s d (s.next d v)) → chain_within (suc (suc k)) s d v ≡ chain_within (suc k) s d v
      go (yes q) ih = rw (eq-eqb (s.next d v) 0 q) refl
      go (no h) ih = rw (ne_eqb (s.next d v) 0 h) (ap (λ (l : List ℕ). v ∷ l) (ih h))

  chain_next_within : (n v : ℕ) → Point s v → s.next d v ≢ 0 → steps s d n v ≡ 0 → chain_within n s d v ≡ v ∷ chain_within n s d (s.next d v)
  chain_next_within zero v p h e = absurd (omega (arith, p.0))
  chain_next_within (suc k) v p h e = rw (ne_eqb (s.next d v) 0 h) (ap (λ (l : List ℕ). v ∷ l) (sym (chain_more k (s.next d v) (L.to_points d v h) (steps_first s d k v ∙ e))))

  pub chain_next : (v : ℕ) → Point s v → s.next d v ≢ 0 → chain s d v ≡ v ∷ chain s d (s.next d v)
  chain_next v p h = chain_next_within s.points v p h (chain_ends s L d v p)

  chain_here_within : (n v : ℕ) → Point s v → s.next d v ≡ 0 → steps s d n v ≡ 0 → chain_within n s d v ≡ v ∷ []
  chain_here_within zero v p h e = absurd (omega (arith, p.0))
  chain_here_within (suc k) v p h e = rw (eq-eqb (s.next d v) 0 h) refl

  pub chain_here : (v : ℕ) → Point s v → s.next d v ≡ 0 → chain s d v ≡ v ∷ []
  chain_here v p h = chain_here_within s.points v p h (chain_ends s L d v p)

-- and so have as many steps and more
pub ended_after : (s : Shape) (L : Lawful s) (d v : ℕ) → Point s v → (k : ℕ) → s.points ≤ k → steps s d k v ≡ 0
ended_after s L d v p k h = steps_on s d s.points k v h ∙ ap (steps s d (k - s.points)) (chain_ends s L d v p) ∙ steps_zero s L d (k - s.points)
