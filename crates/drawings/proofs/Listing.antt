-- How facts on a listed sheet are shown one by one: over its points, its wires and its arcs. Assumes nothing.
use Rattle.std.proofs.Common.{◌≡◌, ℕ, zero, suc, ◌+◌, ◌<◌, ◌≤◌, Bool, true, false, cond, ◌&&◌, eqb, ◌≢◌, ◌⊎◌, ◌↔◌, List, [], ◌∷◌, sym, refl, ap, ◌∙◌, subst, inl, inr, arith}
use native.Mathlib.Decide.{ℕ_discrete}
use Rattle.std.proofs.lemmas.Bool.{eqb-true}
use Rattle.walks.proofs.Folds.{eqb_no}
use Rattle.segments.specs.Shapes.{Shape, Lawful, Point, Within, steps}
use Rattle.segments.specs.Segments.{segment, row, column, Wire}
use Rattle.segments.proofs.Chains.{not_none}
use Rattle.segments.proofs.Forward.{lawful_by_forward}
use Rattle.drawings.specs.Arcs.{Arcs, Arc, HasOwn, Path, Touch, Way, NoneOpen}
use Rattle.drawings.specs.Drawings.{Drawing, place, PointsApart}
use Rattle.drawings.specs.Flows.{BalancedAt, OnArcs, FlowOver, Flows}
use Rattle.drawings.specs.Examples.{listed, numbers}
use Rattle.drawings.proofs.Totals.{both_true}

-- ---- the numbers 1 to n
abbrev pub Each : ℕ → (ℕ → Type 0) → Type 0
Each zero P = Unit {0}
Each (suc n) P = Each n P × P (suc n)

pub each_of : (n : ℕ) (P : ℕ → Type 0) → Each n P → (v : ℕ) → Within n v → P v
each_of zero P h v w = absurd (omega (arith, w.0, w.1))
each_of (suc n) P h v w = elim (ℕ_discrete v (suc n)) [ yes e ↦ subst P (sym e) h.1 | no d ↦ each_of n P h.0 v (w.0, omega (arith, w.1)) ]

-- the two directions
pub each_direction : (P : ℕ → Type 0) → P 0 → P 1 → (dir : ℕ) → dir ≤ 1 → P dir
each_direction P p q zero h = p
each_direction P p q (suc zero) h = q
each_direction P p q (suc (suc n)) h = absurd (omega arith)

-- ---- what is listed
abbrev pub EachListed : List (ℕ × ℕ × ℕ) → (ℕ → ℕ → Type 0) → Type 0
EachListed [] P = Unit {0}
EachListed (t ∷ l) P = P t.0 t.1 × EachListed l P

pub each_listed : (l : List (ℕ × ℕ × ℕ)) (P : ℕ → ℕ → Type 0) → EachListed l P → (a b : ℕ) → listed l a b ≢ 0 → P a b
each_listed [] P h a b d = absurd (d refl)
each_listed (t ∷ l) P h a b d = go (eqb a t.0 && eqb b t.1) refl d (each_listed l P h.1 a b)
  where
    go : (x : Bool) → (eqb a t.0 && eqb b t.1) ≡ x → ◌≢◌ {A = ℕ} (cond x t.2 (listed l a b)) 0 → (listed l a b ≢ 0 → P a b) → P a b
    go true e d further =
        let r = both_true (eqb a t.0) (eqb b t.1) e in
        subst (λ (x : ℕ). P x b) (sym (eqb-true a t.0 r.0)) (subst (P t.0) (sym (eqb-true b t.1 r.1)) h.0)
    go false e d further = further d

module _ (across up : List (ℕ × ℕ × ℕ)) where
  none_beyond : (dir a b : ℕ) → 1 < dir → numbers across up dir a b ≡ 0
  none_beyond dir a b h = rw (eqb_no dir 0 (λ e. omega arith), eqb_no dir 1 (λ e. omega arith)) refl

  pub each_number : (P : ℕ → ℕ → ℕ → Type 0) → EachListed across (P 0) → EachListed up (P 1) → (dir a b : ℕ) → numbers across up dir a b ≢ 0 → P dir a b
  each_number P h k zero a b d = each_listed across (P 0) h a b d
  each_number P h k (suc zero) a b d = each_listed up (P 1) k a b d
  each_number P h k (suc (suc n)) a b d = absurd (d (none_beyond (suc (suc n)) a b (omega arith)))

  pub each_arc : (P : ℕ → ℕ → ℕ → Type 0) → EachListed across (P 0) → EachListed up (P 1) → (dir a b : ℕ) → Arc (numbers across up) dir a b → P dir a b
  each_arc P h k dir a b r = each_number P h k dir a b (λ e. omega arith)

  -- a listed flow stands on arcs
  pub listed_on : (s : Shape) (gap : Arcs) → EachListed across (λ a b. gap 0 a b ≢ 0) → EachListed up (λ a b. gap 1 a b ≢ 0) → (dir : ℕ) → OnArcs s gap dir (numbers across up dir)
  listed_on s gap h k dir a b pa pb e =
      elim (ℕ_discrete (numbers across up dir a b) 0) [
        | yes z ↦ z
        | no d ↦ absurd (each_number (λ dir a b. gap dir a b ≢ 0) h k dir a b d e)
      ]

  pub listed_flows : (s : Shape) (gap : Arcs) → EachListed across (λ a b. gap 0 a b ≢ 0) → EachListed up (λ a b. gap 1 a b ≢ 0) → Each s.points (BalancedAt s 0 (numbers across up 0)) → Each s.points (BalancedAt s 1 (numbers across up 1)) → Flows s gap (numbers across up)
  listed_flows s gap h k x y =
      each_direction (λ dir. FlowOver s gap dir (numbers across up dir))
      (record { balanced = λ a n. each_of s.points _ x a n.1; on_arcs = listed_on s gap h k 0 })
      (record { balanced = λ a n. each_of s.points _ y a n.1; on_arcs = listed_on s gap h k 1 })

-- ---- a shape's wires
pub each_wire : (s : Shape) (P : ℕ → ℕ → Type 0) → Each s.points (λ v. s.next 0 v ≢ 0 → P 0 v) → Each s.points (λ v. s.next 1 v ≢ 0 → P 1 v) → (d v : ℕ) → Wire s d v → P d v
each_wire s P h k d v w =
    each_direction (λ d. s.next d v ≢ 0 → P d v) (each_of s.points (λ v. s.next 0 v ≢ 0 → P 0 v) h v w.1) (each_of s.points (λ v. s.next 1 v ≢ 0 → P 1 v) k v w.1) d w.0 w.2

pub listed_own : (s : Shape) (gap : Arcs) → Each s.points (λ v. s.next 0 v ≢ 0 → Arc gap 0 (segment s 0 v) (segment s 0 (s.next 0 v))) → Each s.points (λ v. s.next 1 v ≢ 0 → Arc gap 1 (segment s 1 v) (segment s 1 (s.next 1 v))) → HasOwn s (Arc gap)
listed_own s gap h k dir a b r =
    subst (λ (t : ℕ). Arc gap dir t b) r.2 (subst (λ (t : ℕ). Arc gap dir (segment s dir r.0) t) r.3
    (each_wire s (λ d v. Arc gap d (segment s d v) (segment s d (s.next d v))) h k dir r.0 r.1))

-- ---- pairs
-- the row r and the column c touch, or a path leads one of the ways
abbrev pub Kept : Shape → (ℕ → ℕ → ℕ → Type 0) → ℕ → ℕ → Type 0
Kept s arc r c = Touch s r c ⊎ ((k : ℕ) × Way s (λ dir. Path (arc dir)) k r c)

-- the pairs of the row r
abbrev pub KeptRow : Shape → (ℕ → ℕ → ℕ → Type 0) → ℕ → Type 0
KeptRow s arc r = Each s.points (λ c. segment s 0 c ≡ c → Kept s arc r c)

pub listed_closed : (s : Shape) (arc : ℕ → ℕ → ℕ → Type 0) → Each s.points (λ r. segment s 1 r ≡ r → KeptRow s arc r) → NoneOpen s arc
listed_closed s arc h r c o =
    elim (each_of s.points _ (each_of s.points _ h r o.0.1 o.0.2) c o.1.1 o.1.2) [
      | inl t ↦ o.2 t
      | inr w ↦ o.3 (o.2, w)
    ]

-- the pair of the row and the column of a point
pub kept_at : (s : Shape) (arc : ℕ → ℕ → ℕ → Type 0) (v : ℕ) → Point s v → Kept s arc (row s v) (column s v)
kept_at s arc v p = inl (v, p, refl, refl)

pub listed_untouched : (s : Shape) (r c : ℕ) → Each s.points (λ v. row s v ≡ r → column s v ≡ c → ⊥) → ¬ Touch s r c
listed_untouched s r c h t = each_of s.points _ h t.0 t.1 t.2 t.3

-- ---- places
pub listed_apart : (s : Shape) (c : Drawing) → Each s.points (λ v. Each s.points (λ w. place s c v 0 ≡ place s c w 0 → place s c v 1 ≡ place s c w 1 → v ≡ w)) → PointsApart s c
listed_apart s c h v w pv pw same = each_of s.points _ (each_of s.points _ h v pv) w pw (same 0 (omega arith)) (same 1 (omega arith))

-- ---- laws: some measure rises with each step to the right or above
module _ (s : Shape) (z : (dir : ℕ) → s.next dir 0 ≡ 0) (m : ℕ → ℕ → ℕ) (rises : (dir v : ℕ) → dir ≤ 1 → s.next dir v ≢ 0 → m dir v < m dir (s.next dir v)) where
  steps_rise : (dir k v : ℕ) → dir ≤ 1 → steps s dir (suc k) v ≢ 0 → m dir v < m dir (steps s dir (suc k) v)
  steps_rise dir zero v h d = rises dir v h d
  steps_rise dir (suc k) v h d =
      let e : steps s dir (suc k) v ≢ 0 = λ q. d (ap (s.next dir) q ∙ z dir) in
      omega (arith, steps_rise dir k v h e, rises dir (steps s dir (suc k) v) h d)

  pub never_back : (dir k v : ℕ) → dir ≤ 1 → Point s v → steps s dir (suc k) v ≢ v
  never_back dir k v h p e =
      let q = steps_rise dir k v h (λ n. not_none s v p (sym e ∙ n)) in
      let same : m dir (steps s dir (suc k) v) ≡ m dir v = ap (m dir) e in
      omega arith

pub lawful_rising : (s : Shape) → 1 ≤ s.points → s.points ≤ 128 → (from : (d v : ℕ) → s.next d v ≢ 0 → (d ≤ 3) × Point s v) → ((d v : ℕ) → s.next d v ≢ 0 → Point s (s.next d v)) → ((dir v w : ℕ) → dir ≤ 1 → Point s v → Point s w → (s.next dir v ≡ w) ↔ (s.next (dir + 2) w ≡ v)) → (m : ℕ → ℕ → ℕ) → ((dir v : ℕ) → dir ≤ 1 → s.next dir v ≢ 0 → m dir v < m dir (s.next dir v)) → Lawful s
lawful_rising s low high from to opposite m rises = lawful_by_forward s from to opposite low high (never_back s none m rises)
  where
    none : (dir : ℕ) → s.next dir 0 ≡ 0
    none dir = elim (ℕ_discrete (s.next dir 0) 0) [ yes e ↦ e | no d ↦ absurd (omega (arith, (from dir 0 d).1.0)) ]
