-- One unit on each wire is a flow; bettered until nothing is larger, it becomes a greatest one. Assumes nothing.
use Rattle.std.proofs.Common.{◌≡◌, ℕ, zero, suc, ◌+◌, ◌-◌, ◌<◌, ◌≤◌, Bool, true, false, cond, not, ◌&&◌, eqb, ◌≢◌, ℤ, pos, negsuc, ◌-ℤ◌, nat_abs, ◌≤ℤ◌, refl, ◌∙◌, ap₂, inl, inr, arith}
use native.Mathlib.Decide.{ℕ_discrete}
use borrow.Author.Differences.{ints}
use Rattle.std.proofs.lemmas.Bool.{eqb-true}
use Rattle.walks.specs.Sums.{sum}
use Rattle.walks.proofs.Folds.{eqb_yes, eqb_no, fold_at, fold_exchange, +-monoid, sum_same, sum_zero}
use Rattle.segments.specs.Shapes.{Shape, Lawful, Within}
use Rattle.segments.specs.Segments.{segment, ShapeArc}
use Rattle.drawings.specs.Arcs.{Arcs, Arc, BetweenNames, HasOwn}
use Rattle.drawings.specs.Drawings.{Drawing, Obeys, length_along}
use Rattle.drawings.specs.Flows.{far_ends_of, near_ends_of, incoming, outgoing, FlowOver, flow_sum, GreatestAlong, Flow, units, drawn}
use Rattle.drawings.specs.Theorems.{GreatestFlowExists}
use Rattle.drawings.proofs.Nodes.{node_point}
use Rattle.drawings.proofs.Totals.{both_true, wired, near_named, far_named}
use Rattle.drawings.proofs.Greatest.{greatest_or_larger}
use Rattle.drawings.proofs.Coordinates.{draft_exists}
use Rattle.drawings.proofs.Shortest.{flow_below_length}

-- ---- sums of marks
mark_is : (k j : ℕ) → 1 ≤ k → ◌≡◌ {A = ℕ} (cond (eqb k (suc j)) 1 0) (cond (eqb j (k - 1)) 1 0)
mark_is k j h =
    elim (ℕ_discrete k (suc j)) [
      | yes e ↦ (let d : j ≡ k - 1 = omega arith in rw (eqb_yes k (suc j) e, eqb_yes j (k - 1) d) refl)
      | no n ↦ (let d : j ≢ k - 1 = λ q. n (omega arith) in rw (eqb_no k (suc j) n, eqb_no j (k - 1) d) refl)
    ]

mark_counts : (n k : ℕ) (b : Bool) → (b ≡ true → Within n k) → sum n (λ j. cond (b && eqb k (suc j)) 1 0) ≡ cond b 1 0
mark_counts n k false h = sum_zero n
mark_counts n k true h = let p = h refl in sum_same n _ (λ j. cond (eqb j (k - 1)) 1 0) (λ j l. mark_is k j p.0) ∙ fold_at ◌+◌ 0 +-monoid n (k - 1) 1 (omega (arith, p.0, p.1))

-- marks, each counted at a point of its own, count as many as there are
marks_count : (n : ℕ) (m : ℕ → Bool) (k : ℕ → ℕ) → ((v : ℕ) → m v ≡ true → Within n (k v)) → sum n (λ j. sum n (λ v. cond (m v && eqb (k v) (suc j)) 1 0)) ≡ sum n (λ v. cond (m v) 1 0)
marks_count n m k h =
    fold_exchange ◌+◌ 0 +-monoid n n (λ j v. cond (m v && eqb (k v) (suc j)) 1 0) ∙ sum_same n _ _ (λ v l. mark_counts n (k v) (m v) (h v))

last_first : (t x u : Bool) → ◌≡◌ {A = ℕ} (cond (t && (x && u)) 1 0) (cond ((t && u) && x) 1 0)
last_first false x u = refl
last_first true false false = refl
last_first true false true = refl
last_first true true false = refl
last_first true true true = refl

regroup : (t x u : Bool) → ◌≡◌ {A = ℕ} (cond (t && (u && x)) 1 0) (cond ((t && u) && x) 1 0)
regroup false x u = refl
regroup true x u = refl

-- ---- one unit on each wire
module _ (s : Shape) (L : Lawful s) (dir : ℕ) (hd : dir ≤ 1) where
  units_come_in : (a : ℕ) → incoming s (units s dir) a ≡ far_ends_of s dir a
  units_come_in a =
      sum_same s.points _ _ (λ j l. sum_same s.points _ _ (λ v l. last_first (not (eqb (s.next dir (suc v)) 0)) (eqb (segment s dir (suc v)) (suc j)) (eqb (segment s dir (s.next dir (suc v))) a)))
      ∙ marks_count s.points (λ v. not (eqb (s.next dir (suc v)) 0) && eqb (segment s dir (s.next dir (suc v))) a) (λ v. segment s dir (suc v)) (λ v e. (near_named s L dir hd (suc v) (both_true _ _ e).0).1)

  units_go_out : (a : ℕ) → outgoing s (units s dir) a ≡ near_ends_of s dir a
  units_go_out a =
      sum_same s.points _ _ (λ j l. sum_same s.points _ _ (λ v l. regroup (not (eqb (s.next dir (suc v)) 0)) (eqb (segment s dir (s.next dir (suc v))) (suc j)) (eqb (segment s dir (suc v)) a)))
      ∙ marks_count s.points (λ v. not (eqb (s.next dir (suc v)) 0) && eqb (segment s dir (suc v)) a) (λ v. segment s dir (s.next dir (suc v))) (λ v e. (far_named s L dir hd (suc v) (both_true _ _ e).0).1)

  some_term : (n : ℕ) (f : ℕ → ℕ) → sum n f ≢ 0 → (i : ℕ) × (i < n) × (f i ≢ 0)
  some_term zero f h = absurd (h refl)
  some_term (suc n) f h =
      elim (ℕ_discrete (f n) 0) [
        | no d ↦ (n, omega arith, d)
        | yes e ↦ (let r = some_term n f (λ z. h (omega arith)) in (r.0, omega (arith, r.1), r.2))
      ]

  marked : (b : Bool) → ◌≢◌ {A = ℕ} (cond b 1 0) 0 → b ≡ true
  marked true h = refl
  marked false h = absurd (h refl)

  -- a unit stands on an arc of the shape
  pub unit_own : (a b : ℕ) → units s dir a b ≢ 0 → ShapeArc s dir a b
  unit_own a b d =
      let r = some_term s.points _ d in
      let v = suc r.0 in
      let m = both_true (not (eqb (s.next dir v) 0)) (eqb (segment s dir v) a && eqb (segment s dir (s.next dir v)) b) (marked _ r.2) in
      let k = both_true (eqb (segment s dir v) a) (eqb (segment s dir (s.next dir v)) b) m.1 in
      (v, (hd, node_point s r.0 r.1, wired s L dir hd v m.0), eqb-true _ a k.0, eqb-true _ b k.1)

  pub units_flow : (gap : Arcs) → HasOwn s (Arc gap) → FlowOver s gap dir (units s dir)
  units_flow gap own =
      record {
        balanced = λ a n. ap₂ (λ i o. pos i -ℤ pos o) (units_come_in a) (units_go_out a);
        on_arcs = λ a b pa pb e. elim (ℕ_discrete (units s dir a b) 0) [ yes z ↦ z | no d ↦ absurd (omega (arith, own dir a b (unit_own a b d))) ];
      }

-- ---- bettered until nothing is larger: a drawing that obeys says how large a sum can be
module _ (s : Shape) (L : Lawful s) (gap : Arcs) (between : BetweenNames s (Arc gap)) (e : Drawing) (obeys : Obeys gap e) (dir : ℕ) (hd : dir ≤ 1) where
  at_most : (f : ℕ → ℕ → ℕ) → FlowOver s gap dir f → flow_sum s gap dir f ≤ nat_abs (length_along s e dir)
  at_most f flow = small _ _ (flow_below_length s L gap between dir hd f flow e obeys)
    where
      small : (m : ℕ) (z : ℤ) → pos m ≤ℤ z → m ≤ nat_abs z
      small m (pos n) h = omega (arith, ints)
      small m (negsuc n) h = absurd (omega (arith, ints))

  bettered : (k : ℕ) (f : ℕ → ℕ → ℕ) → FlowOver s gap dir f → nat_abs (length_along s e dir) < flow_sum s gap dir f + k → (g : ℕ → ℕ → ℕ) × GreatestAlong s gap dir g
  bettered zero f flow h = absurd (omega (arith, at_most f flow))
  bettered (suc k) f flow h =
      elim (greatest_or_larger s L gap between dir hd f flow) [
        | inl best ↦ (f, best)
        | inr b ↦ bettered k b.0 b.1 (omega (arith, b.2))
      ]

  pub some_greatest : (f : ℕ → ℕ → ℕ) → FlowOver s gap dir f → (g : ℕ → ℕ → ℕ) × GreatestAlong s gap dir g
  some_greatest f flow = bettered (suc (nat_abs (length_along s e dir))) f flow (omega arith)

-- cells for each direction
abbrev both_ways : (ℕ → ℕ → ℕ) → (ℕ → ℕ → ℕ) → Flow
both_ways f g zero = f
both_ways f g (suc dir) = g

pub greatest_flow_exists : GreatestFlowExists
greatest_flow_exists s L gap between own clear = (both_ways (made 0 (omega arith)).0 (made 1 (omega arith)).0, best)
  where
    made : (dir : ℕ) → dir ≤ 1 → (g : ℕ → ℕ → ℕ) × GreatestAlong s gap dir g
    made dir h = let d = draft_exists s L gap between clear in some_greatest s L gap between (drawn d.0) d.1.holds dir h (units s dir) (units_flow s L dir h gap own)

    best : (dir : ℕ) → dir ≤ 1 → GreatestAlong s gap dir (both_ways (made 0 (omega arith)).0 (made 1 (omega arith)).0 dir)
    best zero h = (made 0 (omega arith)).1
    best (suc zero) h = (made 1 (omega arith)).1
    best (suc (suc n)) h = absurd (omega arith)
