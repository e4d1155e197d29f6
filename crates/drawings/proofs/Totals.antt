-- The length of a drawing's wires by the needs of its segments, and as what a balanced flow spans. Assumes nothing.
use Rattle.std.proofs.Common.{◌≡◌, ℕ, suc, ◌-◌, ◌<◌, ◌≤◌, Bool, true, false, cond, not, ◌&&◌, eqb, ◌≢◌, ℤ, pos, ◌+ℤ◌, ◌-ℤ◌, ◌*ℤ◌, sym, refl, ap, ◌∙◌, subst, ap₂, arith}
use native.Mathlib.Decide.{ℕ_discrete}
use lib.IntN.{zero-*ℤ}
use borrow.Author.Differences.{ints}
use Rattle.std.proofs.lemmas.Bool.{eqb-true, eqb-false}
use Rattle.walks.specs.Sums.{sum, sumZ, span}
use Rattle.walks.proofs.Folds.{eqb_yes, eqb_no, fold_at, fold_exchange, +ℤ-monoid, sum_same, sum_zero, sumZ_same, sumZ_both, sumZ_zero, sumZ_times, over-*ℤ, pos_sum, span_gathered}
use Rattle.segments.specs.Shapes.{Shape, Lawful, Point, Within}
use Rattle.segments.specs.Segments.{segment, Named}
use Rattle.segments.proofs.Chains.{segment_named}
use Rattle.drawings.specs.Arcs.{Arcs, Arc, BetweenNames}
use Rattle.drawings.specs.Drawings.{Drawing, length_along, total}
use Rattle.drawings.specs.Flows.{sum_points, far_ends_of, near_ends_of, need, BalancedAt, FlowOver}
use Rattle.drawings.specs.Graphs.{cells}
use Rattle.drawings.specs.Theorems.{sum_segments, TotalByNeed}
use Rattle.drawings.proofs.Nodes.{node_point}

-- ---- tests
pub not_false : (b : Bool) → not b ≡ true → b ≡ false
not_false true e = absurd (let z : ◌≡◌ {A = ℕ} 0 1 = cc in omega arith)
not_false false e = refl

pub both_true : (a b : Bool) → (a && b) ≡ true → (a ≡ true) × (b ≡ true)
both_true true b e = (refl, e)
both_true false b e = absurd (let z : ◌≡◌ {A = ℕ} 0 1 = cc in omega arith)

mark_zero : (b : Bool) → (b ≡ true → ⊥) → ◌≡◌ {A = ℕ} (cond b 1 0) 0
mark_zero true h = absurd (h refl)
mark_zero false h = refl

pub sum_none : (n : ℕ) (f : ℕ → ℕ) → ((i : ℕ) → i < n → f i ≡ 0) → sum n f ≡ 0
sum_none n f h = sum_same n f (λ _. 0) h ∙ sum_zero n

-- ---- marks counted at the point of each: b says whether there is one, and k is its point
one_times : (x : ℤ) → pos 1 *ℤ x ≡ x
one_times x = omega (arith, ints)

mark_term : (k i : ℕ) (F : ℕ → ℤ) → 1 ≤ k → pos (cond (eqb k (suc i)) 1 0) *ℤ F (suc i) ≡ cond (eqb i (k - 1)) (F k) (pos 0)
mark_term k i F h =
    elim (ℕ_discrete k (suc i)) [
      | yes e ↦ (let d : i ≡ k - 1 = omega arith in rw (eqb_yes k (suc i) e, eqb_yes i (k - 1) d) (one_times (F (suc i)) ∙ ap F (sym e)))
      | no n ↦ (let d : i ≢ k - 1 = λ q. n (omega arith) in rw (eqb_no k (suc i) n, eqb_no i (k - 1) d) (zero-*ℤ (F (suc i))))
    ]

mark_once : (n : ℕ) (b : Bool) (k : ℕ) (F : ℕ → ℤ) → (b ≡ true → Within n k) → sumZ n (λ i. pos (cond (b && eqb k (suc i)) 1 0) *ℤ F (suc i)) ≡ cond b (F k) (pos 0)
mark_once n false k F h = sumZ_same n _ (λ _. pos 0) (λ i l. zero-*ℤ (F (suc i))) ∙ sumZ_zero n
mark_once n true k F h =
    let p = h refl in
    sumZ_same n _ (λ i. cond (eqb i (k - 1)) (F k) (pos 0)) (λ i l. mark_term k i F p.0) ∙ fold_at ◌+ℤ◌ (pos 0) +ℤ-monoid n (k - 1) (F k) (omega (arith, p.0, p.1))

pub gathered : (n : ℕ) (t : ℕ → Bool) (q : ℕ → ℕ) (F : ℕ → ℤ) → ((v : ℕ) → v < n → t v ≡ true → Within n (q v)) → sumZ n (λ i. pos (sum n (λ v. cond (t v && eqb (q v) (suc i)) 1 0)) *ℤ F (suc i)) ≡ sumZ n (λ v. cond (t v) (F (q v)) (pos 0))
gathered n t q F h =
    sumZ_same n _ (λ i. sumZ n (λ v. pos (cond (t v && eqb (q v) (suc i)) 1 0) *ℤ F (suc i))) (λ i l.
    ap (λ z. z *ℤ F (suc i)) (pos_sum n (λ v. cond (t v && eqb (q v) (suc i)) 1 0)) ∙ sumZ_times n (λ v. pos (cond (t v && eqb (q v) (suc i)) 1 0)) (F (suc i)))
    ∙ fold_exchange ◌+ℤ◌ (pos 0) +ℤ-monoid n n (λ i v. pos (cond (t v && eqb (q v) (suc i)) 1 0) *ℤ F (suc i))
    ∙ sumZ_same n _ _ (λ v l. mark_once n (t v) (q v) F (h v l))

less_times : (i o x : ℤ) → (i -ℤ o) *ℤ x +ℤ o *ℤ x ≡ i *ℤ x
less_times i o x = sym (over-*ℤ (i -ℤ o) o x) ∙ (let e : (i -ℤ o) +ℤ o ≡ i = omega (arith, ints) in ap (λ t. t *ℤ x) e)

wire_parts : (b : Bool) (x y : ℤ) → cond b (pos 0) (x -ℤ y) +ℤ cond (not b) y (pos 0) ≡ cond (not b) x (pos 0)
wire_parts true x y = refl
wire_parts false x y = omega (arith, ints)

-- ---- the wires of one direction
module _ (s : Shape) (L : Lawful s) (dir : ℕ) (hd : dir ≤ 1) where
  pub wired : (v : ℕ) → not (eqb (s.next dir v) 0) ≡ true → s.next dir v ≢ 0
  wired v e q = eqb-false (s.next dir v) 0 (not_false _ e) q

  pub near_named : (v : ℕ) → not (eqb (s.next dir v) 0) ≡ true → Named s dir (segment s dir v)
  near_named v e = segment_named s L dir v hd (L.from_points dir v (wired v e)).1

  pub far_named : (v : ℕ) → not (eqb (s.next dir v) 0) ≡ true → Named s dir (segment s dir (s.next dir v))
  far_named v e = segment_named s L dir (s.next dir v) hd (L.to_points dir v (wired v e))

  far_gathered : (F : ℕ → ℤ) → sumZ s.points (λ i. pos (far_ends_of s dir (suc i)) *ℤ F (suc i)) ≡ sumZ s.points (λ i. cond (not (eqb (s.next dir (suc i)) 0)) (F (segment s dir (s.next dir (suc i)))) (pos 0))
  far_gathered F = gathered s.points (λ i. not (eqb (s.next dir (suc i)) 0)) (λ i. segment s dir (s.next dir (suc i))) F (λ i l e. (far_named (suc i) e).1)

  near_gathered : (F : ℕ → ℤ) → sumZ s.points (λ i. pos (near_ends_of s dir (suc i)) *ℤ F (suc i)) ≡ sumZ s.points (λ i. cond (not (eqb (s.next dir (suc i)) 0)) (F (segment s dir (suc i))) (pos 0))
  near_gathered F = gathered s.points (λ i. not (eqb (s.next dir (suc i)) 0)) (λ i. segment s dir (suc i)) F (λ i l e. (near_named (suc i) e).1)

  -- the wires of a direction are as long as need times coordinate
  pub length_by_need : (c : Drawing) → length_along s c dir ≡ sumZ s.points (λ i. need s dir (suc i) *ℤ c dir (suc i))
  length_by_need c =
      joined _ _ _ _ _ _
      (sym (sumZ_both s.points (λ i. need s dir (suc i) *ℤ c dir (suc i)) (λ i. pos (near_ends_of s dir (suc i)) *ℤ c dir (suc i)))
      ∙ sumZ_same s.points _ _ (λ i l. less_times (pos (far_ends_of s dir (suc i))) (pos (near_ends_of s dir (suc i))) (c dir (suc i))))
      (near_gathered (c dir)) (far_gathered (c dir))
      (sym (sumZ_both s.points _ _)
      ∙ sumZ_same s.points _ _ (λ i l. wire_parts (eqb (s.next dir (suc i)) 0) (c dir (segment s dir (s.next dir (suc i)))) (c dir (segment s dir (suc i)))))
    where
      joined : (len by near far a b : ℤ) → by +ℤ near ≡ far → near ≡ a → far ≡ b → len +ℤ a ≡ b → len ≡ by
      joined len by near far a b p q r t = omega (arith, ints)

  -- a point that names no segment has no need
  pub no_need : (a : ℕ) → segment s dir a ≢ a → need s dir a ≡ pos 0
  no_need a d =
      let f : far_ends_of s dir a ≡ 0 = sum_none s.points _ (λ i l. mark_zero _ (λ e. let r = both_true _ _ e in d (named (eqb-true _ a r.1) (far_named (suc i) r.0)))) in
      let n : near_ends_of s dir a ≡ 0 = sum_none s.points _ (λ i l. mark_zero _ (λ e. let r = both_true _ _ e in d (named (eqb-true _ a r.1) (near_named (suc i) r.0)))) in
      omega (arith, ints)
    where
      named : {b : ℕ} → b ≡ a → Named s dir b → segment s dir a ≡ a
      named e n = subst (λ (t : ℕ). segment s dir t ≡ t) e n.2

  pub length_by_segments : (c : Drawing) → length_along s c dir ≡ sum_segments s.points s dir (λ a. need s dir a *ℤ c dir a)
  length_by_segments c = length_by_need c ∙ sumZ_same s.points _ _ (λ i l. only (suc i))
    where
      only : (a : ℕ) → need s dir a *ℤ c dir a ≡ cond (eqb (segment s dir a) a) (need s dir a *ℤ c dir a) (pos 0)
      only a =
          elim (ℕ_discrete (segment s dir a) a) [
            | yes e ↦ rw (eqb_yes (segment s dir a) a e) refl
            | no d ↦ rw (eqb_no (segment s dir a) a d) (ap (λ t. t *ℤ c dir a) (no_need a d) ∙ zero-*ℤ (c dir a))
          ]

  -- ---- a balanced flow
  module _ (gap : Arcs) (between : BetweenNames s (Arc gap)) (f : ℕ → ℕ → ℕ) (flow : FlowOver s gap dir f) where
    -- nothing flows at a point that names no segment, so the balance holds at every point
    pub balanced_at : (a : ℕ) → Point s a → BalancedAt s dir f a
    balanced_at a p =
        elim (ℕ_discrete (segment s dir a) a) [
          | yes e ↦ flow.balanced a (hd, p, e)
          | no d ↦ (
              let z = no_need a d in
              let i : sum_points s (λ b. f b a) ≡ 0 = sum_none s.points _ (λ j l. flow.on_arcs (suc j) a (node_point s j l) p (off d (suc j) a (λ n. n.1))) in
              let o : sum_points s (λ b. f a b) ≡ 0 = sum_none s.points _ (λ j l. flow.on_arcs a (suc j) p (node_point s j l) (off d a (suc j) (λ n. n.0))) in
              omega (arith, ints))
        ]
      where
        off : segment s dir a ≢ a → (x y : ℕ) → (Named s dir x × Named s dir y → Named s dir a) → gap dir x y ≡ 0
        off d x y n = elim (ℕ_discrete (gap dir x y) 0) [ yes e ↦ e | no h ↦ absurd (d (n (between dir x y (omega arith))).2) ]

    -- the wires are as long as what flows
    pub length_is_span : (c : Drawing) → length_along s c dir ≡ span s.points (cells f) (λ i. c dir (suc i))
    length_is_span c =
        length_by_need c
        ∙ sumZ_same s.points _ _ (λ i l. ap (λ t. t *ℤ c dir (suc i)) (sym (balanced_at (suc i) (node_point s i l))))
        ∙ sym (span_gathered s.points (cells f) (λ i. c dir (suc i)))

total_gathered : (s : Shape) → Lawful s → (c : Drawing) → total s c ≡ sum_segments s.points s 0 (λ a. need s 0 a *ℤ c 0 a) +ℤ sum_segments s.points s 1 (λ a. need s 1 a *ℤ c 1 a)
total_gathered s L c = ap₂ ◌+ℤ◌ (length_by_segments s L 0 (omega arith) c) (length_by_segments s L 1 (omega arith) c)

pub total_by_need : (n k : ℕ) → n ≡ k → TotalByNeed n k
total_by_need n k e =
    record {
      gathered = λ s L m c. subst (λ (j : ℕ). total s c ≡ sum_segments j s 0 (λ a. need s 0 a *ℤ c 0 a) +ℤ sum_segments j s 1 (λ a. need s 1 a *ℤ c 1 a)) (m ∙ e) (total_gathered s L c);
    }
