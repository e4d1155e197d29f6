-- What the answers to the right and above settle: the laws, and the whole shape. Assumes nothing.
use Rattle.std.proofs.Common.{◌≡◌, ℕ, zero, suc, ◌+◌, ◌-◌, ◌<◌, ◌≤◌, ◌≢◌, ◌⊎◌, ◌↔◌, sym, refl, ap, ◌∙◌, subst, inl, inr, arith}
use native.Mathlib.Decide.{ℕ_discrete}
use Rattle.std.proofs.lemmas.Bool.{cases_lt}
use Rattle.segments.specs.Shapes.{Shape, Lawful, Point, Same, steps}
use Rattle.segments.proofs.Chains.{steps_first, steps_add, steps_on, steps_stay_none, not_none, distinct_chain_short}

-- a side that is none of the first two is opposite to one of them, or no side
pub sides : (d : ℕ) → (d ≤ 1) ⊎ (((dir : ℕ) × (dir ≤ 1) × (d ≡ dir + 2)) ⊎ (3 < d))
sides d =
    elim (cases_lt d 2) [
      | inl h ↦ inl (omega arith)
      | inr h ↦ elim (cases_lt d 4) [ inl k ↦ inr (inl (d - 2, omega arith, omega arith)) | inr k ↦ inr (inr (omega arith)) ]
    ]

-- ---- a chain that returns does so within as many steps as there are points
module _ (s : Shape) (d v : ℕ) (z : s.next d 0 ≡ 0) (to : (u : ℕ) → Point s u → s.next d u ≢ 0 → Point s (s.next d u)) (p : Point s v) where
  on_circle : (k i : ℕ) → i ≤ k → steps s d k v ≡ v → Point s (steps s d i v)
  on_circle k zero h e = p
  on_circle k (suc i) h e =
      elim (ℕ_discrete (steps s d (suc i) v) 0) [
        | yes n ↦ absurd (not_none s v p (sym e ∙ steps_on s d (suc i) k v h ∙ ap (steps s d (k - suc i)) n ∙ steps_stay_none s d z (k - suc i)))
        | no n ↦ to (steps s d i v) (on_circle k i (omega arith) e) n
      ]

  pub returns_soon : ((i : ℕ) → i < s.points → steps s d (suc i) v ≢ v) → (k : ℕ) → steps s d (suc k) v ≢ v
  returns_soon never k e =
      elim (cases_lt k s.points) [
        | inl h ↦ never k h e
        | inr h ↦ absurd (omega (arith, distinct_chain_short s d v s.points (λ i l. on_circle (suc k) i (omega arith) e) differ))
      ]
    where
      differ : (i j : ℕ) → i < j → j ≤ s.points → steps s d j v ≢ steps s d i v
      differ i j l m q =
          elim (cases_lt k s.points) [
            | inl h ↦ never k h e
            | inr h ↦
                let rest = suc k - i in
                let whole : rest + i ≡ suc k = omega arith in
                let there : steps s d (rest + j) v ≡ v = steps_add s d rest j v ∙ ap (steps s d rest) q ∙ sym (steps_add s d rest i v) ∙ ap (λ (t : ℕ). steps s d t v) whole ∙ e in
                let split : rest + j ≡ suc (j - suc i) + suc k = omega arith in
                never (j - suc i) (omega arith) (sym (ap (steps s d (suc (j - suc i))) e) ∙ sym (steps_add s d (suc (j - suc i)) (suc k) v) ∙ ap (λ (t : ℕ). steps s d t v) (sym split) ∙ there)
          ]

-- ---- the laws, from chains to the right and above alone
module _ (s : Shape) (from : (d v : ℕ) → s.next d v ≢ 0 → (d ≤ 3) × Point s v) (to : (d v : ℕ) → s.next d v ≢ 0 → Point s (s.next d v)) (opposite : (dir v w : ℕ) → dir ≤ 1 → Point s v → Point s w → (s.next dir v ≡ w) ↔ (s.next (dir + 2) w ≡ v)) where
  -- k steps back and k steps on lead to where they began
  back_and_on : (dir : ℕ) → dir ≤ 1 → (k v : ℕ) → Point s v → Point s (steps s (dir + 2) k v) → steps s dir k (steps s (dir + 2) k v) ≡ v
  back_and_on dir h zero v p q = refl
  back_and_on dir h (suc k) v p q =
      let u = steps s (dir + 2) k v in
      let pu = (from (dir + 2) u (not_none s _ q)).1 in
      sym (steps_first s dir k _) ∙ ap (steps s dir k) ((opposite dir (s.next (dir + 2) u) u h q pu).1 refl) ∙ back_and_on dir h k v p pu

  pub lawful_by_forward : 1 ≤ s.points → s.points ≤ 128 → ((dir k v : ℕ) → dir ≤ 1 → Point s v → steps s dir (suc k) v ≢ v) → Lawful s
  lawful_by_forward low high onward = record {
    some = low;
    few = high;
    from_points = from;
    to_points = to;
    opposite = opposite;
    never_returns = λ d k v p e. elim (sides d) [
      | inl h ↦ onward d k v h p e
      | inr r ↦ elim r [
        | inl b ↦
            let back : steps s (b.0 + 2) (suc k) v ≡ v = subst (λ (t : ℕ). steps s t (suc k) v ≡ v) b.2 e in
            onward b.0 k v b.1 p (sym (ap (steps s b.0 (suc k)) back) ∙ back_and_on b.0 b.1 (suc k) v p (subst (Point s) (sym back) p))
        | inr h ↦ omega (arith, (from d (steps s d k v) (λ n. not_none s v p (sym e ∙ n))).0)
      ]
    ];
  }

-- ---- two lawful shapes that agree to the right and above agree everywhere
module _ (s t : Shape) (L : Lawful s) (M : Lawful t) (n : s.points ≡ t.points) (agree : (dir v : ℕ) → dir ≤ 1 → Point s v → s.next dir v ≡ t.next dir v) where
  there : (v : ℕ) → Point s v → Point t v
  there v p = (p.0, omega (arith, p.1))

  back : (v : ℕ) → Point t v → Point s v
  back v p = (p.0, omega (arith, p.1))

  -- what s answers, t answers
  answers_backward : (dir v : ℕ) → dir ≤ 1 → s.next (dir + 2) v ≢ 0 → t.next (dir + 2) v ≡ s.next (dir + 2) v
  answers_backward dir v h w =
      let u = s.next (dir + 2) v in
      let pv = (L.from_points (dir + 2) v w).1 in
      let pu = L.to_points (dir + 2) v w in
      (M.opposite dir u v h (there u pu) (there v pv)).0 (sym (agree dir u h pu) ∙ (L.opposite dir u v h pu pv).1 refl)

  answers_backward_too : (dir v : ℕ) → dir ≤ 1 → t.next (dir + 2) v ≢ 0 → s.next (dir + 2) v ≡ t.next (dir + 2) v
  answers_backward_too dir v h w =
      let u = t.next (dir + 2) v in
      let pv = back v (M.from_points (dir + 2) v w).1 in
      let pu = back u (M.to_points (dir + 2) v w) in
      (L.opposite dir u v h pu pv).0 (agree dir u h pu ∙ (M.opposite dir u v h (there u pu) (there v pv)).1 refl)

  backward : (dir v : ℕ) → dir ≤ 1 → s.next (dir + 2) v ≡ t.next (dir + 2) v
  backward dir v h =
      elim (ℕ_discrete (s.next (dir + 2) v) 0) [
        | no w ↦ sym (answers_backward dir v h w)
        | yes e ↦ elim (ℕ_discrete (t.next (dir + 2) v) 0) [ yes f ↦ e ∙ sym f | no w ↦ answers_backward_too dir v h w ]
      ]

  forward : (dir v : ℕ) → dir ≤ 1 → s.next dir v ≡ t.next dir v
  forward dir v h =
      elim (ℕ_discrete (s.next dir v) 0) [
        | no w ↦ agree dir v h (L.from_points dir v w).1
        | yes e ↦ elim (ℕ_discrete (t.next dir v) 0) [ yes f ↦ e ∙ sym f | no w ↦ agree dir v h (back v (M.from_points dir v w).1) ]
      ]

  none_beyond : (u : Shape) → Lawful u → (d v : ℕ) → 3 < d → u.next d v ≡ 0
  none_beyond u K d v h = elim (ℕ_discrete (u.next d v) 0) [ yes e ↦ e | no w ↦ absurd (omega (arith, (K.from_points d v w).0)) ]

  pub same_by_forward : Same s t
  same_by_forward = record {
    points = n;
    next = λ d v. elim (sides d) [
      | inl h ↦ forward d v h
      | inr r ↦ elim r [
        | inl b ↦ ap (λ (k : ℕ). s.next k v) b.2 ∙ backward b.0 v b.1 ∙ ap (λ (k : ℕ). t.next k v) (sym b.2)
        | inr h ↦ none_beyond s L d v h ∙ sym (none_beyond t M d v h)
      ]
    ];
  }

-- ---- points without wires keep the laws
pub unwired_lawful : (s : Shape) → 1 ≤ s.points → s.points ≤ 128 → ((d v : ℕ) → s.next d v ≡ 0) → Lawful s
unwired_lawful s low high none = record {
  some = low;
  few = high;
  from_points = λ d v h. absurd (h (none d v));
  to_points = λ d v h. absurd (h (none d v));
  opposite = λ dir v w h p q. (λ e. absurd (omega (arith, none dir v, q.0)), λ e. absurd (omega (arith, none (dir + 2) w, p.0)));
  never_returns = λ d k v p e. omega (arith, none d (steps s d k v), p.0);
}
