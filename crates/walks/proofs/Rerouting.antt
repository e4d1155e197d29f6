-- A circuit of the flow layer with a sum above 0 betters the flow. Assumes nothing.
use Rattle.std.proofs.Common.{◌≡◌, ℕ, ◌+◌, ◌<◌, ◌≤◌, Bool, true, false, cond, T, eqb, ltb, ◌≢◌, List, [], ◌∷◌, ℤ, pos, ◌+ℤ◌, ◌*ℤ◌, neg_ℤ, is_some, Some, None, Option, unwrap_or, sym, refl, ap, ◌∙◌, subst, ap₂, arith, ltb→lt}
use native.Mathlib.Decide.{ℕ_discrete}
use lib.IntN.{zero-*ℤ, suc_ℤ-*ℤ}
use borrow.Author.Differences.{ints}
use Rattle.std.specs.Option.{option_or, option_map}
use Rattle.walks.specs.Nodes.{Below, Apart, Distinct, Gaps, Arc, worth, Walk, origin, total}
use Rattle.walks.specs.Sums.{sum, sumZ, inflow, outflow}
use Rattle.walks.specs.Flows.{volume, layer, unit, forth, back, rerouted, CircuitBetters}
use Rattle.walks.proofs.Folds.{eqb_yes, eqb_no, fold_at, +-monoid, +ℤ-monoid, sum_same, sum_both, sum_zero, sumZ_same, sumZ_both, sumZ_zero, over-*ℤ}
use Rattle.walks.proofs.Longest.{closed_below}

-- ---- balances
module _ (n : ℕ) where
  in_unit : (u v c : ℕ) → u < n → inflow n (unit u v) c ≡ cond (eqb c v) 1 0
  in_unit u v c h = fold_at ◌+◌ 0 +-monoid n u (cond (eqb c v) 1 0) h

  out_by : (v : ℕ) → v < n → (t : Bool) → sum n (λ b. cond t (cond (eqb b v) 1 0) 0) ≡ cond t 1 0
  out_by v h true = fold_at ◌+◌ 0 +-monoid n v 1 h
  out_by v h false = sum_zero n

  out_unit : (u v c : ℕ) → v < n → outflow n (unit u v) c ≡ cond (eqb c u) 1 0
  out_unit u v c h = out_by v h (eqb c u)

  -- a step from u to v, along an arc or against one, moves one unit into v and one out of u
  step_into : (u v c : ℕ) → u < n → (t : Bool) → inflow n (λ a b. cond t (unit u v a b) 0) c + outflow n (λ a b. cond t 0 (unit v u a b)) c ≡ cond (eqb c v) 1 0
  step_into u v c h true = omega (arith, in_unit u v c h, sum_zero n)
  step_into u v c h false = omega (arith, out_unit v u c h, sum_zero n)

  step_out : (u v c : ℕ) → v < n → (t : Bool) → outflow n (λ a b. cond t (unit u v a b) 0) c + inflow n (λ a b. cond t 0 (unit v u a b)) c ≡ cond (eqb c u) 1 0
  step_out u v c h true = omega (arith, out_unit u v c h, sum_zero n)
  step_out u v c h false = omega (arith, in_unit v u c h, sum_zero n)

  walk_balance : (gap : Gaps) (v : ℕ) (l : List ℕ) (c : ℕ) → Below n (v ∷ l) → inflow n (forth gap v l) c + outflow n (back gap v l) c + cond (eqb c (origin v l)) 1 0 ≡ outflow n (forth gap v l) c + inflow n (back gap v l) c + cond (eqb c v) 1 0
  walk_balance gap v [] c b = refl
  walk_balance gap v (u ∷ l) c b =
      let ih = walk_balance gap u l c b.1 in
      let i = step_into u v c b.1.0 (is_some (gap u v)) in
      let o = step_out u v c b.0 (is_some (gap u v)) in
      let s1 = sum_both n (λ a. forth gap u l a c) (λ a. cond (is_some (gap u v)) (unit u v a c) 0) in
      let s2 = sum_both n (λ t. back gap u l c t) (λ t. cond (is_some (gap u v)) 0 (unit v u c t)) in
      let s3 = sum_both n (λ t. forth gap u l c t) (λ t. cond (is_some (gap u v)) (unit u v c t) 0) in
      let s4 = sum_both n (λ a. back gap u l a c) (λ a. cond (is_some (gap u v)) 0 (unit v u a c)) in
      omega arith

-- ---- sums
unit_times : (w : ℕ → ℕ → ℤ) (u v a b : ℕ) → pos (unit u v a b) *ℤ w a b ≡ cond (eqb a u) (cond (eqb b v) (w u v) (pos 0)) (pos 0)
unit_times w u v a b =
    elim (ℕ_discrete a u) [
      | no d ↦ rw (eqb_no a u d) (zero-*ℤ (w a b))
      | yes e ↦ elim (ℕ_discrete b v) [
        | no d ↦ rw (eqb_yes a u e, eqb_no b v d) (zero-*ℤ (w a b))
        | yes q ↦ rw (eqb_yes a u e, eqb_yes b v q) (one_times (w a b) ∙ ap₂ w e q)
      ]
    ]
  where
    one_times : (z : ℤ) → pos 1 *ℤ z ≡ z
    one_times z = suc_ℤ-*ℤ (pos 0) z ∙ (let p = zero-*ℤ z in omega (arith, ints))

-- a step of the layer is worth the gap along an arc, or minus the gap of the arc that it goes against
step_gap : (o p : Option ℤ) (t : Bool) → T (is_some (option_or o (cond t (option_map neg_ℤ p) None))) → cond (is_some o) (unwrap_or o (pos 0)) (pos 0) ≡ unwrap_or (option_or o (cond t (option_map neg_ℤ p) None)) (pos 0) +ℤ cond (is_some o) (pos 0) (unwrap_or p (pos 0))
step_gap (Some g) p t h = omega (arith, ints)
step_gap None (Some g) true h = omega (arith, ints)
step_gap None None true h = absurd h
step_gap None p false h = absurd h

module _ (n : ℕ) (gap : Gaps) where
  volume_both : (f g : ℕ → ℕ → ℕ) → volume n gap (λ a b. f a b + g a b) ≡ volume n gap f +ℤ volume n gap g
  volume_both f g =
      sumZ_same n _ _ (λ a h. sumZ_same n _ (λ b. pos (f a b) *ℤ worth gap a b +ℤ pos (g a b) *ℤ worth gap a b) (λ b k. over-*ℤ (pos (f a b)) (pos (g a b)) (worth gap a b))
      ∙ sumZ_both n (λ b. pos (f a b) *ℤ worth gap a b) (λ b. pos (g a b) *ℤ worth gap a b))
      ∙ sumZ_both n (λ a. sumZ n (λ b. pos (f a b) *ℤ worth gap a b)) (λ a. sumZ n (λ b. pos (g a b) *ℤ worth gap a b))

  volume_same : (f g : ℕ → ℕ → ℕ) → ((a b : ℕ) → f a b ≡ g a b) → volume n gap f ≡ volume n gap g
  volume_same f g h = sumZ_same n _ _ (λ a ha. sumZ_same n _ _ (λ b hb. ap (λ k. pos k *ℤ worth gap a b) (h a b)))

  volume_zero : volume n gap (λ a b. 0) ≡ pos 0
  volume_zero = sumZ_same n _ _ (λ a ha. sumZ_same n _ _ (λ b hb. zero-*ℤ (worth gap a b)) ∙ sumZ_zero n) ∙ sumZ_zero n

  row_at : (v : ℕ) → v < n → (k : ℤ) (t : Bool) → sumZ n (λ b. cond t (cond (eqb b v) k (pos 0)) (pos 0)) ≡ cond t k (pos 0)
  row_at v h k true = fold_at ◌+ℤ◌ (pos 0) +ℤ-monoid n v k h
  row_at v h k false = sumZ_zero n

  volume_unit : (u v : ℕ) → u < n → v < n → volume n gap (unit u v) ≡ worth gap u v
  volume_unit u v hu hv =
      sumZ_same n _ _ (λ a ha. sumZ_same n _ _ (λ b hb. unit_times (worth gap) u v a b) ∙ row_at v hv (worth gap u v) (eqb a u)) ∙ fold_at ◌+ℤ◌ (pos 0) +ℤ-monoid n u (worth gap u v) hu

  volume_along : (u v : ℕ) → u < n → v < n → (t : Bool) → volume n gap (λ a b. cond t (unit u v a b) 0) ≡ cond t (worth gap u v) (pos 0)
  volume_along u v hu hv true = volume_unit u v hu hv
  volume_along u v hu hv false = volume_zero

  volume_against : (u v : ℕ) → u < n → v < n → (t : Bool) → volume n gap (λ a b. cond t 0 (unit v u a b)) ≡ cond t (pos 0) (worth gap v u)
  volume_against u v hu hv true = volume_zero
  volume_against u v hu hv false = volume_unit v u hv hu

  -- what a walk of the layer sums to: what is gained along arcs less what is lost against them
  walk_volume : (f : ℕ → ℕ → ℕ) (v : ℕ) (l : List ℕ) → Below n (v ∷ l) → Walk (Arc (layer gap f)) v l → volume n gap (forth gap v l) ≡ total (worth (layer gap f)) v l +ℤ volume n gap (back gap v l)
  walk_volume f v [] b w = let z = volume_zero in omega (arith, ints)
  walk_volume f v (u ∷ l) b w =
      let ih = walk_volume f u l b.1 w.1 in
      let st = step_gap (gap u v) (gap v u) (ltb 0 (f v u)) w.0 in
      let p = volume_along u v b.1.0 b.0 (is_some (gap u v)) in
      let q = volume_against u v b.1.0 b.0 (is_some (gap u v)) in
      let s1 = volume_both (forth gap u l) (λ a c. cond (is_some (gap u v)) (unit u v a c) 0) in
      let s2 = volume_both (back gap u l) (λ a c. cond (is_some (gap u v)) 0 (unit v u a c)) in
      omega (arith, ints)

-- ---- cells
unit_le : (u v a b k : ℕ) → (a ≡ u → b ≡ v → 1 ≤ k) → unit u v a b ≤ k
unit_le u v a b k h =
    elim (ℕ_discrete a u) [
      | no d ↦ rw (eqb_no a u d) (omega arith)
      | yes e ↦ elim (ℕ_discrete b v) [
        | no d ↦ rw (eqb_yes a u e, eqb_no b v d) (omega arith)
        | yes q ↦ rw (eqb_yes a u e, eqb_yes b v q) (h e q)
      ]
    ]

unit_zero : (u v a b : ℕ) → (a ≡ u → b ≡ v → ⊥) → unit u v a b ≡ 0
unit_zero u v a b h = let k : unit u v a b ≤ 0 = unit_le u v a b 0 (λ e q. absurd (h e q)) in omega arith

-- a step against an arc has a cell above 0
against_there : (o p : Option ℤ) (k : ℕ) (t : Bool) → ltb 0 k ≡ t → T (is_some (option_or o (cond t (option_map neg_ℤ p) None))) → is_some o ≡ false → 1 ≤ k
against_there (Some g) p k t e h s = absurd (let y : ◌≡◌ {A = ℕ} 0 1 = cc in omega arith)
against_there None p k true e h s = ltb→lt 0 k (subst T (sym e) tt)
against_there None p k false e h s = absurd h

module _ (gap : Gaps) where
  along_zero : (u v a b : ℕ) → gap a b ≡ None → (o : Option ℤ) → gap u v ≡ o → cond (is_some o) (unit u v a b) 0 ≡ 0
  along_zero u v a b h None e = refl
  along_zero u v a b h (Some g) e = unit_zero u v a b (λ p q. let z : Some g ≡ None = sym e ∙ ap₂ gap (sym p) (sym q) ∙ h in let y : ◌≡◌ {A = ℕ} 0 1 = cc in omega arith)

  -- no walk goes along what is no arc
  forth_zero : (v : ℕ) (l : List ℕ) (a b : ℕ) → gap a b ≡ None → forth gap v l a b ≡ 0
  forth_zero v [] a b h = refl
  forth_zero v (u ∷ l) a b h = omega (arith, forth_zero u l a b h, along_zero u v a b h (gap u v) refl)

  against_zero : (u v a b : ℕ) → b ≢ u → (t : Bool) → cond t 0 (unit v u a b) ≡ 0
  against_zero u v a b d true = refl
  against_zero u v a b d false = unit_zero v u a b (λ e q. d q)

  back_zero : (v : ℕ) (l : List ℕ) (a b : ℕ) → Apart b l → back gap v l a b ≡ 0
  back_zero v [] a b d = refl
  back_zero v (u ∷ l) a b d = omega (arith, back_zero u l a b d.1, against_zero u v a b d.0 (is_some (gap u v)))

  against_le : (f : ℕ → ℕ → ℕ) (u v a b : ℕ) → Arc (layer gap f) u v → (t : Bool) → is_some (gap u v) ≡ t → cond t 0 (unit v u a b) ≤ f a b
  against_le f u v a b g true e = omega arith
  against_le f u v a b g false e = unit_le v u a b (f a b) (λ p q. rw (p, q) (against_there (gap u v) (gap v u) (f v u) (ltb 0 (f v u)) refl g e))

  -- where no node stands twice, a cell is lowered at most once, and only if it is above 0
  pub back_le : (f : ℕ → ℕ → ℕ) (v : ℕ) (l : List ℕ) → Walk (Arc (layer gap f)) v l → Distinct l → (a b : ℕ) → back gap v l a b ≤ f a b
  back_le f v [] w d a b = omega arith
  back_le f v (u ∷ l) w d a b =
      let k = against_le f u v a b w.0 (is_some (gap u v)) refl in
      elim (ℕ_discrete b u) [
        | yes e ↦ (let z = back_zero u l a b (rw e d.0) in omega arith)
        | no e ↦ omega (arith, against_zero u v a b e (is_some (gap u v)), back_le f u l w.1 d.1 a b)
      ]

circuit_betters_by_one : CircuitBetters 1
circuit_betters_by_one n gap f on c =
    let x = c.node in
    let l = c.loop in
    let U = forth gap x l in
    let D = back gap x l in
    let g = rerouted gap f 1 x l in
    let inside : Below n (x ∷ l) = (closed_below n x l c.within c.circuit.closed c.circuit.moves, c.within) in
    let low = back_le gap f x l c.circuit.walk c.circuit.simple in
    let cell : (a b : ℕ) → g a b + D a b ≡ f a b + U a b = λ a b. omega (arith, low a b) in
    let ins : (t : ℕ) → inflow n g t + inflow n D t ≡ inflow n f t + inflow n U t = λ t. sym (sum_both n (λ a. g a t) (λ a. D a t)) ∙ sum_same n _ _ (λ a h. cell a t) ∙ sum_both n (λ a. f a t) (λ a. U a t) in
    let outs : (t : ℕ) → outflow n g t + outflow n D t ≡ outflow n f t + outflow n U t = λ t. sym (sum_both n (λ b. g t b) (λ b. D t b)) ∙ sum_same n _ _ (λ b h. cell t b) ∙ sum_both n (λ b. f t b) (λ b. U t b) in
    let vols : volume n gap g +ℤ volume n gap D ≡ volume n gap f +ℤ volume n gap U = sym (volume_both n gap g D) ∙ volume_same n gap _ _ cell ∙ volume_both n gap f U in
    let turn : (t : ℕ) → inflow n U t + outflow n D t ≡ outflow n U t + inflow n D t = λ t.
    let b = subst (λ (o : ℕ). inflow n U t + outflow n D t + cond (eqb t o) 1 0 ≡ outflow n U t + inflow n D t + cond (eqb t x) 1 0) c.circuit.closed (walk_balance n gap x l t inside) in
    omega arith in
    record {
      on = λ a b ha hb e. omega (arith, on a b ha hb e, forth_zero gap x l a b e);
      balanced = λ t h. omega (arith, ins t, outs t, turn t);
      more = (let v = walk_volume n gap f x l inside c.circuit.walk in let w = c.gains in omega (arith, ints));
    }

pub circuit_betters : (k : ℕ) → k ≡ 1 → CircuitBetters k
circuit_betters k e = subst CircuitBetters (sym e) circuit_betters_by_one
