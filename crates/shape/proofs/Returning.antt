-- Following a chain to see whether it returns. Assumes nothing.
use Rattle.std.proofs.Common.{◌≡◌, ℕ, suc, ◌+◌, ◌-◌, ◌<◌, ◌≤◌, true, false, ◌≢◌, Decides, sym, refl, ap, ◌∙◌, inl, inr, arith, below_more}
use Rattle.std.proofs.lemmas.Bool.{cases_lt, false≢true}
use Rattle.segments.specs.Shapes.{Shape, Point, steps}
use Rattle.segments.proofs.Chains.{steps_on, steps_stay_none}
use Rattle.segments.proofs.Forward.{returns_soon}

pub decided_no : {P : Type 0} → ¬ P → Decides false P
decided_no n = (λ e. absurd (false≢true e), λ p. absurd (n p))

pub decided_yes : {P : Type 0} → P → Decides true P
decided_yes p = (λ e. p, λ q. refl)

module _ (s : Shape) (d v : ℕ) (none : s.next d 0 ≡ 0) (p : Point s v) where
  abbrev Return : Type 0
  Return = (k : ℕ) × (steps s d (suc k) v ≡ v)

  -- a chain that has ended does not return
  pub ended_no_return : (k : ℕ) → ((j : ℕ) → j < k → steps s d (suc j) v ≢ v) → s.next d (steps s d k v) ≡ 0 → ¬ Return
  ended_no_return k never e r =
      elim (cases_lt r.0 k) [
        | inl h ↦ never r.0 h r.1
        | inr h ↦
            let gone : steps s d (suc r.0) v ≡ 0 =
            steps_on s d (suc k) (suc r.0) v (omega arith) ∙ ap (steps s d (suc r.0 - suc k)) e ∙ steps_stay_none s d none (suc r.0 - suc k)
            in
            omega (arith, sym gone ∙ r.1, p.0)
      ]

  pub one_step_more : (k : ℕ) → ((j : ℕ) → j < k → steps s d (suc j) v ≢ v) → steps s d (suc k) v ≢ v → (j : ℕ) → j < k + 1 → steps s d (suc j) v ≢ v
  one_step_more k never here = below_more (λ (j : ℕ). steps s d (suc j) v ≢ v) k never here

  -- as many steps as points, and none led back
  pub long_no_return : ((u : ℕ) → Point s u → s.next d u ≢ 0 → Point s (s.next d u)) → (k : ℕ) → s.points ≤ k → ((j : ℕ) → j < k → steps s d (suc j) v ≢ v) → ¬ Return
  long_no_return onto k long never r = returns_soon s d v none onto p (λ j m. never j (omega arith)) r.0 r.1
