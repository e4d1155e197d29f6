-- One step along a chain, as a source tells it. Assumes nothing.
use Rattle.std.proofs.Common.{◌≡◌, ℕ, ◌<◌, ◌≤◌, Bool, true, false, Some, Decides, sym, refl, ap, ◌∙◌, subst, arith}
use native.Mathlib.Decide.{ℕ_discrete}
use Rattle.std.specs.Bool.{then_some}
use Rattle.std.proofs.lemmas.Bool.Decides.{not_from_Decides}
use Rattle.segments.specs.Shapes.{Shape, Lawful, Point}
use Rattle.segments.specs.Segments.{Ends, last}
use Rattle.segments.proofs.Chains.{ahead, ahead_falls, last_next, last_here, last_ends}
use Rattle.shape.specs.Ends.{TellsEnd}

module _ (s : Shape) (L : Lawful s) (d at : ℕ) (p : Point s at) where
  module _ (next : ℕ) (told : (next ≡ s.next d at) × (1 ≤ s.next d at)) where
    joined : s.next d at ≡ 0 → ⊥
    joined e = omega (arith, told.1)

    pub told_point : Point s next
    told_point = subst (Point s) (sym told.0) (L.to_points d at joined)

    pub told_ahead : ahead s d next < ahead s d at
    told_ahead = subst (λ (x : ℕ). ahead s d x < ahead s d at) (sym told.0) (ahead_falls s L d at p joined)

    pub told_last : last s d next ≡ last s d at
    told_last = ap (last s d) told.0 ∙ last_next s L d at p joined

  -- the end of the chain from v, where no step leads on
  pub told_end : (v : ℕ) → Point s v → s.next d at ≡ 0 → last s d at ≡ last s d v → TellsEnd s d v (Some at)
  told_end v q none same =
      let here : at ≡ last s d v = sym (last_here s L d at none) ∙ same in
      (q, here, subst (Ends s d v) (sym here) (last_ends s L d v q), last_here s L d at none)

-- a chain to no side ends where it begins
pub no_side : (s : Shape) → Lawful s → (d v : ℕ) → 3 < d → (b : Bool) → Decides b (Point s v) → TellsEnd s d v (then_some b v)
no_side s L d v h true t =
    let none : s.next d v ≡ 0 = elim (ℕ_discrete (s.next d v) 0) [ yes e ↦ e | no w ↦ absurd (omega (arith, (L.from_points d v w).0)) ] in
    told_end s L d v (t.0 refl) v (t.0 refl) none refl
no_side s L d v h false t = not_from_Decides false t refl
