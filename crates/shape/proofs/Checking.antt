-- Going through the points in order, to name the lowest at fault. Assumes nothing.
use Rattle.std.proofs.Common.{◌≡◌, ℕ, ◌≤◌, Bool, true, false, Some, None, Option, MatchOption, Decides, sym, refl, subst, inl, inr, arith}
use Rattle.std.proofs.lemmas.Bool.{cases_eq, false≢true}
use Rattle.std.proofs.lemmas.Bool.Decides.{not_from_Decides}
use Rattle.segments.specs.Shapes.{Within}
use Rattle.shape.specs.declared.direction.Direction.{Direction}
use Rattle.shape.specs.declared.direction.Direction.TheVariants.{Across, Up}
use Rattle.shape.specs.Checks.{FindsFirst, FindsDirection}
use Rattle.shape.specs.Directions.{direction_number, direction_low}
use Rattle.shape.specs.Formats.{Lowest, Nowhere}

-- the direction with a number
pub numbered : (d : ℕ) → d ≤ 1 → (direction : Direction) × (direction_number direction ≡ d)
numbered d h = elim (cases_eq d 0) [ inl z ↦ (Across, sym z) | inr z ↦ (Up, omega arith) ]

module _ (Fault : ℕ → Type 0) where
  -- what the first point that a test passes tells of the fault that it decides
  module _ (n m : ℕ) (same : m ≡ n) {Tests : ℕ → Bool → Type 0} {o : Option ℕ} (finds : FindsFirst m Tests o) (decides : (v : ℕ) (r : Bool) → Tests v r → Decides r (Fault v)) where
    pub lowest_fault : (v : ℕ) → o ≡ Some v → Lowest n Fault v
    lowest_fault v is =
        let h = finds.first v is in
        record {
          point = subst (λ (k : ℕ). Within k v) same h.0;
          fault = (decides v true h.1).0 refl;
          first = λ u low high. not_from_Decides false (decides u false (h.2 u low high)) refl;
        }

    pub no_fault : o ≡ None → Nowhere n Fault
    no_fault is v p = not_from_Decides false (decides v false (finds.none is v (subst (λ (k : ℕ). Within k v) (sym same) p))) refl

    pub first_fault : MatchOption o (Nowhere n Fault) (Lowest n Fault)
    first_fault = from o refl
      where
        from : (r : Option ℕ) → o ≡ r → MatchOption r (Nowhere n Fault) (Lowest n Fault)
        from None is = no_fault is
        from (Some v) is = lowest_fault v is

  -- a fault in one of the directions
  pub either_direction : {Tests : Direction → Bool → Type 0} (r : Bool) → FindsDirection Tests r → ((d : Direction) (b : Bool) → Tests d b → Decides b (Fault (direction_number d))) → Decides r ((d : ℕ) × (d ≤ 1) × Fault d)
  either_direction true finds decides = (λ e. let t = finds.some refl in (direction_number t.0, direction_low t.0, (decides t.0 true t.1).0 refl), λ f. refl)
  either_direction false finds decides = (
    λ e. absurd (false≢true e),
    λ f.
        let d = numbered f.0 f.1 in
        absurd (not_from_Decides false (decides d.0 false (finds.none refl d.0)) refl (subst Fault (sym d.1) f.2)),
  )
