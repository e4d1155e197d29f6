-- Entering the wires that a closure tells. Assumes nothing.
use Rattle.std.proofs.Common.{◌≡◌, ℕ, zero, suc, ◌+◌, ◌-◌, ◌*◌, ◌<◌, ◌≤◌, [], ◌∷◌, get_or, Some, None, Option, sym, refl, ap, ◌∙◌, subst, arith}
use Rattle.segments.specs.Shapes.{Within}
use Rattle.shape.specs.declared.direction.Direction.{Direction}
use Rattle.shape.specs.declared.direction.Direction.TheVariants.{Across, Up}
use Rattle.shape.specs.declared.links.Links.{Links}
use Rattle.shape.specs.Directions.{direction_number, direction_low}
use Rattle.shape.specs.Tables.{Told, cell, Filled, LeadsBy}
use Rattle.shape.proofs.Filling.{filled_free, filled_join, filled_skip}

-- the direction at each place of the two
pub nth_direction : (i : ℕ) → i < 2 → direction_number (get_or (Across ∷ Up ∷ []) i Across) ≡ i
nth_direction zero h = refl
nth_direction (suc zero) h = refl
nth_direction (suc (suc i)) h = absurd (omega arith)

one_direction : (a b : Direction) → direction_number a ≡ direction_number b → a ≡ b
one_direction Across Across e = refl
one_direction Across Up e = absurd (omega (arith, e))
one_direction Up Across e = absurd (omega (arith, e))
one_direction Up Up e = refl

-- one number is told
pub told_same : (w x : ℕ) (o : Option ℕ) → Told w o → Told x o → w ≡ x
told_same w x None a b = a ∙ sym b
told_same w x (Some y) a b = sym a.0 ∙ b.0

told_point : (w : ℕ) (o : Option ℕ) → Told w o → 1 ≤ w → o ≡ Some w
told_point w None t h = absurd (omega (arith, t))
told_point w (Some y) t h = ap (λ (k : ℕ). Some k) t.0

module _ (Tells : ℕ → Direction → Option ℕ → Type 0) (n : ℕ) (apart : (v u w : ℕ) (d : Direction) → Within n v → Within n u → Tells v d (Some w) → Tells u d (Some w) → v ≡ u) where
  -- where a wire leads to a point, the closure tells that point
  leads_some : (d : Direction) (v w : ℕ) → LeadsBy Tells (direction_number d) v w → 1 ≤ w → Tells v d (Some w)
  leads_some d v w r h = subst (Tells v d) (told_point w r.1 r.4 h) (subst (λ (x : Direction). Tells v x r.1) (one_direction r.0 d r.2) r.3)

  -- the closure tells something of each wire in the table
  pub told_before : (i v : ℕ) (l : Links) → Filled (LeadsBy Tells) n i l → Within n v → (v - 1) * 2 ≤ i → (u : ℕ) (d : Direction) → 1 ≤ u → u < v → (o : Option ℕ) × Tells u d o
  told_before i v l F pv past u d low less =
      let r = F.forward (direction_number d) u (direction_low d) (low, omega (arith, pv.1)) (let h = direction_low d in omega arith) in
      (r.1, subst (λ (x : Direction). Tells u x r.1) (one_direction r.0 d r.2) r.3)

  module _ (i v : ℕ) (d : Direction) (l : Links) (F : Filled (LeadsBy Tells) n i l) (at : i ≡ (v - 1) * 2 + direction_number d) (pv : Within n v) where
    pub entered : (w : ℕ) → Within n w → Tells v d (Some w) → (l' : Links) → l'.points ≡ l.points → cell l' (direction_number d) v ≡ w → cell l' (direction_number d + 2) w ≡ v → ((e u : ℕ) → 1 ≤ u → ((e ≡ direction_number d) × (u ≡ v) → ⊥) → ((e ≡ direction_number d + 2) × (u ≡ w) → ⊥) → cell l' e u ≡ cell l e u) → Filled (LeadsBy Tells) n (i + 1) l'
    entered w pw tells l' points there back others =
        let R = LeadsBy Tells in
        let leads : LeadsBy Tells (direction_number d) v w = (d, Some w, refl, tells, (refl, pw.0)) in
        let free = filled_free R n l i (direction_number d) v F at (direction_low d) pv (λ u x pu px a b. apart u v x d pu pv (leads_some d u x b px.0) (leads_some d v x a px.0)) w pw leads in
        filled_join R n l i (direction_number d) v F at (direction_low d) pv w pw free leads l' points there back others

    pub skipped : Tells v d None → Filled (LeadsBy Tells) n (i + 1) l
    skipped tells = filled_skip (LeadsBy Tells) n l i (direction_number d) v F at (direction_low d) pv (d, None, refl, tells, refl)
