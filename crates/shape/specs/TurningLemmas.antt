-- A turned shape keeps the laws of the shape below. Assumes nothing.
use Rattle.std.specs.Prelude.{◌≡◌, ℕ, zero, suc, ◌+◌, ◌-◌, ◌%◌, ◌<◌, ◌≤◌, cond, ◌≢◌, ◌⊎◌, ◌↔◌, nat_le, refl}
use Rattle.std.proofs.Common.{sym, ap, ◌∙◌, subst, inl, inr, arith}
use Rattle.std.proofs.lemmas.Bool.{cases_lt, le-leb, lt-leb}
use Rattle.segments.specs.Shapes.{Shape, Lawful, Point, Same, steps}
use Rattle.shape.specs.Turning.{side_before, turned}

-- the side of the shape below is one, and lies q sides before
pub side_before_low : (q d : ℕ) → side_before q d ≤ 3
side_before_low q d = omega arith

-- the sides of a direction stay opposite: they are two apart
sides_apart : (q dir : ℕ) → dir ≤ 1 → (side_before q (dir + 2) ≡ side_before q dir + 2) ⊎ (side_before q dir ≡ side_before q (dir + 2) + 2)
sides_apart q dir h = elim (cases_lt (side_before q dir) 2) [ inl l ↦ inl (omega arith) | inr l ↦ inr (omega arith) ]

module _ (q : ℕ) (s : Shape) where
  pub turned_next : (d v : ℕ) → d ≤ 3 → (turned q s).next d v ≡ s.next (side_before q d) v
  turned_next d v h = ap (λ t. cond t (s.next (side_before q d) v) 0) (le-leb d 3 h)

  turned_none : (d v : ℕ) → 3 < d → (turned q s).next d v ≡ 0
  turned_none d v h = ap (λ t. cond t (s.next (side_before q d) v) 0) (lt-leb d 3 h)

  turned_side : (d v : ℕ) → (turned q s).next d v ≢ 0 → d ≤ 3
  turned_side d v h = elim (cases_lt 3 d) [ inl l ↦ absurd (h (turned_none d v l)) | inr l ↦ l ]

  below : (d v : ℕ) → (turned q s).next d v ≢ 0 → s.next (side_before q d) v ≢ 0
  below d v h e = h (turned_next d v (turned_side d v h) ∙ e)

  turned_steps : (d k v : ℕ) → d ≤ 3 → steps (turned q s) d k v ≡ steps s (side_before q d) k v
  turned_steps d zero v h = refl
  turned_steps d (suc k) v h = turned_next d (steps (turned q s) d k v) h ∙ ap (s.next (side_before q d)) (turned_steps d k v h)

  module _ (L : Lawful s) where
    turned_opposite : (dir v w : ℕ) → dir ≤ 1 → Point s v → Point s w → ((turned q s).next dir v ≡ w) ↔ ((turned q s).next (dir + 2) w ≡ v)
    turned_opposite dir v w h p r =
        let on = turned_next dir v (omega arith) in
        let off = turned_next (dir + 2) w (omega arith) in
        let a = side_before q dir in
        let b = side_before q (dir + 2) in
        elim (sides_apart q dir h) [
          | inl e ↦
              let low : a ≤ 1 = let t = side_before_low q (dir + 2) in omega arith in
              let both = L.opposite a v w low p r in
              let at : s.next (a + 2) w ≡ s.next b w = ap (λ (k : ℕ). s.next k w) (sym e) in
              (λ x. off ∙ sym at ∙ both.0 (sym on ∙ x), λ x. on ∙ both.1 (at ∙ sym off ∙ x))
          | inr e ↦
              let low : b ≤ 1 = let t = side_before_low q dir in omega arith in
              let both = L.opposite b w v low r p in
              let at : s.next (b + 2) v ≡ s.next a v = ap (λ (k : ℕ). s.next k v) (sym e) in
              (λ x. off ∙ both.1 (at ∙ sym on ∙ x), λ x. on ∙ sym at ∙ both.0 (sym off ∙ x))
        ]

    pub turned_lawful : Lawful (turned q s)
    turned_lawful = record {
      some = L.some;
      few = L.few;
      from_points = λ d v h. (turned_side d v h, (L.from_points (side_before q d) v (below d v h)).1);
      to_points = λ d v h. subst (Point s) (sym (turned_next d v (turned_side d v h))) (L.to_points (side_before q d) v (below d v h));
      opposite = turned_opposite;
      never_returns = λ d k v p e. elim (cases_lt 3 d) [
        | inl l ↦ omega (arith, sym (turned_none d (steps (turned q s) d k v) l) ∙ e, p.0)
        | inr l ↦ L.never_returns (side_before q d) k v p (sym (turned_steps d (suc k) v l) ∙ e)
      ];
    }

-- counts that differ by whole turns turn every shape alike
pub turned_alike : (p q : ℕ) → p % 4 ≡ q % 4 → (s : Shape) → Same (turned p s) (turned q s)
turned_alike p q e s = record { points = refl; next = λ d v. ap (λ (k : ℕ). cond (nat_le d 3) (s.next ((d + (4 - k)) % 4) v) 0) e }
