-- Drawings that are not simple, for each reason alone. Assumes nothing.
use Rattle.std.proofs.Common.{◌≡◌, ℕ, zero, suc, ◌≤◌, ◌≢◌, ◌⊎◌, pos, ◌<ℤ◌, sym, refl, ◌∙◌, inl, inr, arith}
use borrow.Author.Differences.{ints}
use Rattle.std.proofs.lemmas.Bool.Decides.{nat_tests}
use Rattle.segments.specs.Shapes.{Shape, Lawful, Point, Within}
use Rattle.segments.specs.Segments.{Wire}
use Rattle.segments.proofs.Forward.{unwired_lawful}
use Rattle.drawings.specs.Drawings.{Drawing, place, Draws, OnWire, PointsApart, WiresApart, WiresClear}
use Rattle.drawings.specs.Examples.{two, together, crossed, crossed_at, passed, passed_at, Condition, OnlyFails, ConditionsOfSimple}
use Rattle.drawings.proofs.Listing.{each_of, each_direction, each_wire, listed_apart, lawful_rising}

-- ---- two points in one place
two_lawful : Lawful two
two_lawful = unwired_lawful two (omega arith) (omega arith) (λ d v. grind (arith, nat_tests))

two_bare : (d v : ℕ) → ¬ Wire two d v
two_bare = each_wire two (λ d v. ⊥) ((tt, λ h. h refl), λ h. h refl) ((tt, λ h. h refl), λ h. h refl)

together_fails : ¬ PointsApart two together
together_fails h =
    let z : ◌≡◌ {A = ℕ} 1 2 = h 1 2 (omega arith, omega arith) (omega arith, omega arith) (each_direction (λ dir. place two together 1 dir ≡ place two together 2 dir) refl refl) in
    omega arith

-- ---- two wires that cross
crossed_lawful : Lawful crossed
crossed_lawful =
    lawful_rising crossed (omega arith) (omega arith) (λ d v h. (grind (arith, nat_tests), (grind (arith, nat_tests), grind (arith, nat_tests)))) (λ d v h. (grind (arith, nat_tests), grind (arith, nat_tests)))
    (λ dir v w h pv pw. ((λ e. grind (arith, nat_tests)), λ e. grind (arith, nat_tests))) (λ dir v. v) (λ dir v h d. grind (arith, nat_tests))

-- the wires are that across from 1 and that up from 3
crossed_wires : (P : ℕ → ℕ → Type 0) → P 0 1 → P 1 3 → (d v : ℕ) → Wire crossed d v → P d v
crossed_wires P p q =
    each_wire crossed P ((((tt, λ h. p), λ h. absurd (h refl)), λ h. absurd (h refl)), λ h. absurd (h refl)) ((((tt, λ h. absurd (h refl)), λ h. absurd (h refl)), λ h. q), λ h. absurd (h refl))

crossed_draws : Draws crossed crossed_at
crossed_draws = crossed_wires (λ d v. place crossed crossed_at v d <ℤ place crossed crossed_at (crossed.next d v) d) (omega (arith, ints)) (omega (arith, ints))

crossed_points : PointsApart crossed crossed_at
crossed_points =
    listed_apart crossed crossed_at (
      (
        (
          (tt, ((((tt, λ x y. omega (arith, ints)), λ x y. omega (arith, ints)), λ x y. omega (arith, ints)), λ x y. omega (arith, ints))),
          ((((tt, λ x y. omega (arith, ints)), λ x y. omega (arith, ints)), λ x y. omega (arith, ints)), λ x y. omega (arith, ints)),
        ),
        ((((tt, λ x y. omega (arith, ints)), λ x y. omega (arith, ints)), λ x y. omega (arith, ints)), λ x y. omega (arith, ints)),
      ),
      ((((tt, λ x y. omega (arith, ints)), λ x y. omega (arith, ints)), λ x y. omega (arith, ints)), λ x y. omega (arith, ints)),
    )

crossed_fails : ¬ WiresApart crossed crossed_at
crossed_fails h =
    let r = h 0 1 1 3 (omega arith, (omega arith, omega arith), λ e. omega arith) (omega arith, (omega arith, omega arith), λ e. omega arith) (λ z. omega (arith, z.0)) (λ _. pos 1) (omega (arith, ints), omega (arith, ints), refl) (omega (arith, ints), omega (arith, ints), refl) in
    elim r.0 [
      | inl q ↦ (let z = q 0 (omega arith) in omega (arith, ints))
      | inr q ↦ (let z = q 0 (omega arith) in omega (arith, ints))
    ]

crossed_clear : WiresClear crossed crossed_at
crossed_clear d v u w p o =
    crossed_wires (λ d v. (u : ℕ) → Point crossed u → OnWire crossed crossed_at d v (place crossed crossed_at u) → (u ≡ v) ⊎ (u ≡ crossed.next d v))
    (each_of 4 (λ u. OnWire crossed crossed_at 0 1 (place crossed crossed_at u) → (u ≡ 1) ⊎ (u ≡ 2)) ((((tt, λ o. inl refl), λ o. inr refl), λ o. absurd (let z = o.2 in omega (arith, ints))), λ o. absurd (let z = o.2 in omega (arith, ints))))
    (each_of 4 (λ u. OnWire crossed crossed_at 1 3 (place crossed crossed_at u) → (u ≡ 3) ⊎ (u ≡ 4)) ((((tt, λ o. absurd (let z = o.2 in omega (arith, ints))), λ o. absurd (let z = o.2 in omega (arith, ints))), λ o. inl refl), λ o. inr refl))
    d v w u p o

-- ---- a wire over a point
passed_lawful : Lawful passed
passed_lawful =
    lawful_rising passed (omega arith) (omega arith) (λ d v h. (grind (arith, nat_tests), (grind (arith, nat_tests), grind (arith, nat_tests)))) (λ d v h. (grind (arith, nat_tests), grind (arith, nat_tests)))
    (λ dir v w h pv pw. ((λ e. grind (arith, nat_tests)), λ e. grind (arith, nat_tests))) (λ dir v. v) (λ dir v h d. grind (arith, nat_tests))

-- the only wire is that across from 1
passed_wires : (P : ℕ → ℕ → Type 0) → P 0 1 → (d v : ℕ) → Wire passed d v → P d v
passed_wires P p = each_wire passed P (((tt, λ h. p), λ h. absurd (h refl)), λ h. absurd (h refl)) (((tt, λ h. absurd (h refl)), λ h. absurd (h refl)), λ h. absurd (h refl))

passed_draws : Draws passed passed_at
passed_draws = passed_wires (λ d v. place passed passed_at v d <ℤ place passed passed_at (passed.next d v) d) (omega (arith, ints))

passed_points : PointsApart passed passed_at
passed_points =
    listed_apart passed passed_at (
      (
        (tt, (((tt, λ x y. omega (arith, ints)), λ x y. omega (arith, ints)), λ x y. omega (arith, ints))),
        (((tt, λ x y. omega (arith, ints)), λ x y. omega (arith, ints)), λ x y. omega (arith, ints)),
      ),
      (((tt, λ x y. omega (arith, ints)), λ x y. omega (arith, ints)), λ x y. omega (arith, ints)),
    )

passed_apart : WiresApart passed passed_at
passed_apart d v e w wv ww ne p a b =
    let x = passed_wires (λ d v. (d ≡ 0) × (v ≡ 1)) (refl, refl) d v wv in
    let y = passed_wires (λ d v. (d ≡ 0) × (v ≡ 1)) (refl, refl) e w ww in
    absurd (ne (x.0 ∙ sym y.0, x.1 ∙ sym y.1))

passed_fails : ¬ WiresClear passed passed_at
passed_fails h =
    elim (h 0 1 3 (omega arith, (omega arith, omega arith), λ e. omega arith) (omega arith, omega arith) (omega (arith, ints), omega (arith, ints), refl)) [
      | inl e ↦ omega arith
      | inr e ↦ omega arith
    ]

-- ---- the three together
-- the other two hold
others : (s : Shape) (c : Drawing) (k : ℕ) → (1 ≢ k → PointsApart s c) → (2 ≢ k → WiresApart s c) → (3 ≢ k → WiresClear s c) → (j : ℕ) → j ≢ k → Condition s c j
others s c k p q r zero d = tt
others s c k p q r (suc zero) d = p d
others s c k p q r (suc (suc zero)) d = q d
others s c k p q r (suc (suc (suc zero))) d = r d
others s c k p q r (suc (suc (suc (suc j)))) d = tt

each_fails : (n : ℕ) → n ≤ 3 → (k : ℕ) → Within n k → (s : Shape) × (c : Drawing) × Lawful s × Draws s c × OnlyFails s c k
each_fails n h zero w = absurd (omega (arith, w.0))
each_fails n h (suc zero) w =
    (two, together, two_lawful, (λ d v b. absurd (two_bare d v b)), (together_fails, others two together 1 (λ d. absurd (d refl)) (λ _ d v e w b. absurd (two_bare d v b)) (λ _ d v u b. absurd (two_bare d v b))))
each_fails n h (suc (suc zero)) w =
    (crossed, crossed_at, crossed_lawful, crossed_draws, (crossed_fails, others crossed crossed_at 2 (λ _. crossed_points) (λ d. absurd (d refl)) (λ _. crossed_clear)))
each_fails n h (suc (suc (suc zero))) w =
    (passed, passed_at, passed_lawful, passed_draws, (passed_fails, others passed passed_at 3 (λ _. passed_points) (λ _. passed_apart) (λ d. absurd (d refl))))
each_fails n h (suc (suc (suc (suc k)))) w = absurd (omega (arith, w.1))

pub conditions_of_simple : (n : ℕ) → n ≡ 3 → ConditionsOfSimple n
conditions_of_simple n e =
    record {
      enough = λ s c h. record { points = h 1 (omega arith, omega arith); wires = h 2 (omega arith, omega arith); clear = h 3 (omega arith, omega arith) };
      each = each_fails n (omega arith);
    }
