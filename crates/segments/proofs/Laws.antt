-- The laws of a shape are a proposition: they can be kept as a struct's invariant. Assumes nothing.
use Rattle.std.proofs.Common.{◌≡◌, ℕ, suc, ◌+◌, ◌≤◌, ◌≢◌, ◌↔◌}
use mathlib.Core.Logic.{↔_prop}
use mathlib.Core.HLevel.{Π_prop, ×_prop, ⊥_prop}
use native.Mathlib.Bridge.{le_prop}
use native.Mathlib.Nat.{ℕ_set}
use Rattle.segments.specs.Shapes.{Shape, Lawful, Point, steps}

differ_prop : (a b : ℕ) → IsProp (a ≢ b)
differ_prop a b = Π_prop (λ _. ⊥_prop)

point_prop : (s : Shape) (v : ℕ) → IsProp (Point s v)
point_prop s v = ×_prop le_prop le_prop

pub lawful_prop : (s : Shape) → IsProp (Lawful s)
lawful_prop s a b =
    let from : IsProp ((d v : ℕ) → s.next d v ≢ 0 → (d ≤ 3) × Point s v) = Π_prop (λ d. Π_prop (λ v. Π_prop (λ _. ×_prop le_prop (point_prop s v)))) in
    let to : IsProp ((d v : ℕ) → s.next d v ≢ 0 → Point s (s.next d v)) = Π_prop (λ d. Π_prop (λ v. Π_prop (λ _. point_prop s (s.next d v)))) in
    let inverse : IsProp ((dir v w : ℕ) → dir ≤ 1 → Point s v → Point s w → (s.next dir v ≡ w) ↔ (s.next (dir + 2) w ≡ v)) =
    Π_prop (λ dir. Π_prop (λ v. Π_prop (λ w. Π_prop (λ _. Π_prop (λ _. Π_prop (λ _. ↔_prop (ℕ_set _ _) (ℕ_set _ _)))))))
    in
    let onward : IsProp ((d k v : ℕ) → Point s v → steps s d (suc k) v ≢ v) = Π_prop (λ d. Π_prop (λ k. Π_prop (λ v. Π_prop (λ _. differ_prop _ _)))) in
    λ i. record {
      some = le_prop a.some b.some i;
      few = le_prop a.few b.few i;
      from_points = from a.from_points b.from_points i;
      to_points = to a.to_points b.to_points i;
      opposite = inverse a.opposite b.opposite i;
      never_returns = onward a.never_returns b.never_returns i;
    }
