-- The sum of the wires' spans is the total of the drawing. Assumes nothing.
use Rattle.std.proofs.Common.{◌≡◌, ℕ, suc, ◌+◌, ◌-◌, ◌≤◌, List, ℤ, pos, ◌+ℤ◌, ◌-ℤ◌, ◌<ℤ◌, refl, ap, ◌∙◌, add-one, arith}
use Rattle.std.proofs.lemmas.Bool.{eq-eqb, ne_eqb}
use native.Mathlib.Decide.{ℕ_discrete}
use borrow.Author.Differences.{ints}
use Rattle.walks.proofs.Folds.{fold_more, pos_sum, sumZ_same, sumZ_both}
use Rattle.segments.specs.Shapes.{Shape, Lawful, Point}
use Rattle.segments.specs.Segments.{segment}
use Rattle.drawings.specs.Drawings.{Draws, wire_length, total}
use Rattle.drawings.specs.Flows.{Coordinates, drawn}
use Rattle.logs.specs.declared.spot.Spot.{Spot}
use Rattle.board.specs.Measuring.{spot_along, wire_span, span_sum}

-- the records have the places of the points under the coordinates c
module _ (s : Shape) (L : Lawful s) (c : Coordinates) (draws : Draws s (drawn c)) (places : List Spot) (placed : (dir v : ℕ) → dir ≤ 1 → Point s v → spot_along places dir v ≡ c dir (segment s dir v)) where
  pub span_is_length : (dir v : ℕ) → dir ≤ 1 → Point s v → pos (wire_span s places dir v) ≡ wire_length s (drawn c) dir v
  span_is_length dir v h p =
      elim (ℕ_discrete (s.next dir v) 0) [
        | yes e ↦ rw (eq-eqb (s.next dir v) 0 e) refl
        | no d ↦ rw (ne_eqb (s.next dir v) 0 d) (less _ _ _ _ (placed dir (s.next dir v) h (L.to_points dir v d)) (placed dir v h p) (draws dir v (h, p, d)))
      ]
    where
      less : (x y m n : ℕ) → x ≡ m → y ≡ n → pos n <ℤ pos m → pos (x - y) ≡ pos m -ℤ pos n
      less x y m n e f l = omega (arith, ints)

  pub sum_is_total : (k : ℕ) → k ≡ s.points → pos (span_sum s places k) ≡ total s (drawn c)
  sum_is_total k e =
      let term : ℕ → ℕ = λ i. wire_span s places 0 (suc i) + wire_span s places 1 (suc i) in
      ap (λ (j : ℕ). pos (span_sum s places j)) e
      ∙ pos_sum s.points (λ i. wire_span s places 0 (suc i) + wire_span s places 1 (suc i))
      ∙ sumZ_same s.points _ (λ i. wire_length s (drawn c) 0 (suc i) +ℤ wire_length s (drawn c) 1 (suc i)) (λ i h. both _ _ _ _ (span_is_length 0 (suc i) (omega arith) (omega arith, omega arith)) (span_is_length 1 (suc i) (omega arith) (omega arith, omega arith)))
      ∙ sumZ_both s.points (λ i. wire_length s (drawn c) 0 (suc i)) (λ i. wire_length s (drawn c) 1 (suc i))
    where
      both : (m n : ℕ) (x y : ℤ) → pos m ≡ x → pos n ≡ y → pos (m + n) ≡ x +ℤ y
      both m n x y e f = omega (arith, ints)

-- one point more
pub span_more : (s : Shape) (places : List Spot) (k t a b : ℕ) → t ≡ span_sum s places k → a ≡ wire_span s places 0 (k + 1) → b ≡ wire_span s places 1 (k + 1) → (t + a) + b ≡ span_sum s places (k + 1)
span_more s places k t a b e p q =
    let more = fold_more ◌+◌ 0 k (λ i. wire_span s places 0 (suc i) + wire_span s places 1 (suc i)) in
    let x : a ≡ wire_span s places 0 (suc k) = p ∙ ap (wire_span s places 0) (add-one k) in
    let y : b ≡ wire_span s places 1 (suc k) = q ∙ ap (wire_span s places 1) (add-one k) in
    omega (arith, more, x, y, e)
