-- Arcs whose gaps are one step: the drawings that obey them, and the sums of flows over them. Assumes nothing.
use Rattle.std.proofs.Common.{◌≡◌, ℕ, suc, ◌*◌, ◌≤◌, ◌<ℤ◌, arith}
use native.Mathlib.Decide.{ℕ_discrete}
use borrow.Author.Differences.{ints}
use Rattle.walks.proofs.Folds.{sum_same}
use Rattle.segments.specs.Shapes.{Shape}
use Rattle.drawings.specs.Arcs.{Arcs, Arc}
use Rattle.drawings.specs.Drawings.{Drawing, Obeys}
use Rattle.drawings.specs.Flows.{sum_points, OnArcs, flow_sum}
use Rattle.drawings.specs.Theorems.{GapsOfOneStep}
use Rattle.drawings.proofs.Climbing.{obeys_climbs}
use Rattle.drawings.proofs.Nodes.{node_point}

pub step_obeys : (gap : Arcs) → ((dir a b : ℕ) → gap dir a b ≤ 1) → (c : Drawing) → ((dir a b : ℕ) → Arc gap dir a b → c dir a <ℤ c dir b) → Obeys gap c
step_obeys gap small c rises dir a b r = let h = rises dir a b r in let l = small dir a b in omega (arith, ints)

pub step_sum : (s : Shape) (gap : Arcs) → ((dir a b : ℕ) → gap dir a b ≤ 1) → (dir : ℕ) (f : ℕ → ℕ → ℕ) → OnArcs s gap dir f → flow_sum s gap dir f ≡ sum_points s (λ a. sum_points s (λ b. f a b))
step_sum s gap small dir f on =
    sum_same s.points _ _ (λ i hi. sum_same s.points _ _ (λ j hj. cell (suc i) (suc j) (on (suc i) (suc j) (node_point s i hi) (node_point s j hj))))
  where
    cell : (a b : ℕ) → (gap dir a b ≡ 0 → f a b ≡ 0) → f a b * gap dir a b ≡ f a b
    cell a b off =
        elim (ℕ_discrete (gap dir a b) 0) [
          | yes z ↦ (let e = off z in rw z (omega arith))
          | no d ↦ (let e : gap dir a b ≡ 1 = omega (arith, small dir a b) in rw e (omega arith))
        ]

pub gaps_of_one_step : (step : ℕ) → step ≤ 1 → GapsOfOneStep step
gaps_of_one_step step h =
    record {
      obeys = λ gap small c. (obeys_climbs gap c, step_obeys gap (λ dir a b. omega (arith, small dir a b)) c);
      sums = λ s gap small. step_sum s gap (λ dir a b. omega (arith, small dir a b));
    }
