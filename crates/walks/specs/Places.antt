-- Places: labels that start at 0 everywhere and that gaps push up. Assumes nothing.
use Rattle.std.specs.Prelude.{◌≡◌, ℕ, ◌+◌, ◌<◌, ◌≤◌, ◌≢◌, ◌⊎◌, List, ℤ, pos, ◌+ℤ◌, neg_ℤ, ◌≤ℤ◌, ◌<ℤ◌, Some, None, Option}
use Rattle.std.specs.Int.{int_max, int_min}
use Rattle.std.specs.Option.{unwrap_or, option_map}
use Rattle.walks.specs.Nodes.{Below, Gaps, Arc, worth, Walk, origin, total, Circuit}
use Rattle.walks.specs.Rounds.{Labels, round, Quiet}
use Rattle.walks.specs.Reach.{Reaches}

-- the greater of two places
abbrev pub greater : Option ℤ → Option ℤ → Option ℤ
greater None y = y
greater (Some a) None = Some a
greater (Some a) (Some b) = Some (int_max a b)

-- places are joined to the greater one; a gap is added, and f says where that ends up
abbrev pub places_by : (ℤ → ℤ) → Labels (Option ℤ)
places_by f = record { join = greater; none = None; carry = λ g x. option_map (λ z. f (z +ℤ g)) x }

-- places as they are
abbrev pub place_labels : Labels (Option ℤ)
place_labels = places_by (λ z. z)

-- z, or the end from -e to e that it would pass
abbrev pub clamp : ℕ → ℤ → ℤ
clamp e z = int_max (neg_ℤ (pos e)) (int_min z (pos e))

-- places that stay at an end that they would pass
abbrev pub clamped_labels : ℕ → Labels (Option ℤ)
clamped_labels e = places_by (clamp e)

-- every place is 0 at the start
abbrev pub zeros : ℕ → Option ℤ
zeros v = Some (pos 0)

-- the place of v after k rounds
abbrev pub place : ℕ → Gaps → ℕ → ℕ → ℤ
place n gap k v = unwrap_or (round place_labels n gap zeros k v) (pos 0)

-- round k + 1 changes no place
abbrev pub Settled : ℕ → Gaps → ℕ → Type 0
Settled n gap k = Quiet place_labels n gap zeros k 1

-- the coordinates x satisfy every gap
abbrev pub Keeps : ℕ → Gaps → (ℕ → ℤ) → Type 0
Keeps n gap x = (a b : ℕ) (g : ℤ) → a < n → b < n → gap a b ≡ Some g → (x a +ℤ g) ≤ℤ x b

-- the coordinates x lie from 0 up
abbrev pub FromZero : ℕ → (ℕ → ℤ) → Type 0
FromZero n x = (v : ℕ) → v < n → pos 0 ≤ℤ x v

-- x satisfies every gap from 0 up, and is nowhere greater than any other that does
pub record Least (n : ℕ) (gap : Gaps) (x : ℕ → ℤ) : Type 0 where
  pub keeps : Keeps n gap x
  pub from_zero : FromZero n x
  pub least : (y : ℕ → ℤ) → Keeps n gap y → FromZero n y → (v : ℕ) → v < n → x v ≤ℤ y v

-- a circuit without repeated nodes whose gaps sum above 0
pub record GainingCircuit (n : ℕ) (gap : Gaps) : Type 0 where
  pub node : ℕ
  pub loop : List ℕ
  pub within : Below n loop
  pub circuit : Circuit (Arc gap) node loop
  pub gains : pos 0 <ℤ total (worth gap) node loop

-- such a circuit, and a walk from it to v
pub record Driven (n : ℕ) (gap : Gaps) (v : ℕ) : Type 0 where
  pub by : GainingCircuit n gap
  pub reaches : Reaches n gap by.node v

-- settled places satisfy every gap, and are the least that do
abbrev pub SettledIsLeast : ℕ → Type 0
SettledIsLeast n = (gap : Gaps) (k : ℕ) → Settled n gap k → Least n gap (place n gap k)

-- at most one x is the least
abbrev pub LeastIsOne : ℕ → Type 0
LeastIsOne n = (gap : Gaps) (x y : ℕ → ℤ) → Least n gap x → Least n gap y → (v : ℕ) → v < n → x v ≡ y v

-- a place that changes in round m or later is driven by a circuit
abbrev pub LateRiseIsDriven : ℕ → ℕ → Type 0
LateRiseIsDriven n m = (gap : Gaps) (k v : ℕ) → m ≤ k + 1 → v < n → place n gap (k + 1) v ≢ place n gap k v → Driven n gap v

-- so round m, or a later one, changes nothing, or there is a circuit
abbrev pub SettledOrCircuit : ℕ → ℕ → Type 0
SettledOrCircuit n m = (gap : Gaps) (k : ℕ) → m ≤ k + 1 → Settled n gap k ⊎ GainingCircuit n gap

-- where there is such a circuit, no coordinates satisfy every gap
abbrev pub CircuitRefutes : ℕ → Type 0
CircuitRefutes n = (gap : Gaps) (x : ℕ → ℤ) → Keeps n gap x → GainingCircuit n gap → ⊥

-- where any closed walk has gaps that sum above 0, a circuit without repeated nodes has
abbrev pub ClosedWalkHasCircuit : ℕ → Type 0
ClosedWalkHasCircuit n =
    (gap : Gaps) (v : ℕ) (l : List ℕ) → Below n l → Walk (Arc gap) v l → origin v l ≡ v → pos 0 <ℤ total (worth gap) v l → GainingCircuit n gap

-- P holds of every gap
abbrev pub EveryGap : ℕ → Gaps → (ℤ → Type 0) → Type 0
EveryGap n gap P = (a b : ℕ) (g : ℤ) → a < n → b < n → gap a b ≡ Some g → P g

-- where no gap is above s, places lie from 0 to h in each of the first m rounds
abbrev pub PlacesWithin : ℕ → ℕ → ℕ → Type 0
PlacesWithin s m h =
    (n : ℕ) (gap : Gaps) → EveryGap n gap (λ g. g ≤ℤ pos s) → (k v : ℕ) → k ≤ m → v < n → (pos 0 ≤ℤ place n gap k v) × (place n gap k v ≤ℤ pos h)

-- where gaps lie from -s to s, the ends -e and e are not met in the first m rounds
abbrev pub EndsUnmet : ℕ → ℕ → ℕ → Type 0
EndsUnmet s m e =
    (n : ℕ) (gap : Gaps) → EveryGap n gap (λ g. (neg_ℤ (pos s) ≤ℤ g) × (g ≤ℤ pos s)) → (k v : ℕ) → k ≤ m → v < n → round (clamped_labels e) n gap zeros k v ≡ round place_labels n gap zeros k v
