-- A flow is the greatest with its balance, or a circuit of its layer betters it. Assumes nothing.
use Rattle.std.proofs.Common.{◌≡◌, ℕ, ◌≤◌, Bool, true, false, cond, ltb, ◌⊎◌, ℤ, pos, neg_ℤ, ◌≤ℤ◌, Some, None, Option, refl, ap, inl, inr, arith}
use borrow.Author.Differences.{ints}
use Rattle.std.proofs.lemmas.Bool.{lt-ltb}
use Rattle.std.specs.Option.{option_or, option_map}
use Rattle.walks.specs.Nodes.{Gaps, worth}
use Rattle.walks.specs.Places.{Keeps, Settled, GainingCircuit, place, EveryGap, SettledOrCircuit}
use Rattle.walks.specs.Flows.{OnArcs, Greatest, Tight, layer, rerouted, Better, Opposed, LayerIsTight, GreatestOrBetter, LayerTellsGreatest}
use Rattle.walks.proofs.Pigeonhole.{distinct_few}
use Rattle.walks.proofs.Circuits.{long_walks_split}
use Rattle.walks.proofs.Longest.{arc_gap, settled_is_least, settled_or_circuit}
use Rattle.walks.proofs.Duality.{cell_arc, tight_is_greatest}
use Rattle.walks.proofs.Rerouting.{circuit_betters}

gap_stays : (o p : Option ℤ) (g : ℤ) → o ≡ Some g → option_or o p ≡ Some g
gap_stays None p g e = absurd (let y : ◌≡◌ {A = ℕ} 0 1 = cc in omega arith)
gap_stays (Some h) p g e = e

-- the arc back: there below, or made by the cell
back_gap : (o p : Option ℤ) (t : Bool) (g : ℤ) → p ≡ Some g → t ≡ true → ((h : ℤ) × (o ≡ Some h) × (option_or o (cond t (option_map neg_ℤ p) None) ≡ Some h)) ⊎ (option_or o (cond t (option_map neg_ℤ p) None) ≡ Some (neg_ℤ g))
back_gap (Some h) p t g e s = inl (h, refl, refl)
back_gap None p true g e s = inr (ap (option_map neg_ℤ) e)
back_gap None p false g e s = absurd (let y : ◌≡◌ {A = ℕ} 0 1 = cc in omega arith)

pub layer_keeps : (n : ℕ) (gap : Gaps) (f : ℕ → ℕ → ℕ) (x : ℕ → ℤ) → Keeps n (layer gap f) x → Keeps n gap x
layer_keeps n gap f x keeps a b g ha hb e = keeps a b g ha hb (gap_stays (gap a b) _ g e)

pub layer_tight : (n : ℕ) (gap : Gaps) (f : ℕ → ℕ → ℕ) (x : ℕ → ℤ) → Opposed n gap → OnArcs n gap f → Keeps n (layer gap f) x → Tight n gap f x
layer_tight n gap f x opposed on keeps a b ha hb h =
    let e = arc_gap (gap a b) (cell_arc (gap a b) (f a b) (on a b ha hb) h) in
    elim (back_gap (gap b a) (gap a b) (ltb 0 (f a b)) (worth gap a b) e (lt-ltb 0 (f a b) h)) [
      | inl r ↦ (
          let k = keeps b a r.0 hb ha r.2 in
          let s = opposed a b (worth gap a b) r.0 ha hb e r.1 in
          omega (arith, ints))
      | inr r ↦ (let k = keeps b a (neg_ℤ (worth gap a b)) hb ha r in omega (arith, ints))
    ]

pub layer_is_tight : LayerIsTight
layer_is_tight n gap f x opposed on keeps = (layer_keeps n gap f x keeps, layer_tight n gap f x opposed on keeps)

pub settled_is_greatest : (n : ℕ) (gap : Gaps) (f : ℕ → ℕ → ℕ) (k : ℕ) → Opposed n gap → OnArcs n gap f → Settled n (layer gap f) k → Greatest n gap f
settled_is_greatest n gap f k opposed on s =
    let x = place n (layer gap f) k in
    let t = layer_is_tight n gap f x opposed on (settled_is_least n (layer gap f) k s).keeps in
    tight_is_greatest n gap f x t.0 t.1

pub greatest_or_better : GreatestOrBetter
greatest_or_better n gap f opposed on = go (settled_or_circuit n n n (long_walks_split n n n (distinct_few n) (omega arith)) (omega arith) (layer gap f) n (omega arith))
  where
    go : Settled n (layer gap f) n ⊎ GainingCircuit n (layer gap f) → Greatest n gap f ⊎ ((g : ℕ → ℕ → ℕ) × Better n gap f g)
    go (inl s) = inl (settled_is_greatest n gap f n opposed on s)
    go (inr c) = inr (rerouted gap f 1 c.node c.loop, circuit_betters 1 refl n gap f on c)

pub layer_tells_greatest : (n i m : ℕ) → SettledOrCircuit n i → i ≤ m → LayerTellsGreatest n m
layer_tells_greatest n i m either h gap f k late opposed on = (settled_is_greatest n gap f k opposed on, λ best. go best (either (layer gap f) k (omega arith)))
  where
    go : Greatest n gap f → Settled n (layer gap f) k ⊎ GainingCircuit n (layer gap f) → Settled n (layer gap f) k
    go best (inl s) = s
    go best (inr c) =
        let b = circuit_betters 1 refl n gap f on c in
        let p = b.more in
        let q = best (rerouted gap f 1 c.node c.loop) b.on b.balanced in
        absurd (omega (arith, ints))

-- ---- graphs whose gaps are bounded
-- gaps from 0 up oppose each other
pub from_zero_opposed : (n : ℕ) (gap : Gaps) → EveryGap n gap (λ g. pos 0 ≤ℤ g) → Opposed n gap
from_zero_opposed n gap high a b g h ha hb e q =
    let p = high a b g ha hb e in
    let r = high b a h hb ha q in
    omega (arith, ints)

layer_from : (o p : Option ℤ) (t : Bool) (g : ℤ) → option_or o (cond t (option_map neg_ℤ p) None) ≡ Some g → (o ≡ Some g) ⊎ (p ≡ Some (neg_ℤ g))
layer_from (Some h) p t g e = inl e
layer_from None (Some h) true g e = inr (ap Some (let q : neg_ℤ h ≡ g = cc in omega (arith, ints)))
layer_from None None true g e = absurd (let y : ◌≡◌ {A = ℕ} 0 1 = cc in omega arith)
layer_from None p false g e = absurd (let y : ◌≡◌ {A = ℕ} 0 1 = cc in omega arith)

-- the layer's gaps lie from -s to s where those below do
pub layer_within : (n : ℕ) (gap : Gaps) (f : ℕ → ℕ → ℕ) (s : ℕ) → EveryGap n gap (λ g. (neg_ℤ (pos s) ≤ℤ g) × (g ≤ℤ pos s)) → EveryGap n (layer gap f) (λ g. (neg_ℤ (pos s) ≤ℤ g) × (g ≤ℤ pos s))
layer_within n gap f s small a b g ha hb e =
    elim (layer_from (gap a b) (gap b a) (ltb 0 (f b a)) g e) [
      | inl q ↦ small a b g ha hb q
      | inr q ↦ (
          let r = small b a (neg_ℤ g) hb ha q in
          let low = r.0 in
          let high = r.1 in
          (omega (arith, ints), omega (arith, ints)))
    ]
