-- How high places rise, and that they do not meet an end beyond that. Assumes nothing.
use Rattle.std.proofs.Common.{◌≡◌, ℕ, suc, ◌+◌, ◌*◌, ◌<◌, ◌≤◌, List, [], ◌∷◌, length, ℤ, pos, ◌+ℤ◌, neg_ℤ, ◌≤ℤ◌, Some, None, Option, refl, ap, mul-le-mul_left, mul-suc, arith}
use borrow.Author.Differences.{ints}
use Rattle.std.proofs.lemmas.Int.{clamps}
use Rattle.std.specs.Int.{int_max}
use Rattle.walks.specs.Nodes.{Below, Gaps, Arc, worth, Walk, total}
use Rattle.walks.specs.Rounds.{Lawful, carried, round}
use Rattle.walks.specs.Places.{place_labels, clamp, clamped_labels, zeros, place, EveryGap, PlacesWithin, EndsUnmet}
use Rattle.walks.proofs.Labels.{round_agree}
use Rattle.walks.proofs.Longest.{places_lawful, place_is, place_walk, place_high, arc_gap}

-- ---- how high a walk leads
total_within : (s n : ℕ) (gap : Gaps) → EveryGap n gap (λ g. g ≤ℤ pos s) → (v : ℕ) (l : List ℕ) → Below n (v ∷ l) → Walk (Arc gap) v l → total (worth gap) v l ≤ℤ pos (s * length l)
total_within s n gap small v [] b w = omega (arith, ints)
total_within s n gap small v (u ∷ l) b w =
    let ih = total_within s n gap small u l b.1 w.1 in
    let g = small u v (worth gap u v) b.1.0 b.0 (arc_gap (gap u v) w.0) in
    let m : s * suc (length l) ≡ s * length l + s = mul-suc s (length l) in
    omega (arith, ints)

pub place_within : (s n : ℕ) (gap : Gaps) → EveryGap n gap (λ g. g ≤ℤ pos s) → (k v : ℕ) → v < n → place n gap k v ≤ℤ pos (s * k)
place_within s n gap small k v h =
    let r = place_walk n gap k v in
    let e = r.4 in
    let t = total_within s n gap small v r.0 (h, r.1) r.2 in
    let m : s * length r.0 ≤ s * k = mul-le-mul_left s r.3 in
    omega (arith, ints)

pub places_within : (s m h : ℕ) → s * m ≤ h → PlacesWithin s m h
places_within s m h top n gap small k v hk hv =
    let p = place_within s n gap small k v hv in
    let q : s * k ≤ s * m = mul-le-mul_left s hk in
    (place_high n gap k v, omega (arith, ints))

-- ---- ends
clamp_max : (e : ℕ) (a b : ℤ) → clamp e (int_max a b) ≡ int_max (clamp e a) (clamp e b)
clamp_max e a b = omega (arith, ints, clamps)

pub clamped_lawful : (e : ℕ) → Lawful (clamped_labels e)
clamped_lawful e = places_lawful (clamp e) (clamp_max e)

pub clamp_within : (e : ℕ) (z : ℤ) → neg_ℤ (pos e) ≤ℤ z → z ≤ℤ pos e → clamp e z ≡ z
clamp_within e z low high = omega (arith, ints, clamps)

carried_within : (e : ℕ) (o : Option ℤ) (z : ℤ) → ((g : ℤ) → o ≡ Some g → clamp e (z +ℤ g) ≡ z +ℤ g) → carried (clamped_labels e) o (Some z) ≡ carried place_labels o (Some z)
carried_within e None z h = refl
carried_within e (Some g) z h = ap Some (h g refl)

pub ends_unmet : (s m e : ℕ) → s * m ≤ e → EndsUnmet s m e
ends_unmet s m e far n gap small = round_agree (λ z. z) (clamped_labels e) place_labels n gap gap zeros zeros (λ _ _. refl) (λ _ _. refl) m carry
  where
    unmet : (k u v : ℕ) → k < m → u < n → v < n → (g : ℤ) → gap u v ≡ Some g → clamp e (place n gap k u +ℤ g) ≡ place n gap k u +ℤ g
    unmet k u v hk hu hv g is =
        let b = small u v g hu hv is in
        let low = b.0 in
        let high = b.1 in
        let from = place_high n gap k u in
        let to = place_within s n gap (λ a c i ha hc d. (small a c i ha hc d).1) k u hu in
        let r : s * suc k ≤ s * m = mul-le-mul_left s hk in
        let j : s * suc k ≡ s * k + s = mul-suc s k in
        clamp_within e (place n gap k u +ℤ g) (omega (arith, ints)) (omega (arith, ints))

    carry : (k u v : ℕ) → k < m → u < n → v < n → (z : Option ℤ) → z ≡ round place_labels n gap zeros k u → carried (clamped_labels e) (gap u v) z ≡ carried place_labels (gap u v) (round place_labels n gap zeros k u)
    carry k u v hk hu hv z same =
        let p = place_is n gap k u in
        rw (same, p) (carried_within e (gap u v) (place n gap k u) (unmet k u v hk hu hv))
