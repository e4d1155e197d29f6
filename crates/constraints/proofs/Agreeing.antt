-- Coordinates that agree at every node, and how large the least can be. Assumes nothing.
use Rattle.std.proofs.Common.{◌≡◌, ℕ, ◌<◌, ◌≤◌, List, ◌++◌, length, get_or, ℤ, pos, nat_abs, ◌≤ℤ◌, unwrap_or, ap, inl, inr, arith}
use borrow.Author.Differences.{ints}
use Rattle.std.proofs.lemmas.List.{get_or_append_left}
use Rattle.walks.specs.Nodes.{Gaps}
use Rattle.walks.specs.Places.{place, EveryGap, Least}
use Rattle.walks.proofs.Pigeonhole.{distinct_few}
use Rattle.walks.proofs.Circuits.{long_walks_split}
use Rattle.walks.proofs.Longest.{settled_is_least, settled_or_circuit, circuit_refutes}
use Rattle.walks.proofs.Ends.{places_within}
use Rattle.propagation.specs.Graphs.{Within}
use Rattle.propagation.specs.declared.place.Place.{Place}
use Rattle.propagation.specs.Kinds.{place_meaning}
use Rattle.propagation.specs.Subject.{coordinate}
use Rattle.propagation.proofs.Pushing.{least_same}

-- the front of a memory has the coordinates of the whole
coordinate_front : (front rest : List Place) (v : ℕ) → v < length front → coordinate (front ++ rest) v ≡ coordinate front v
coordinate_front front rest v h = ap (λ (p : Place). unwrap_or p.at (pos 0)) (get_or_append_left front rest place_meaning.none v h)

-- ---- how far up the least coordinates can lie
least_low : (n : ℕ) (gaps : Gaps) (x : ℕ → ℤ) → n ≤ 128 → EveryGap n gaps (Within 100) → Least n gaps x → (v : ℕ) → v < n → x v ≤ℤ pos 12800
least_low n gaps x few small L v h =
    elim (settled_or_circuit n n n (long_walks_split n n n (distinct_few n) (omega arith)) (omega arith) gaps 128 (omega arith)) [
      | inl s ↦ (
          let P = settled_is_least n gaps 128 s in
          let below = L.least (place n gaps 128) P.keeps P.from_zero v h in
          let low = (places_within 100 128 12800 (omega arith) n gaps (λ a b g ha hb e. (small a b g ha hb e).1) 128 v (omega arith) h).1 in
          omega (arith, ints))
      | inr c ↦ absurd (circuit_refutes n gaps x L.keeps c)
    ]

-- ---- the least places at the front of a memory, as numbers from 0 up
module _ (n : ℕ) (gaps : Gaps) (few : n ≤ 128) (small : EveryGap n gaps (Within 100)) (front rest : List Place) (long : length front ≡ n) (xs : List ℕ) (same : (v : ℕ) → v < 128 → get_or xs v 0 ≡ nat_abs (coordinate (front ++ rest) v)) (L : Least n gaps (coordinate front)) where
  number_is : (v : ℕ) → v < n → pos (get_or xs v 0) ≡ coordinate front v
  number_is v h =
      let is = same v (omega arith) in
      let whole = coordinate_front front rest v (omega arith) in
      let up = L.from_zero v h in
      omega (arith, ints)

  pub least_numbers : Least n gaps (λ v. pos (get_or xs v 0)) × ((v : ℕ) → v < n → get_or xs v 0 ≤ 12800)
  least_numbers = (
    least_same n gaps (coordinate front) _ number_is L,
    λ v h. let same_number = number_is v h in let low = least_low n gaps (coordinate front) few small L v h in omega (arith, ints),
  )
