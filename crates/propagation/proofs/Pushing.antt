-- The engine's places from 0 are the least coordinates from 0 up, or there are none. Assumes nothing.
use Rattle.std.proofs.Common.{◌≡◌, ℕ, ◌+◌, ◌<◌, ◌≤◌, Bool, true, false, ◌↔◌, List, length, ℤ, pos, is_ok, is_err, Some, Ok, Err, Option, Result, unwrap_or, sym, refl, ap, ◌∙◌, inl, inr, arith}
use borrow.Author.Differences.{ints}
use Rattle.walks.specs.Nodes.{Gaps}
use Rattle.walks.specs.Rounds.{round, Quiet}
use Rattle.walks.specs.Places.{place_labels, clamped_labels, zeros, place, Settled, Least, GainingCircuit, EveryGap}
use Rattle.walks.proofs.Pigeonhole.{distinct_few}
use Rattle.walks.proofs.Circuits.{long_walks_split}
use Rattle.walks.proofs.Longest.{place_is, settled_is_least, settled_or_circuit, circuit_refutes}
use Rattle.walks.proofs.Ends.{ends_unmet}
use Rattle.propagation.specs.Graphs.{Within}
use Rattle.propagation.specs.Kinds.{place_meaning}
use Rattle.propagation.specs.Engine.{at, Ran, Propagates}
use Rattle.propagation.specs.Subject.{coordinate, LongestPlaces}
use Rattle.propagation.specs.declared.place.Place.{Place}
use Rattle.propagation.specs.declared.refusal.Refusal.{Refusal}
use Rattle.propagation.specs.Held.{held_round, quiet_along}

-- coordinates that agree with the least ones are the least
pub least_same : (n : ℕ) (gaps : Gaps) (x y : ℕ → ℤ) → ((v : ℕ) → v < n → y v ≡ x v) → Least n gaps x → Least n gaps y
least_same n gaps x y same l =
    record {
      keeps = λ a b g ha hb e. let i = same a ha in let j = same b hb in let k = l.keeps a b g ha hb e in omega (arith, ints);
      from_zero = λ v h. let i = same v h in let k = l.from_zero v h in omega (arith, ints);
      least = λ z keeps from_zero v h. let i = same v h in let k = l.least z keeps from_zero v h in omega (arith, ints);
    }

ok_of : (r : Result Bool Refusal) → is_ok r ≡ true → (s : Bool) × (r ≡ Ok s)
ok_of (Ok s) e = (s, refl)
ok_of (Err x) e = absurd cc

not_both : (r : Result Bool Refusal) → is_ok r ≡ true → is_err r ≡ true → ⊥
not_both (Ok s) e f = cc
not_both (Err x) e f = cc

module _ (n : ℕ) (gaps : Gaps) (few : n ≤ 128) (small : EveryGap n gaps (Within 100)) (start : List Place) (at_zero : (v : ℕ) → v < n → (at place_meaning start v).at ≡ Some (pos 0)) where
  round_is : (k v : ℕ) → k ≤ 128 → v < n → (round place_meaning n gaps (at place_meaning start) k v).at ≡ round place_labels n gaps zeros k v
  round_is k v hk h =
      held_round (λ p. p.at) (λ o. record { at = o }) (clamped_labels 30000) (λ _. refl) n gaps (at place_meaning start) zeros at_zero k v h
      ∙ ends_unmet 100 128 30000 (omega arith) n gaps small k v hk h

  module _ (first second : List Place) (settled : Bool) (ran : Ran place_meaning n gaps start first second settled) where
    place_held : (v : ℕ) → v < n → (at place_meaning first v).at ≡ Some (place n gaps (ran.earlier + 1) v)
    place_held v h =
        let within = ran.runs_at_most_as_many_rounds_as_nodes in
        ap (λ p. p.at) (ran.first_holds_the_newest v h) ∙ round_is (ran.earlier + 1) v (omega arith) h ∙ place_is n gaps (ran.earlier + 1) v

    coordinate_is : (v : ℕ) → v < n → coordinate first v ≡ place n gaps (ran.earlier + 1) v
    coordinate_is v h = ap (λ o. unwrap_or o (pos 0)) (place_held v h)

    pub has_place : (v : ℕ) → v < n → (at place_meaning first v).at ≡ Some (coordinate first v)
    has_place v h = place_held v h ∙ ap Some (sym (coordinate_is v h))

    quiet_is : Quiet place_meaning n gaps (at place_meaning start) ran.earlier 1 ↔ Settled n gaps ran.earlier
    quiet_is =
        let within = ran.runs_at_most_as_many_rounds_as_nodes in
        quiet_along (λ p. p.at) (λ x y e. ap (λ (o : Option ℤ). let p : Place = record { at = o } in p) e) place_meaning place_labels n gaps (at place_meaning start) zeros ran.earlier (λ j v hj h. round_is j v (omega arith) h)

    pub settled_least : settled ≡ true → Least n gaps (coordinate first)
    settled_least e =
        let s = quiet_is.0 (ran.settled_exactly_when_unchanged.0 e) in
        least_same n gaps (place n gaps ran.earlier) (coordinate first) (λ v h. coordinate_is v h ∙ ap (λ o. unwrap_or o (pos 0)) (s v h)) (settled_is_least n gaps ran.earlier s)

    unquiet : settled ≡ false → ¬ Quiet place_meaning n gaps (at place_meaning start) ran.earlier 1
    unquiet e q = let t = ran.settled_exactly_when_unchanged.1 q in cc

    all_rounds : settled ≡ false → ran.earlier + 1 ≡ n
    all_rounds e = elim ran.stops_at_no_change_or_after_as_many_rounds_as_nodes [ inl q ↦ absurd (unquiet e q) | inr i ↦ i ]

    pub unsettled_circuit : settled ≡ false → GainingCircuit n gaps
    unsettled_circuit e =
        let last = all_rounds e in
        elim (settled_or_circuit n n n (long_walks_split n n n (distinct_few n) (omega arith)) (omega arith) gaps ran.earlier (omega arith)) [
          | inl s ↦ absurd (unquiet e (quiet_is.1 s))
          | inr c ↦ c
        ]

    pub unsettled_last : settled ≡ false → (v : ℕ) → v < n → coordinate first v ≡ place n gaps n v
    unsettled_last e v h = coordinate_is v h ∙ ap (λ k. place n gaps k v) (all_rounds e)

  pub longest : (given spare first second : List Place) (r : Result Bool Refusal) → length given ≡ n → length start ≡ n → length spare ≡ n → Propagates place_meaning n gaps start spare first second r → LongestPlaces n gaps given first r
  longest given spare first second r fits fits_start fits_spare p =
      let ok = p.runs_exactly_when_memories_fit.1 (fits_start, fits_spare) in
      record {
        runs_exactly_when_the_memory_fits = (λ _. fits, λ _. ok);
        refusal_is_of_the_memory = p.refusal_is_of_the_memory;
        wrong_memory_leaves_all = λ e. absurd (not_both r ok e);
        every_node_has_a_place = λ e. let s = ok_of r e in has_place first second s.0 (p.runs s.0 s.1);
        yes_gives_the_least_coordinates = λ e. settled_least first second true (p.runs true e) refl;
        no_says_that_there_are_none = λ e x keeps. circuit_refutes n gaps x keeps (unsettled_circuit first second false (p.runs false e) refl);
        no_comes_of_a_circuit = λ e. unsettled_circuit first second false (p.runs false e) refl;
        no_leaves_the_places_of_the_last_round = λ e. unsettled_last first second false (p.runs false e) refl;
      }
