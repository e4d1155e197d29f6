-- Places are what the longest walks bring. Assumes nothing.
use Rattle.std.proofs.Common.{◌≡◌, ℕ, zero, suc, ◌+◌, ◌<◌, ◌≤◌, Bool, true, false, T, ◌≢◌, ◌⊎◌, List, [], ◌∷◌, ◌++◌, length, ℤ, pos, ◌+ℤ◌, ◌≤ℤ◌, is_some, Some, None, Option, unwrap_or, sym, refl, ap, ◌∙◌, subst, inl, inr, add-one, arith}
use native.Mathlib.Decide.{dec_le}
use lib.IntN.{ℤ_discrete}
use lib.Signed.{lt_z}
use borrow.Author.Differences.{ints}
use Rattle.std.proofs.lemmas.Int.{clamps}
use Rattle.std.specs.Int.{int_max}
use Rattle.walks.specs.Nodes.{Below, Gaps, Arc, worth, Walk, origin, total, Split, LongWalksSplit}
use Rattle.walks.specs.Rounds.{Lawful, carried, round, along, below, pulled}
use Rattle.walks.specs.Places.{greater, places_by, place_labels, zeros, place, Settled, Keeps, FromZero, GainingCircuit, Driven, SettledIsLeast, LeastIsOne, LateRiseIsDriven, SettledOrCircuit, CircuitRefutes, ClosedWalkHasCircuit}
use Rattle.walks.proofs.Labels.{list_above, round_attained}
use Rattle.walks.proofs.Circuits.{origin_below, rest_walk, rest_arcs, rest_below, rest_total, loop_below, after_below}
use Rattle.walks.proofs.Ranges.{all_or_one}

-- ---- the laws of places
max_assoc : (a b c : ℤ) → int_max (int_max a b) c ≡ int_max a (int_max b c)
max_assoc a b c = omega (arith, ints, clamps)

max_comm : (a b : ℤ) → int_max a b ≡ int_max b a
max_comm a b = omega (arith, ints, clamps)

max_idem : (a : ℤ) → int_max a a ≡ a
max_idem a = omega (arith, ints, clamps)

max_add : (g a b : ℤ) → int_max a b +ℤ g ≡ int_max (a +ℤ g) (b +ℤ g)
max_add g a b = omega (arith, ints, clamps)

max_le : (a b : ℤ) → int_max a b ≡ b → a ≤ℤ b
max_le a b e = omega (arith, ints, clamps)

greater_assoc : (x y z : Option ℤ) → greater (greater x y) z ≡ greater x (greater y z)
greater_assoc None y z = refl
greater_assoc (Some a) None z = refl
greater_assoc (Some a) (Some b) None = refl
greater_assoc (Some a) (Some b) (Some c) = ap Some (max_assoc a b c)

greater_comm : (x y : Option ℤ) → greater x y ≡ greater y x
greater_comm None None = refl
greater_comm None (Some b) = refl
greater_comm (Some a) None = refl
greater_comm (Some a) (Some b) = ap Some (max_comm a b)

greater_idem : (x : Option ℤ) → greater x x ≡ x
greater_idem None = refl
greater_idem (Some a) = ap Some (max_idem a)

-- f keeps the order
module _ (f : ℤ → ℤ) (keeps : (a b : ℤ) → f (int_max a b) ≡ int_max (f a) (f b)) where
  raise_over : (g : ℤ) (x y : Option ℤ) → (places_by f).carry g (greater x y) ≡ greater ((places_by f).carry g x) ((places_by f).carry g y)
  raise_over g None y = refl
  raise_over g (Some a) None = refl
  raise_over g (Some a) (Some b) = ap Some (ap f (max_add g a b) ∙ keeps (a +ℤ g) (b +ℤ g))

  pub places_lawful : Lawful (places_by f)
  places_lawful = record { assoc = greater_assoc; comm = greater_comm; idem = greater_idem; neutral = λ x. refl; over = raise_over; empty = λ g. refl }

pub place_lawful : Lawful place_labels
place_lawful = places_lawful (λ z. z) (λ a b. refl)

max_one : (b a : ℤ) (t : Bool) → lt_z b a ≡ t → (int_max a b ≡ a) ⊎ (int_max a b ≡ b)
max_one b a true e = inl (omega (arith, ints, clamps))
max_one b a false e = inr (omega (arith, ints, clamps))

greater_one : (x y : Option ℤ) → (greater x y ≡ x) ⊎ (greater x y ≡ y)
greater_one None y = inr refl
greater_one (Some a) None = inl refl
greater_one (Some a) (Some b) = elim (max_one b a (lt_z b a) refl) [ inl e ↦ inl (ap Some e) | inr e ↦ inr (ap Some e) ]

greater_le : (a b : ℤ) → greater (Some a) (Some b) ≡ Some b → a ≤ℤ b
greater_le a b e = let f : int_max a b ≡ b = cc in max_le a b f

-- ---- a gap that is there
pub arc_gap : (o : Option ℤ) → T (is_some o) → o ≡ Some (unwrap_or o (pos 0))
arc_gap None t = absurd t
arc_gap (Some g) t = refl

pub gap_arc : (o : Option ℤ) (g : ℤ) → o ≡ Some g → T (is_some o) × (unwrap_or o (pos 0) ≡ g)
gap_arc None g e = absurd (let y : ◌≡◌ {A = ℕ} 0 1 = cc in omega arith)
gap_arc (Some h) g e = (tt, cc)

-- ---- what walks bring
greater_there : (x y : Option ℤ) → x ≡ Some (unwrap_or x (pos 0)) → greater x y ≡ Some (unwrap_or (greater x y) (pos 0))
greater_there None y e = absurd (let z : ◌≡◌ {A = ℕ} 0 1 = cc in omega arith)
greater_there (Some a) None e = refl
greater_there (Some a) (Some b) e = refl

pulled_there : (f : ℤ → ℤ) (gap : Gaps) (x : ℕ → Option ℤ) (v : ℕ) → x v ≡ Some (unwrap_or (x v) (pos 0)) → (m : ℕ) → pulled (places_by f) gap x v m ≡ Some (unwrap_or (pulled (places_by f) gap x v m) (pos 0))
pulled_there f gap x v e zero = e
pulled_there f gap x v e (suc m) = greater_there _ _ (pulled_there f gap x v e m)

raised_from : (o x : Option ℤ) (z : ℤ) → carried place_labels o x ≡ Some z → T (is_some o) × ((y : ℤ) × (x ≡ Some y) × (z ≡ y +ℤ unwrap_or o (pos 0)))
raised_from None x z e = absurd (let y : ◌≡◌ {A = ℕ} 0 1 = cc in omega arith)
raised_from (Some g) None z e = absurd (let y : ◌≡◌ {A = ℕ} 0 1 = cc in omega arith)
raised_from (Some g) (Some y) z e = (tt, (y, refl, cc))

raised_to : (o : Option ℤ) (y : ℤ) → T (is_some o) → carried place_labels o (Some y) ≡ Some (y +ℤ unwrap_or o (pos 0))
raised_to None y t = absurd t
raised_to (Some g) y t = refl

module _ (n : ℕ) (gap : Gaps) where
  -- a place is always there
  pub place_is : (k v : ℕ) → round place_labels n gap zeros k v ≡ Some (place n gap k v)
  place_is zero v = refl
  place_is (suc k) v = pulled_there (λ z. z) gap (round place_labels n gap zeros k) v (place_is k v) n

  pub place_changes : (k v : ℕ) → round place_labels n gap zeros (k + 1) v ≢ round place_labels n gap zeros k v → place n gap (k + 1) v ≢ place n gap k v
  place_changes k v d e = d (place_is (k + 1) v ∙ ap Some e ∙ sym (place_is k v))

  walk_brings : (v : ℕ) (l : List ℕ) → Walk (Arc gap) v l → along place_labels gap zeros v l ≡ Some (total (worth gap) v l)
  walk_brings v [] w = refl
  walk_brings v (u ∷ l) w = ap (carried place_labels (gap u v)) (walk_brings u l w.1) ∙ raised_to (gap u v) _ w.0

  brought_by_walk : (v : ℕ) (l : List ℕ) (z : ℤ) → along place_labels gap zeros v l ≡ Some z → Walk (Arc gap) v l × (z ≡ total (worth gap) v l)
  brought_by_walk v [] z e = (tt, cc)
  brought_by_walk v (u ∷ l) z e =
      let r = raised_from (gap u v) (along place_labels gap zeros u l) z e in
      let s = brought_by_walk u l r.1.0 r.1.1 in
      ((r.0, s.0), r.1.2 ∙ ap (λ t. t +ℤ worth gap u v) s.1)

  -- no walk of at most k arcs sums to more than the place
  pub walk_le_place : (k v : ℕ) (l : List ℕ) → Below n l → Walk (Arc gap) v l → length l ≤ k → total (worth gap) v l ≤ℤ place n gap k v
  walk_le_place k v l b w h =
      greater_le _ _ (subst (λ (y : Option ℤ). greater (Some (total (worth gap) v l)) y ≡ y) (place_is k v)
      (subst (λ (x : Option ℤ). below place_labels x (round place_labels n gap zeros k v)) (walk_brings v l w)
      (list_above place_labels place_lawful n gap zeros k v l b h)))

  -- and one sums to as much
  pub place_walk : (k v : ℕ) → (l : List ℕ) × Below n l × Walk (Arc gap) v l × (length l ≤ k) × (place n gap k v ≡ total (worth gap) v l)
  place_walk k v =
      let r = round_attained place_labels n gap zeros greater_one k v in
      let s = brought_by_walk v r.0 (place n gap k v) (r.3 ∙ place_is k v) in
      (r.0, r.1, s.0, r.2, s.1)

  pub place_rises : (k v : ℕ) → place n gap k v ≤ℤ place n gap (suc k) v
  place_rises k v = let r = place_walk k v in subst (λ (z : ℤ). z ≤ℤ place n gap (suc k) v) (sym r.4) (walk_le_place (suc k) v r.0 r.1 r.2 (omega (arith, r.3)))

  pub place_high : (k v : ℕ) → pos 0 ≤ℤ place n gap k v
  place_high k v = walk_le_place k v [] tt tt (omega arith)

-- ---- where coordinates satisfy every gap
module _ (n : ℕ) (gap : Gaps) (y : ℕ → ℤ) (keeps : Keeps n gap y) where
  pub arc_le : (u v : ℕ) → u < n → v < n → Arc gap u v → (y u +ℤ worth gap u v) ≤ℤ y v
  arc_le u v hu hv a = keeps u v (worth gap u v) hu hv (arc_gap (gap u v) a)

  pub walk_le : (v : ℕ) (l : List ℕ) → Below n (v ∷ l) → Walk (Arc gap) v l → (y (origin v l) +ℤ total (worth gap) v l) ≤ℤ y v
  walk_le v [] b w = omega (arith, ints)
  walk_le v (u ∷ l) b w =
      let ih = walk_le u l b.1 w.1 in
      let st = arc_le u v b.1.0 b.0 w.0 in
      omega (arith, ints)

  pub total_le : FromZero n y → (v : ℕ) (l : List ℕ) → Below n (v ∷ l) → Walk (Arc gap) v l → total (worth gap) v l ≤ℤ y v
  total_le high v l b w =
      let s = walk_le v l b w in
      let h = high (origin v l) (origin_below n v l b) in
      omega (arith, ints)

-- a closed walk lies among the nodes where its list does
pub closed_below : (n v : ℕ) (l : List ℕ) → Below n l → origin v l ≡ v → 0 < length l → v < n
closed_below n v [] b e h = absurd (omega arith)
closed_below n v (u ∷ l) b e h = omega (arith, e, origin_below n u l b)

closed_le : (n : ℕ) (gap : Gaps) (y : ℕ → ℤ) → Keeps n gap y → (v : ℕ) (l : List ℕ) → Below n l → Walk (Arc gap) v l → origin v l ≡ v → total (worth gap) v l ≤ℤ pos 0
closed_le n gap y keeps v [] b w e = omega (arith, ints)
closed_le n gap y keeps v (u ∷ l) b w e =
    let h = walk_le n gap y keeps v (u ∷ l) (closed_below n v (u ∷ l) b e (omega arith), b) w in
    let q : y (origin v (u ∷ l)) ≡ y v = ap y e in
    omega (arith, ints)

pub circuit_refutes : (n : ℕ) → CircuitRefutes n
circuit_refutes n gap x keeps c =
    let h = closed_le n gap x keeps c.node c.loop c.within c.circuit.walk c.circuit.closed in
    let g = c.gains in
    omega (arith, ints)

-- ---- settled places
le_antisym : (a b : ℤ) → a ≤ℤ b → b ≤ℤ a → a ≡ b
le_antisym a b h k = omega (arith, ints)

pub place_settled : (n : ℕ) (gap : Gaps) (k : ℕ) → Settled n gap k → (v : ℕ) → v < n → place n gap (suc k) v ≡ place n gap k v
place_settled n gap k s v h = let e = s v h in ap (λ o. unwrap_or o (pos 0)) (rw add-one at e)

pub settled_is_least : (n : ℕ) → SettledIsLeast n
settled_is_least n gap k s =
    record {
      keeps = λ a b g ha hb e.
          let t = gap_arc (gap a b) g e in
          let r = place_walk n gap k a in
          let p = r.4 in
          let q = t.1 in
          let m = walk_le_place n gap (suc k) b (a ∷ r.0) (ha, r.1) (t.0, r.2) (omega (arith, r.3)) in
          let st = place_settled n gap k s b hb in
          omega (arith, ints);
      from_zero = λ v h. place_high n gap k v;
      least = λ y keeps high v h.
          let r = place_walk n gap k v in
          subst (λ (z : ℤ). z ≤ℤ y v) (sym r.4) (total_le n gap y keeps high v r.0 (h, r.1) r.2);
    }

pub least_is_one : (n : ℕ) → LeastIsOne n
least_is_one n gap x y a b v h = le_antisym _ _ (a.least y b.keeps b.from_zero v h) (b.least x a.keeps a.from_zero v h)

-- ---- a place that still rises
module _ (n : ℕ) (gap : Gaps) (k v : ℕ) (hv : v < n) (up : place n gap (suc k) v ≢ place n gap k v) where
  no_less : (z : ℤ) → place n gap (suc k) v ≡ z → z ≤ℤ place n gap k v → ⊥
  no_less z e h = up (le_antisym _ _ (subst (λ (t : ℤ). t ≤ℤ place n gap k v) (sym e) h) (place_rises n gap k v))

  -- the circuit in a walk that brings more than any of at most k arcs
  gaining : (l : List ℕ) → Below n l → length l ≤ suc k → place n gap (suc k) v ≡ total (worth gap) v l → (s : Split (Arc gap) v l) → (t : Bool) → lt_z (pos 0) (total (worth gap) s.node s.loop) ≡ t → Driven n gap v
  gaining l b h e s true q =
      record {
        by = record { node = s.node; loop = s.loop; within = loop_below (Arc gap) v l s n b; circuit = s.circuit; gains = omega (arith, ints) };
        reaches = record { way = s.after; within = after_below (Arc gap) v l s n b; walk = s.onward; from = s.leaves };
      }
  gaining l b h e s false q =
      let g = rest_total (Arc gap) v l s (worth gap) in
      let m = walk_le_place n gap k v (s.after ++ s.before) (rest_below (Arc gap) v l s n b) (rest_walk (Arc gap) v l s) (omega (arith, rest_arcs (Arc gap) v l s, s.circuit.moves)) in
      absurd (no_less (total (worth gap) v l) e (omega (arith, ints)))

  pub rise_is_driven : (m : ℕ) → LongWalksSplit n m → m ≤ suc k → Driven n gap v
  rise_is_driven m split h =
      let r = place_walk n gap (suc k) v in
      elim (dec_le (length r.0) k) [
        | yes s ↦ absurd (no_less _ r.4 (walk_le_place n gap k v r.0 r.1 r.2 s))
        | no s ↦ gaining r.0 r.1 r.3 r.4 (split gap v r.0 (hv, r.1) r.2 (omega arith)) _ refl
      ]

pub late_rise_is_driven : (n i m : ℕ) → LongWalksSplit n i → i ≤ m → LateRiseIsDriven n m
late_rise_is_driven n i m split h gap k v late hv up = rise_is_driven n gap k v hv (rw add-one at up) i split (omega arith)

pub settled_or_circuit : (n i m : ℕ) → LongWalksSplit n i → i ≤ m → SettledOrCircuit n m
settled_or_circuit n i m split h gap k late = go (all_or_one (λ v. place n gap (k + 1) v ≡ place n gap k v) (λ v. place n gap (k + 1) v ≢ place n gap k v) n (λ v hv. either v))
  where
    either : (v : ℕ) → (place n gap (k + 1) v ≡ place n gap k v) ⊎ (place n gap (k + 1) v ≢ place n gap k v)
    either v = elim (ℤ_discrete (place n gap (k + 1) v) (place n gap k v)) [ yes e ↦ inl e | no d ↦ inr d ]

    go : ((v : ℕ) → v < n → place n gap (k + 1) v ≡ place n gap k v) ⊎ ((v : ℕ) × (v < n) × (place n gap (k + 1) v ≢ place n gap k v)) → Settled n gap k ⊎ GainingCircuit n gap
    go (inl f) = inl (λ v hv. place_is n gap (k + 1) v ∙ ap Some (f v hv) ∙ sym (place_is n gap k v))
    go (inr r) = inr (late_rise_is_driven n i m split h gap k r.0 late r.1 r.2).by

pub closed_walk_has_circuit : (n i : ℕ) → LongWalksSplit n i → ClosedWalkHasCircuit n
closed_walk_has_circuit n i split gap v l b w e g = go (settled_or_circuit n i i split (omega arith) gap i (omega arith))
  where
    go : Settled n gap i ⊎ GainingCircuit n gap → GainingCircuit n gap
    go (inl s) = let h = closed_le n gap (place n gap i) (settled_is_least n gap i s).keeps v l b w e in absurd (omega (arith, ints))
    go (inr c) = c
