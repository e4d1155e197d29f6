-- What the engine's rounds come to. Assumes nothing.
use Rattle.std.proofs.Common.{◌≡◌, ℕ, ◌+◌, ◌-◌, ◌<◌, ◌≤◌, Bool, true, false, ◌⊎◌, List, length, Ok, Decides, sym, refl, ap, ◌∙◌, subst, inl, inr, arith, below_more}
use Rattle.std.proofs.lemmas.List.{ext_get_or}
use Rattle.walks.specs.Nodes.{Gaps}
use Rattle.walks.specs.Rounds.{Labels, Lawful, pulled, round, JoinOfWalks, Quiet}
use Rattle.walks.proofs.Labels.{round_next, quiet_once_stays, rounds_join_walks}
use Rattle.propagation.specs.Engine.{at, Ran, Propagates}

module _ {L : Type 0} (ops : Labels L) (n : ℕ) (gaps : Gaps) (start : List L) where
  -- k rounds were run, and each changed a label
  pub record Reached (k : ℕ) (newest before : List L) : Type 0 where
    pub newest_is : (v : ℕ) → v < n → at ops newest v ≡ round ops n gaps (at ops start) k v
    pub before_is : (j v : ℕ) → j + 1 ≡ k → v < n → at ops before v ≡ round ops n gaps (at ops start) j v
    pub changed : (j : ℕ) → j < k → ¬ Quiet ops n gaps (at ops start) j 1

  -- from what the rounds made, and what stopped them, all that the contract says of a run
  module _ (w : Lawful ops) (k : ℕ) (first second : List L) (settled : Bool) (within : k + 1 ≤ n) (changed : (j : ℕ) → j < k → ¬ Quiet ops n gaps (at ops start) j 1) (stops : Quiet ops n gaps (at ops start) k 1 ⊎ (k + 1 ≡ n)) (tells : Decides settled (Quiet ops n gaps (at ops start) k 1)) (sizes : (length first ≡ n) × (length second ≡ n)) (first_is : (v : ℕ) → v < n → at ops first v ≡ round ops n gaps (at ops start) (k + 1) v) (second_is : (v : ℕ) → v < n → at ops second v ≡ round ops n gaps (at ops start) k v) where
    joins : (j v : ℕ) (x : L) → x ≡ round ops n gaps (at ops start) j v → JoinOfWalks ops n gaps (at ops start) j v x
    joins j v x e = subst (JoinOfWalks ops n gaps (at ops start) j v) (sym e) (rounds_join_walks L j j refl ops w n gaps (at ops start) v)

    later : settled ≡ true → (j v : ℕ) → k ≤ j → v < n → at ops first v ≡ round ops n gaps (at ops start) j v
    later e j v h l =
        let q = tells.0 e in
        let i : k + (j - k) ≡ j = omega arith in
        first_is v l ∙ q v l ∙ sym (quiet_once_stays ops n gaps (at ops start) k q (j - k) v l) ∙ ap (λ m. round ops n gaps (at ops start) m v) i

    pub ran : Ran ops n gaps start first second settled
    ran =
        record {
          earlier = k;
          runs_at_most_as_many_rounds_as_nodes = within;
          goes_on_while_labels_change = changed;
          stops_at_no_change_or_after_as_many_rounds_as_nodes = stops;
          settled_exactly_when_unchanged = tells;
          memories_keep_their_length = sizes;
          first_holds_the_newest = first_is;
          second_is_one_round_behind = second_is;
          settled_memories_are_equal = λ e. ext_get_or ops.none first second (sizes.0 ∙ sym sizes.1) (λ v h. let l : v < n = omega (arith, sizes.0) in first_is v l ∙ tells.0 e v l ∙ sym (second_is v l));
          labels_join_walks = λ v h. joins (k + 1) v (at ops first v) (first_is v h);
          settled_labels_join_all_walks = λ e j v h l. joins j v (at ops first v) (later e j v h l);
        }

  -- one round more, which made the new labels from the old ones, and whether they are equal
  module _ (k : ℕ) {newest before : List L} (old new : List L) (so_far : Reached k newest before) (copied : old ≡ newest) (size : length old ≡ n) (size_too : length new ≡ n) (pulls : (v : ℕ) → v < length old → at ops new v ≡ pulled ops gaps (at ops old) v (length old)) (same : Bool) (tells : Decides same (new ≡ old)) where
    pub old_is : (v : ℕ) → v < n → at ops old v ≡ round ops n gaps (at ops start) k v
    old_is v h = ap (λ l. at ops l v) copied ∙ so_far.newest_is v h

    pub new_is : (v : ℕ) → v < n → at ops new v ≡ round ops n gaps (at ops start) (k + 1) v
    new_is v h = pulls v (omega arith) ∙ ap (pulled ops gaps (at ops old) v) size ∙ round_next ops n gaps (at ops start) k (at ops old) old_is v h

    pub tells_quiet : Decides same (Quiet ops n gaps (at ops start) k 1)
    tells_quiet = (
      λ e v h. sym (new_is v h) ∙ ap (λ l. at ops l v) (tells.0 e) ∙ old_is v h,
      λ q. tells.1 (ext_get_or ops.none new old (size_too ∙ sym size) (λ v h. let l : v < n = omega (arith, size_too) in new_is v l ∙ q v l ∙ sym (old_is v l))),
    )

    pub reached_more : same ≡ false → Reached (k + 1) new old
    reached_more e =
        record {
          newest_is = new_is;
          before_is = λ j v i h. old_is v h ∙ ap (λ m. round ops n gaps (at ops start) m v) (let m : k ≡ j = omega arith in m);
          changed = below_more (λ j. ¬ Quiet ops n gaps (at ops start) j 1) k so_far.changed (λ q. let z : true ≡ false = sym (tells_quiet.1 q) ∙ e in cc);
        }

    -- a round that changed no label was the last
    pub ran_settled : Lawful ops → k < n → same ≡ true → Ran ops n gaps start new old true
    ran_settled w within e =
        let q = tells_quiet.0 e in
        ran w k new old true (omega arith) so_far.changed (inl q) (λ _. q, λ _. refl) (size_too, size) new_is old_is

  -- every round changed a label
  pub ran_all : Lawful ops → {newest before : List L} (k : ℕ) → k ≡ n → 1 ≤ n → (length newest ≡ n) × (length before ≡ n) → Reached k newest before → Ran ops n gaps start newest before false
  ran_all w {newest = newest} {before = before} all is_all one sizes reached =
      let r : Reached n newest before = subst (λ (m : ℕ). Reached m newest before) is_all reached in
      let k : ℕ = n - 1 in
      let e : k + 1 ≡ n = omega arith in
      let here = r.changed k (omega arith) in
      ran w k newest before false (omega arith) (λ j h. r.changed j (omega arith)) (inr e) (λ i. absurd cc, λ q. absurd (here q)) sizes
      (λ v h. r.newest_is v h ∙ ap (λ m. round ops n gaps (at ops start) m v) (sym e)) (λ v h. r.before_is k v e h)

  -- to stop early changes no label: the first memory holds what as many rounds as nodes make
  pub ran_through : (first second : List L) (settled : Bool) → Ran ops n gaps start first second settled → (v : ℕ) → v < n → at ops first v ≡ round ops n gaps (at ops start) n v
  ran_through first second settled r v h =
      let k = r.earlier in
      r.first_holds_the_newest v h ∙ elim r.stops_at_no_change_or_after_as_many_rounds_as_nodes [
        | inl q ↦ (
            let within = r.runs_at_most_as_many_rounds_as_nodes in
            let i : k + (n - k) ≡ n = omega arith in
            q v h ∙ sym (quiet_once_stays ops n gaps (at ops start) k q (n - k) v h) ∙ ap (λ m. round ops n gaps (at ops start) m v) i)
        | inr e ↦ ap (λ m. round ops n gaps (at ops start) m v) e
      ]

  pub propagated : (spare : List L) {first second : List L} (settled : Bool) → length start ≡ n → length spare ≡ n → Ran ops n gaps start first second settled → Propagates ops n gaps start spare first second (Ok settled)
  propagated spare {first = first} {second = second} settled fits fits_too r =
      record {
        runs_exactly_when_memories_fit = (λ _. (fits, fits_too), λ _. refl);
        refusal_is_of_the_memory = λ e i. absurd cc;
        wrong_memory_leaves_all = λ i. absurd cc;
        runs = λ s i. subst (Ran ops n gaps start first second) (let j : settled ≡ s = cc in j) r;
      }
