-- Marks on the nodes that arcs lead to, carried on, are on the nodes that walks of one or more arcs lead to. Assumes nothing.
use Rattle.std.proofs.Common.{◌≡◌, ℕ, ◌<◌, ◌≤◌, Bool, true, false, T, ◌↔◌, List, [], ◌∷◌, ◌++◌, length, is_some, Ok, Decides, sym, refl, ap, ◌∙◌, subst, inl, inr, arith, length-append}
use Rattle.std.proofs.ByRecursion.{All-push}
use Rattle.std.proofs.lemmas.List.{get_or_past}
use Rattle.std.proofs.lemmas.Bool.{both_ways, cases_lt}
use Rattle.walks.specs.Nodes.{Below, Gaps, Arc, Walk, origin, WalksShorten}
use Rattle.walks.specs.Rounds.{round}
use Rattle.walks.specs.Reach.{reach_labels}
use Rattle.walks.proofs.Pigeonhole.{all_front, distinct_few}
use Rattle.walks.proofs.Circuits.{origin_append, walk_front, walk_back, walk_append, long_walks_split, walks_shorten}
use Rattle.walks.proofs.Reaching.{rounds_decide_marks}
use Rattle.propagation.specs.Engine.{at, Ran}
use Rattle.propagation.specs.Kinds.{reach_meaning}
use Rattle.propagation.specs.Subject.{Leads, ReachedFrom}
use Rattle.propagation.specs.declared.reach.Reach.{Reach}
use Rattle.propagation.specs.Held.{held_round}
use Rattle.propagation.proofs.Running.{ran_through}

pub every_walk_shortens : (n : ℕ) → WalksShorten n n
every_walk_shortens n = walks_shorten n n n (long_walks_split n n n (distinct_few n) (omega arith)) (omega arith)

pub true_by : (t : Bool) → T t → t ≡ true
true_by true h = refl
true_by false h = absurd h

-- a walk of one or more arcs, without its first node
but_first : (v : ℕ) (l : List ℕ) → 0 < length l → (p : List ℕ) × (l ≡ p ++ (origin v l ∷ []))
but_first v [] h = absurd (omega arith)
but_first v (u ∷ []) h = ([], refl)
but_first v (u ∷ w ∷ l) h = let r = but_first u (w ∷ l) (omega arith) in (u ∷ r.0, ap (λ q. u ∷ q) r.1)

module _ (n : ℕ) (gaps : Gaps) (joined : (a b : ℕ) → Arc gaps a b → (a < n) × (b < n)) (a : ℕ) where
  leads_to_node : (b : ℕ) → Leads n gaps a b → b < n
  leads_to_node b d = go d.walks.way d.walks.walk d.moves
    where
      go : (l : List ℕ) → Walk (Arc gaps) b l → 0 < length l → b < n
      go [] w h = absurd (omega arith)
      go (u ∷ l) w h = (joined u b w.0).1

  pub nothing_leads_outside : (b : ℕ) → n ≤ b → Decides false (Leads n gaps a b)
  nothing_leads_outside b out = (λ e. absurd (both_ways false refl e), λ d. absurd (let h = leads_to_node b d in omega arith))

  marks_lead : (b : ℕ) → ((l : List ℕ) × Below n l × Walk (Arc gaps) b l × T (is_some (gaps a (origin b l)))) → Leads n gaps a b
  marks_lead b m =
      let l = m.0 in
      record {
        walks = record {
          way = l ++ (a ∷ []);
          within = All-push (λ x. x < n) l a m.1 (joined a (origin b l) m.3).0;
          walk = walk_append (Arc gaps) b l (a ∷ []) m.2 (m.3, tt);
          from = origin_append b l (a ∷ []);
        };
        moves = (let e = length-append l (a ∷ []) in omega arith);
      }

  lead_marks : (b : ℕ) → Leads n gaps a b → (l : List ℕ) × Below n l × Walk (Arc gaps) b l × T (is_some (gaps a (origin b l)))
  lead_marks b d =
      let r = d.walks in
      let s = but_first b r.way d.moves in
      let p = s.0 in
      let is : r.way ≡ p ++ (a ∷ []) = s.1 ∙ ap (λ x. p ++ (x ∷ [])) r.from in
      let walk = subst (Walk (Arc gaps) b) is r.walk in
      (p, all_front (λ x. x < n) p (a ∷ []) (subst (Below n) is r.within), walk_front (Arc gaps) b p (a ∷ []) walk, (walk_back (Arc gaps) b p (a ∷ []) walk).0)

  pub rounds_decide_leads : (b : ℕ) → b < n → T (round reach_labels n gaps (λ v. is_some (gaps a v)) n b) ↔ Leads n gaps a b
  rounds_decide_leads b h =
      let d = rounds_decide_marks gaps (λ v. is_some (gaps a v)) n n (every_walk_shortens n) b h in
      (λ t. marks_lead b (d.0 t), λ w. d.1 (lead_marks b w))

  -- so the engine's labels decide it
  pub labels_decide_leads : (start first second : List Reach) (settled : Bool) → ((v : ℕ) → v < n → (at reach_meaning start v).yes ≡ is_some (gaps a v)) → Ran reach_meaning n gaps start first second settled → (b : ℕ) → b < n → Decides (at reach_meaning first b).yes (Leads n gaps a b)
  labels_decide_leads start first second settled heads ran b h =
      let is : (at reach_meaning first b).yes ≡ round reach_labels n gaps (λ v. is_some (gaps a v)) n b =
      ap (λ x. x.yes) (ran_through reach_meaning n gaps start first second settled ran b h) ∙ held_round (λ x. x.yes) (λ t. record { yes = t }) reach_labels (λ _. refl) n gaps (at reach_meaning start) (λ v. is_some (gaps a v)) heads n b h in
      let d = rounds_decide_leads b h in
      (λ e. d.0 (subst T (sym e ∙ is) tt), λ w. is ∙ true_by _ (d.1 w))

  -- and a memory of them marks what is led to, and no more
  pub labels_mark_leads : (given start first second : List Reach) (settled : Bool) → length given ≡ n → ((v : ℕ) → v < n → (at reach_meaning start v).yes ≡ is_some (gaps a v)) → Ran reach_meaning n gaps start first second settled → ReachedFrom n gaps a given first (Ok tt)
  labels_mark_leads given start first second settled fits heads ran =
      record {
        runs_exactly_when_the_memory_fits = (λ _. fits, λ _. refl);
        refusal_is_of_the_memory = λ e i. absurd cc;
        wrong_memory_leaves_all = λ i. absurd cc;
        marks_what_is_led_to = λ _ b. elim (cases_lt b n) [
          | inl h ↦ labels_decide_leads start first second settled heads ran b h
          | inr out ↦ (
              let long = ran.memories_keep_their_length.0 in
              let unmarked : (at reach_meaning first b).yes ≡ false = ap (λ (x : Reach). x.yes) (get_or_past first b reach_meaning.none (omega arith)) in
              let P : Bool → Type 0 = λ t. Decides t (Leads n gaps a b) in
              subst P (sym unmarked) (nothing_leads_outside b out))
        ];
      }
