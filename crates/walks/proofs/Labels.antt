-- Rounds of labels are the joins of what walks bring. Assumes nothing.
use Rattle.std.proofs.Common.{◌≡◌, ℕ, zero, suc, ◌+◌, ◌<◌, ◌≤◌, T, ◌⊎◌, List, [], ◌∷◌, length, ℤ, is_some, Some, None, Option, sym, refl, ap, ◌∙◌, subst, ap₂, inl, inr, add-zero, add-suc, add-one, arith}
use native.Mathlib.Decide.{ℕ_discrete}
use Rattle.walks.specs.Nodes.{Below, Gaps, Arc, Walk}
use Rattle.walks.specs.Rounds.{Labels, Lawful, below, carried, pulled, round, along, JoinOfWalks, RoundsJoinWalks, JoinsAreOne, Quiet, QuietStays}

-- ---- the order of the join
module _ {L : Type 0} (ops : Labels L) (w : Lawful ops) where
  pub below_trans : (x y z : L) → below ops x y → below ops y z → below ops x z
  below_trans x y z p q = ap (ops.join x) (sym q) ∙ sym (w.assoc x y z) ∙ ap (λ t. ops.join t z) p ∙ q

  pub below_left : (x y : L) → below ops x (ops.join x y)
  below_left x y = sym (w.assoc x x y) ∙ ap (λ t. ops.join t y) (w.idem x)

  pub below_right : (x y : L) → below ops y (ops.join x y)
  below_right x y = ap (ops.join y) (w.comm x y) ∙ below_left y x ∙ w.comm y x

  pub join_least : (x y z : L) → below ops x z → below ops y z → below ops (ops.join x y) z
  join_least x y z p q = w.assoc x y z ∙ ap (ops.join x) q ∙ p

  pub below_antisym : (x y : L) → below ops x y → below ops y x → x ≡ y
  below_antisym x y p q = sym q ∙ w.comm y x ∙ p

  pub join_none : (x : L) → ops.join x ops.none ≡ x
  join_none x = w.comm x ops.none ∙ w.neutral x

  pub carried_over : (o : Option ℤ) (x y : L) → carried ops o (ops.join x y) ≡ ops.join (carried ops o x) (carried ops o y)
  carried_over None x y = sym (w.idem ops.none)
  carried_over (Some g) x y = w.over g x y

  pub carried_none : (o : Option ℤ) → carried ops o ops.none ≡ ops.none
  carried_none None = refl
  carried_none (Some g) = w.empty g

  pub carried_mono : (o : Option ℤ) (x y : L) → below ops x y → below ops (carried ops o x) (carried ops o y)
  carried_mono o x y p = sym (carried_over o x y) ∙ ap (carried ops o) p

-- labels keep the laws if they can be told apart by h, which keeps joins, none and carrying, among labels that do
pub lawful_along : {L L' : Type 0} (h : L → L') (ops : Labels L) (ops' : Labels L') → ((x y : L) → h x ≡ h y → x ≡ y) → ((x y : L) → h (ops.join x y) ≡ ops'.join (h x) (h y)) → h ops.none ≡ ops'.none → ((g : ℤ) (x : L) → h (ops.carry g x) ≡ ops'.carry g (h x)) → Lawful ops' → Lawful ops
lawful_along h ops ops' apart joins nothing carry w =
    record {
      assoc = λ x y z. apart _ _ (joins (ops.join x y) z ∙ ap (λ t. ops'.join t (h z)) (joins x y) ∙ w.assoc (h x) (h y) (h z) ∙ ap (ops'.join (h x)) (sym (joins y z)) ∙ sym (joins x (ops.join y z)));
      comm = λ x y. apart _ _ (joins x y ∙ w.comm (h x) (h y) ∙ sym (joins y x));
      idem = λ x. apart _ _ (joins x x ∙ w.idem (h x));
      neutral = λ x. apart _ _ (joins ops.none x ∙ ap (λ t. ops'.join t (h x)) nothing ∙ w.neutral (h x));
      over = λ g x y. apart _ _ (carry g (ops.join x y) ∙ ap (ops'.carry g) (joins x y) ∙ w.over g (h x) (h y) ∙ ap₂ ops'.join (sym (carry g x)) (sym (carry g y)) ∙ sym (joins (ops.carry g x) (ops.carry g y)));
      empty = λ g. apart _ _ (carry g ops.none ∙ ap (ops'.carry g) nothing ∙ w.empty g ∙ sym nothing);
    }

-- ---- one round, node by node
-- h takes labels of one kind to labels of another and keeps joins; each node of one graph brings to v what it brings in the other
pub pulled_agree : {L L' : Type 0} (h : L → L') (ops : Labels L) (ops' : Labels L') (gap gap' : Gaps) (x : ℕ → L) (y : ℕ → L') (v n : ℕ) → ((p q : L) → h (ops.join p q) ≡ ops'.join (h p) (h q)) → h (x v) ≡ y v → ((u : ℕ) → u < n → h (carried ops (gap u v) (x u)) ≡ carried ops' (gap' u v) (y u)) → (m : ℕ) → m ≤ n → h (pulled ops gap x v m) ≡ pulled ops' gap' y v m
pulled_agree h ops ops' gap gap' x y v n joins own brought zero l = own
pulled_agree h ops ops' gap gap' x y v n joins own brought (suc m) l =
    joins _ _ ∙ ap₂ ops'.join (pulled_agree h ops ops' gap gap' x y v n joins own brought m (omega arith)) (brought m (omega arith))

module _ {L : Type 0} (ops : Labels L) (gap : Gaps) where
  pub pulled_same : (x y : ℕ → L) (v n : ℕ) → ((u : ℕ) → u < n → x u ≡ y u) → v < n → pulled ops gap x v n ≡ pulled ops gap y v n
  pulled_same x y v n e h = pulled_agree (λ z. z) ops ops gap gap x y v n (λ _ _. refl) (e v h) (λ u l. ap (carried ops (gap u v)) (e u l)) n (omega arith)

  -- one node more, with the loop's m + 1
  pub pulled_more : (x : ℕ → L) (v m : ℕ) → pulled ops gap x v (m + 1) ≡ ops.join (pulled ops gap x v m) (carried ops (gap m v) (x m))
  pulled_more x v m = rw add-one refl

  -- one node more, which has an arc or has none, where a loop has pulled `sum` so far
  pub pulled_some : (x : ℕ → L) (v m : ℕ) (sum : L) (g : ℤ) → sum ≡ pulled ops gap x v m → Some g ≡ gap m v → ops.join sum (ops.carry g (x m)) ≡ pulled ops gap x v (m + 1)
  pulled_some x v m sum g so_far arc = ap₂ (λ s o. ops.join s (carried ops o (x m))) so_far arc ∙ sym (pulled_more x v m)

  pub pulled_none : Lawful ops → (x : ℕ → L) (v m : ℕ) (sum : L) → sum ≡ pulled ops gap x v m → None ≡ gap m v → sum ≡ pulled ops gap x v (m + 1)
  pulled_none w x v m sum so_far arc = sym (join_none ops w sum) ∙ ap₂ (λ s o. ops.join s (carried ops o (x m))) so_far arc ∙ sym (pulled_more x v m)

  -- where a join is one of the two, so is what is pulled
  pub pulled_one : ((x y : L) → (ops.join x y ≡ x) ⊎ (ops.join x y ≡ y)) → (x : ℕ → L) (v m : ℕ) → (pulled ops gap x v m ≡ x v) ⊎ ((u : ℕ) × (u < m) × (pulled ops gap x v m ≡ carried ops (gap u v) (x u)))
  pulled_one one x v zero = inl refl
  pulled_one one x v (suc m) = go (pulled_one one x v m) (one (pulled ops gap x v m) (carried ops (gap m v) (x m)))
    where
      P : L
      P = pulled ops gap x v m

      Q : L
      Q = carried ops (gap m v) (x m)

      go : (P ≡ x v) ⊎ ((u : ℕ) × (u < m) × (P ≡ carried ops (gap u v) (x u))) → (ops.join P Q ≡ P) ⊎ (ops.join P Q ≡ Q) → (ops.join P Q ≡ x v) ⊎ ((u : ℕ) × (u < suc m) × (ops.join P Q ≡ carried ops (gap u v) (x u)))
      go (inl p) (inl q) = inl (q ∙ p)
      go (inr p) (inl q) = inr (p.0, omega (arith, p.1), q ∙ p.2)
      go p (inr q) = inr (m, omega arith, q)

module _ {L : Type 0} (ops : Labels L) (w : Lawful ops) (gap : Gaps) where
  pub pulled_above_own : (x : ℕ → L) (v m : ℕ) → below ops (x v) (pulled ops gap x v m)
  pulled_above_own x v zero = w.idem (x v)
  pulled_above_own x v (suc m) = below_trans ops w _ _ _ (pulled_above_own x v m) (below_left ops w _ _)

  pub pulled_above : (x : ℕ → L) (v m u : ℕ) → u < m → below ops (carried ops (gap u v) (x u)) (pulled ops gap x v m)
  pulled_above x v zero u h = absurd (omega arith)
  pulled_above x v (suc m) u h =
      elim (ℕ_discrete u m) [
        | yes e ↦ subst (λ (j : ℕ). below ops (carried ops (gap j v) (x j)) (pulled ops gap x v (suc m))) (sym e) (below_right ops w _ _)
        | no e ↦ below_trans ops w _ _ _ (pulled_above x v m u (omega arith)) (below_left ops w _ _)
      ]

  -- through any h that keeps joins
  pub pulled_least : (h : L → L) → ((x y : L) → h (ops.join x y) ≡ ops.join (h x) (h y)) → (x : ℕ → L) (v : ℕ) (y : L) → below ops (h (x v)) y → (m : ℕ) → ((u : ℕ) → u < m → below ops (h (carried ops (gap u v) (x u))) y) → below ops (h (pulled ops gap x v m)) y
  pulled_least h hj x v y own zero k = own
  pulled_least h hj x v y own (suc m) k =
      ap (λ t. ops.join t y) (hj _ _) ∙ join_least ops w _ _ _ (pulled_least h hj x v y own m (λ u l. k u (omega arith))) (k m (omega arith))

-- ---- rounds
-- the first m rounds agree by h where carrying their labels does
pub round_agree : {L L' : Type 0} (h : L → L') (ops : Labels L) (ops' : Labels L') (n : ℕ) (gap gap' : Gaps) (start : ℕ → L) (start' : ℕ → L') → ((p q : L) → h (ops.join p q) ≡ ops'.join (h p) (h q)) → ((v : ℕ) → v < n → h (start v) ≡ start' v) → (m : ℕ) → ((k u v : ℕ) → k < m → u < n → v < n → (z : L) → h z ≡ round ops' n gap' start' k u → h (carried ops (gap u v) z) ≡ carried ops' (gap' u v) (round ops' n gap' start' k u)) → (k v : ℕ) → k ≤ m → v < n → h (round ops n gap start k v) ≡ round ops' n gap' start' k v
round_agree h ops ops' n gap gap' start start' joins same m carry zero v hk hv = same v hv
round_agree h ops ops' n gap gap' start start' joins same m carry (suc k) v hk hv =
    let ih = λ (u : ℕ) (hu : u < n). round_agree h ops ops' n gap gap' start start' joins same m carry k u (omega arith) hu in
    pulled_agree h ops ops' gap gap' _ _ v n joins (ih v hv) (λ u hu. carry k u v (omega arith) hu hv _ (ih u hu)) n (omega arith)

carried_map : {L L' : Type 0} (h : L → L') (ops : Labels L) (ops' : Labels L') → h ops.none ≡ ops'.none → ((g : ℤ) (x : L) → h (ops.carry g x) ≡ ops'.carry g (h x)) → (o : Option ℤ) (x : L) → h (carried ops o x) ≡ carried ops' o (h x)
carried_map h ops ops' nothing carry None x = nothing
carried_map h ops ops' nothing carry (Some g) x = carry g x

-- what keeps joins, none and carrying takes rounds to rounds
pub round_map : {L L' : Type 0} (h : L → L') (ops : Labels L) (ops' : Labels L') → ((p q : L) → h (ops.join p q) ≡ ops'.join (h p) (h q)) → h ops.none ≡ ops'.none → ((g : ℤ) (x : L) → h (ops.carry g x) ≡ ops'.carry g (h x)) → (n : ℕ) (gap : Gaps) (start : ℕ → L) (k v : ℕ) → h (round ops n gap start k v) ≡ round ops' n gap (λ u. h (start u)) k v
round_map h ops ops' joins nothing carry n gap start zero v = refl
round_map h ops ops' joins nothing carry n gap start (suc k) v =
    let ih = round_map h ops ops' joins nothing carry n gap start k in
    pulled_agree h ops ops' gap gap _ _ v n joins (ih v) (λ u l. carried_map h ops ops' nothing carry (gap u v) _ ∙ ap (carried ops' (gap u v)) (ih u)) n (omega arith)

module _ {L : Type 0} (ops : Labels L) (n : ℕ) (gap : Gaps) (start : ℕ → L) where
  -- a round over labels that are those of round k, with the loop's k + 1
  pub round_next : (k : ℕ) (x : ℕ → L) → ((u : ℕ) → u < n → x u ≡ round ops n gap start k u) → (v : ℕ) → v < n → pulled ops gap x v n ≡ round ops n gap start (k + 1) v
  round_next k x e v h = rw add-one (pulled_same ops gap x (round ops n gap start k) v n e h)

  -- where a join is one of the two, some walk brings the label of a round
  pub round_attained : ((x y : L) → (ops.join x y ≡ x) ⊎ (ops.join x y ≡ y)) → (k v : ℕ) → (l : List ℕ) × Below n l × (length l ≤ k) × (along ops gap start v l ≡ round ops n gap start k v)
  round_attained one zero v = ([], tt, omega arith, refl)
  round_attained one (suc k) v =
      elim (pulled_one ops gap one (round ops n gap start k) v n) [
        | inl p ↦ (let r = round_attained one k v in (r.0, r.1, omega (arith, r.2), r.3 ∙ sym p))
        | inr p ↦ (let r = round_attained one k p.0 in (p.0 ∷ r.0, (p.1, r.1), omega (arith, r.2), ap (carried ops (gap p.0 v)) r.3 ∙ sym p.2))
      ]

  quiet_next : (k : ℕ) → Quiet ops n gap start k 1 → (j v : ℕ) → v < n → round ops n gap start (suc (k + j)) v ≡ round ops n gap start (k + j) v
  quiet_next k q zero v h = let e = q v h in rw add-zero (rw add-one at e)
  quiet_next k q (suc j) v h = rw add-suc (pulled_same ops gap _ _ v n (quiet_next k q j) h)

  -- a round that changed nothing is the last that could
  pub quiet_once_stays : (k : ℕ) → Quiet ops n gap start k 1 → (j : ℕ) → Quiet ops n gap start k j
  quiet_once_stays k q zero v h = rw add-zero refl
  quiet_once_stays k q (suc j) v h = rw add-suc (quiet_next k q j v h ∙ quiet_once_stays k q j v h)

module _ {L : Type 0} (ops : Labels L) (w : Lawful ops) (n : ℕ) (gap : Gaps) (start : ℕ → L) where
  -- any list of nodes, since what has no arc carries nothing
  pub list_above : (k v : ℕ) (l : List ℕ) → Below n l → length l ≤ k → below ops (along ops gap start v l) (round ops n gap start k v)
  list_above zero v [] b h = w.idem _
  list_above zero v (u ∷ l) b h = absurd (omega arith)
  list_above (suc k) v [] b h = below_trans ops w _ _ _ (list_above k v [] tt (omega arith)) (pulled_above_own ops w gap (round ops n gap start k) v n)
  list_above (suc k) v (u ∷ l) b h =
      below_trans ops w _ _ _ (carried_mono ops w (gap u v) _ _ (list_above k u l b.1 (omega arith))) (pulled_above ops w gap (round ops n gap start k) v n u b.0)

  pub lists_least : (k v : ℕ) (h : L → L) → ((x y : L) → h (ops.join x y) ≡ ops.join (h x) (h y)) → (y : L) → ((l : List ℕ) → Below n l → length l ≤ k → below ops (h (along ops gap start v l)) y) → below ops (h (round ops n gap start k v)) y
  lists_least zero v h hj y up = up [] tt (omega arith)
  lists_least (suc k) v h hj y up =
      pulled_least ops w gap h hj (round ops n gap start k) v y (lists_least k v h hj y (λ l b s. up l b (omega arith))) n
      (λ u s. lists_least k u (λ x. h (carried ops (gap u v) x)) (λ x z. ap h (carried_over ops w (gap u v) x z) ∙ hj _ _) y (λ l b t. up (u ∷ l) (s, b) (omega arith)))

  arc_or_none : (o : Option ℤ) (x : L) → T (is_some o) ⊎ (carried ops o x ≡ ops.none)
  arc_or_none None x = inr refl
  arc_or_none (Some g) x = inl tt

  -- a list is a walk, or brings nothing
  walk_or_none : (v : ℕ) (l : List ℕ) → Walk (Arc gap) v l ⊎ (along ops gap start v l ≡ ops.none)
  walk_or_none v [] = inl tt
  walk_or_none v (u ∷ l) = go (arc_or_none (gap u v) (along ops gap start u l)) (walk_or_none u l)
    where
      go : T (is_some (gap u v)) ⊎ (carried ops (gap u v) (along ops gap start u l) ≡ ops.none) → Walk (Arc gap) u l ⊎ (along ops gap start u l ≡ ops.none) → Walk (Arc gap) v (u ∷ l) ⊎ (carried ops (gap u v) (along ops gap start u l) ≡ ops.none)
      go (inl a) (inl r) = inl (a, r)
      go (inr e) r = inr e
      go (inl a) (inr e) = inr (ap (carried ops (gap u v)) e ∙ carried_none ops w (gap u v))

  pub walks_least : (k v : ℕ) (y : L) → ((l : List ℕ) → Below n l → Walk (Arc gap) v l → length l ≤ k → below ops (along ops gap start v l) y) → below ops (round ops n gap start k v) y
  walks_least k v y up =
      lists_least k v (λ x. x) (λ _ _. refl) y (λ l b h.
      elim (walk_or_none v l) [ inl r ↦ up l b r h | inr e ↦ subst (λ (t : L). below ops t y) (sym e) (w.neutral y) ])

  -- the labels stay below any y that holds the start labels and is closed under the arcs
  pub rounds_least : (y : ℕ → L) → ((v : ℕ) → v < n → below ops (start v) (y v)) → ((u v : ℕ) → u < n → v < n → below ops (carried ops (gap u v) (y u)) (y v)) → (k v : ℕ) → v < n → below ops (round ops n gap start k v) (y v)
  rounds_least y s c zero v h = s v h
  rounds_least y s c (suc k) v h =
      pulled_least ops w gap (λ x. x) (λ _ _. refl) (round ops n gap start k) v (y v) (rounds_least y s c k v h) n
      (λ u l. below_trans ops w _ _ _ (carried_mono ops w (gap u v) _ _ (rounds_least y s c k u l)) (c u v l h))

  -- and once settled they are closed under the arcs themselves
  pub quiet_closed : (k : ℕ) → Quiet ops n gap start k 1 → (u v : ℕ) → u < n → v < n → below ops (carried ops (gap u v) (round ops n gap start k u)) (round ops n gap start k v)
  quiet_closed k q u v hu hv =
      let e = q v hv in
      subst (below ops (carried ops (gap u v) (round ops n gap start k u))) (rw add-one at e) (pulled_above ops w gap (round ops n gap start k) v n u hu)

pub rounds_join_walks : (L : Type 0) (k m : ℕ) → k ≡ m → RoundsJoinWalks L k m
rounds_join_walks L k m e ops w n gap start v =
    let j : JoinOfWalks ops n gap start k v (round ops n gap start k v) = record { above = λ l b _ h. list_above ops w n gap start k v l b h; least = walks_least ops w n gap start k v } in
    subst (λ (i : ℕ). JoinOfWalks ops n gap start k v (round ops n gap start i v)) e j

pub joins_are_one : (L : Type 0) → JoinsAreOne L
joins_are_one L ops w n gap start k v x y a b = below_antisym ops w x y (a.least y b.above) (b.least x a.above)

pub quiet_stays : (L : Type 0) (m : ℕ) → m ≡ 1 → QuietStays L m
quiet_stays L m e ops n gap start k q = quiet_once_stays ops n gap start k (subst (Quiet ops n gap start k) e q)
