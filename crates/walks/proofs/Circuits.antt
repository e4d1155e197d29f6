-- A walk that passes a node twice has a circuit in it, which can be cut out. Assumes nothing.
use Rattle.std.proofs.Common.{◌≡◌, ℕ, zero, suc, ◌+◌, ◌<◌, ◌≤◌, ◌≢◌, ◌⊎◌, List, [], ◌∷◌, ◌++◌, length, ℤ, ◌+ℤ◌, sym, refl, ap, ◌∙◌, subst, inl, inr, append_assoc, arith, length-append}
use native.Mathlib.Decide.{dec_le}
use borrow.Author.Differences.{ints}
use Rattle.std.proofs.ByRecursion.{All-append}
use Rattle.walks.specs.Nodes.{Below, Apart, Distinct, Gaps, Arc, Walk, origin, total, Split, Shortened, FewDistinct, LongWalksSplit, WalksShorten}
use Rattle.walks.proofs.Pigeonhole.{all_front, all_back, Found, find}

pub distinct_front : (p q : List ℕ) → Distinct (p ++ q) → Distinct p
distinct_front [] q h = tt
distinct_front (x ∷ p) q h = (all_front (λ y. x ≢ y) p q h.0, distinct_front p q h.1)

-- two walks, one after the other
pub origin_append : (v : ℕ) (p q : List ℕ) → origin v (p ++ q) ≡ origin (origin v p) q
origin_append v [] q = refl
origin_append v (u ∷ p) q = origin_append u p q

pub total_append : (g : ℕ → ℕ → ℤ) (v : ℕ) (p q : List ℕ) → total g v (p ++ q) ≡ total g (origin v p) q +ℤ total g v p
total_append g v [] q = omega (arith, ints)
total_append g v (u ∷ p) q = ap (λ t. t +ℤ g u v) (total_append g u p q) ∙ omega (arith, ints)

pub origin_below : (n v : ℕ) (l : List ℕ) → Below n (v ∷ l) → origin v l < n
origin_below n v [] b = b.0
origin_below n v (u ∷ l) b = origin_below n u l b.1

module _ (R : ℕ → ℕ → Type 0) where
  pub walk_front : (v : ℕ) (p q : List ℕ) → Walk R v (p ++ q) → Walk R v p
  walk_front v [] q w = tt
  walk_front v (u ∷ p) q w = (w.0, walk_front u p q w.1)

  pub walk_back : (v : ℕ) (p q : List ℕ) → Walk R v (p ++ q) → Walk R (origin v p) q
  walk_back v [] q w = w
  walk_back v (u ∷ p) q w = walk_back u p q w.1

  pub walk_append : (v : ℕ) (p q : List ℕ) → Walk R v p → Walk R (origin v p) q → Walk R v (p ++ q)
  walk_append v [] q w z = z
  walk_append v (u ∷ p) q w z = (w.0, walk_append u p q w.1 z)

  -- the walk turns back to v at once, or further back
  split_here : (v : ℕ) (l : List ℕ) → Walk R v l → Distinct l → Found v l → Split R v l
  split_here v l w d f =
      let c = f.before ++ (v ∷ []) in
      let e : l ≡ c ++ f.after = f.is ∙ sym (append_assoc f.before (v ∷ []) f.after) in
      let w' : Walk R v (c ++ f.after) = subst (Walk R v) e w in
      let o : origin v c ≡ v = origin_append v f.before (v ∷ []) in
      record {
        node = v;
        before = f.after;
        loop = c;
        after = [];
        is = e;
        into = subst (λ (x : ℕ). Walk R x f.after) o (walk_back v c f.after w');
        circuit = record { walk = walk_front v c f.after w'; closed = o; moves = omega (arith, length-append f.before (v ∷ [])); simple = distinct_front c f.after (subst Distinct e d) };
        onward = tt;
        leaves = refl;
      }

  split_on : (u v : ℕ) (l : List ℕ) → R u v → Split R u l → Split R v (u ∷ l)
  split_on u v l a s =
      record { node = s.node; before = s.before; loop = s.loop; after = u ∷ s.after; is = ap (λ (t : List ℕ). u ∷ t) s.is; into = s.into; circuit = s.circuit; onward = (a, s.onward); leaves = s.leaves }

  pub split_or_distinct : (v : ℕ) (l : List ℕ) → Walk R v l → Distinct (v ∷ l) ⊎ Split R v l
  split_or_distinct v [] w = inl (tt, tt)
  split_or_distinct v (u ∷ l) w = go (split_or_distinct u l w.1) (find v (u ∷ l))
    where
      go : Distinct (u ∷ l) ⊎ Split R u l → Apart v (u ∷ l) ⊎ Found v (u ∷ l) → Distinct (v ∷ (u ∷ l)) ⊎ Split R v (u ∷ l)
      go (inr s) f = inr (split_on u v l w.0 s)
      go (inl d) (inl a) = inl (a, d)
      go (inl d) (inr f) = inr (split_here v (u ∷ l) w d f)

  -- what is left of a walk without the circuit
  module _ (v : ℕ) (l : List ℕ) (s : Split R v l) where
    pub rest_walk : Walk R v (s.after ++ s.before)
    rest_walk = walk_append v s.after s.before s.onward (subst (λ (x : ℕ). Walk R x s.before) (sym s.leaves) s.into)

    pub rest_origin : origin v (s.after ++ s.before) ≡ origin v l
    rest_origin =
        origin_append v s.after s.before ∙ ap (λ x. origin x s.before) (s.leaves ∙ sym s.circuit.closed) ∙ sym (origin_append s.node s.loop s.before)
        ∙ ap (λ x. origin x (s.loop ++ s.before)) (sym s.leaves) ∙ sym (origin_append v s.after (s.loop ++ s.before)) ∙ ap (origin v) (sym s.is)

    pub rest_arcs : length l ≡ length (s.after ++ s.before) + length s.loop
    rest_arcs = ap length s.is ∙ omega (arith, length-append s.after (s.loop ++ s.before), length-append s.loop s.before, length-append s.after s.before)

    pub rest_below : (n : ℕ) → Below n l → Below n (s.after ++ s.before)
    rest_below n b =
        let B : Below n (s.after ++ (s.loop ++ s.before)) = subst (Below n) s.is b in
        All-append (λ x. x < n) s.after s.before (all_front (λ x. x < n) s.after (s.loop ++ s.before) B) (all_back (λ x. x < n) s.loop s.before (all_back (λ x. x < n) s.after (s.loop ++ s.before) B))

    pub loop_below : (n : ℕ) → Below n l → Below n s.loop
    loop_below n b =
        all_front (λ x. x < n) s.loop s.before (all_back (λ x. x < n) s.after (s.loop ++ s.before) (subst (Below n) s.is b))

    pub after_below : (n : ℕ) → Below n l → Below n s.after
    after_below n b = all_front (λ x. x < n) s.after (s.loop ++ s.before) (subst (Below n) s.is b)

    pub rest_total : (g : ℕ → ℕ → ℤ) → total g v l ≡ total g v (s.after ++ s.before) +ℤ total g s.node s.loop
    rest_total g =
        let B = total g s.node s.before in
        let C = total g s.node s.loop in
        let A = total g v s.after in
        let p : total g v l ≡ (B +ℤ C) +ℤ A =
        ap (total g v) s.is ∙ total_append g v s.after (s.loop ++ s.before) ∙ ap (λ x. total g x (s.loop ++ s.before) +ℤ A) s.leaves
        ∙ ap (λ t. t +ℤ A) (total_append g s.node s.loop s.before ∙ ap (λ x. total g x s.before +ℤ C) s.circuit.closed) in
        let q : total g v (s.after ++ s.before) ≡ B +ℤ A = total_append g v s.after s.before ∙ ap (λ x. total g x s.before +ℤ A) s.leaves in
        omega (arith, ints)

-- more nodes than can be distinct
pub long_walks_split : (n m k : ℕ) → FewDistinct n m → m ≤ k → LongWalksSplit n k
long_walks_split n m k few h gap v l b w long = elim (split_or_distinct (Arc gap) v l w) [ inl d ↦ absurd (omega (arith, few (v ∷ l) b d)) | inr s ↦ s ]

-- circuits are cut out as long as the walk is long
shorten_by : (fuel n m k : ℕ) → LongWalksSplit n m → m ≤ suc k → (gap : Gaps) (v : ℕ) (l : List ℕ) → length l ≤ fuel → Below n (v ∷ l) → Walk (Arc gap) v l → Dec (m ≤ length l) → Shortened gap n v l k
shorten_by fuel n m k split h gap v l f b w (no short) = record { way = l; within = b.1; walk = w; same = refl; short = omega arith }
shorten_by zero n m k split h gap v l f b w (yes long) = let s = split gap v l b w long in absurd (omega (arith, rest_arcs (Arc gap) v l s, s.circuit.moves))
shorten_by (suc fuel) n m k split h gap v l f b w (yes long) =
    let R = Arc gap in
    let s = split gap v l b w long in
    let p = s.after ++ s.before in
    let t = shorten_by fuel n m k split h gap v p (omega (arith, rest_arcs R v l s, s.circuit.moves)) (b.0, rest_below R v l s n b.1) (rest_walk R v l s) (dec_le m (length p)) in
    record { way = t.way; within = t.within; walk = t.walk; same = t.same ∙ rest_origin R v l s; short = t.short }

pub walks_shorten : (n m k : ℕ) → LongWalksSplit n m → m ≤ suc k → WalksShorten n k
walks_shorten n m k split h gap v l b w = shorten_by (length l) n m k split h gap v l (omega arith) b w (dec_le m (length l))
