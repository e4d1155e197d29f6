-- Rounds decide whether there is a walk. Assumes nothing.
use Rattle.std.proofs.Common.{◌≡◌, ℕ, ◌<◌, ◌≤◌, Bool, true, false, ◌||◌, T, eqb, ◌⊎◌, ◌↔◌, List, [], ◌∷◌, length, ℤ, is_some, Some, None, Option, sym, refl, subst, inl, inr, arith, eqb→eq}
use lib.Dec.{eqb_refl}
use Rattle.walks.specs.Nodes.{Below, Gaps, Arc, Walk, origin, WalksShorten}
use Rattle.walks.specs.Rounds.{Lawful, carried, round, along}
use Rattle.walks.specs.Reach.{reach_labels, RoundsDecideReach}
use Rattle.walks.proofs.Labels.{list_above, round_attained}

or_assoc : (x y z : Bool) → ((x || y) || z) ≡ (x || (y || z))
or_assoc true y z = refl
or_assoc false y z = refl

or_comm : (x y : Bool) → (x || y) ≡ (y || x)
or_comm true true = refl
or_comm true false = refl
or_comm false true = refl
or_comm false false = refl

or_idem : (x : Bool) → (x || x) ≡ x
or_idem true = refl
or_idem false = refl

or_one : (x y : Bool) → ((x || y) ≡ x) ⊎ ((x || y) ≡ y)
or_one true y = inl refl
or_one false y = inr refl

or_up : (x y : Bool) → (x || y) ≡ y → T x → T y
or_up true y e t = subst T e tt
or_up false y e t = absurd t

pub reach_lawful : Lawful reach_labels
reach_lawful = record { assoc = or_assoc; comm = or_comm; idem = or_idem; neutral = λ x. refl; over = λ g x y. refl; empty = λ g. refl }

arc_keeps : (o : Option ℤ) (x : Bool) → T (is_some o) → T x → T (carried reach_labels o x)
arc_keeps None x a t = absurd a
arc_keeps (Some g) x a t = t

arc_kept : (o : Option ℤ) (x : Bool) → T (carried reach_labels o x) → T (is_some o) × T x
arc_kept None x t = absurd t
arc_kept (Some g) x t = (tt, t)

-- from the nodes that `start` marks
module _ (gap : Gaps) (start : ℕ → Bool) where
  walk_brings : (v : ℕ) (l : List ℕ) → Walk (Arc gap) v l → T (start (origin v l)) → T (along reach_labels gap start v l)
  walk_brings v [] w t = t
  walk_brings v (u ∷ l) w t = arc_keeps (gap u v) _ w.0 (walk_brings u l w.1 t)

  brought_by_walk : (v : ℕ) (l : List ℕ) → T (along reach_labels gap start v l) → Walk (Arc gap) v l × T (start (origin v l))
  brought_by_walk v [] t = (tt, t)
  brought_by_walk v (u ∷ l) t =
      let a = arc_kept (gap u v) _ t in
      let r = brought_by_walk u l a.1 in
      ((a.0, r.0), r.1)

  -- a mark comes by a walk
  pub marked_walk : (n k v : ℕ) → T (round reach_labels n gap start k v) → (l : List ℕ) × Below n l × Walk (Arc gap) v l × T (start (origin v l))
  marked_walk n k v t =
      let r = round_attained reach_labels n gap start or_one k v in
      let s = brought_by_walk v r.0 (subst T (sym r.3) t) in
      (r.0, r.1, s.0, s.1)

  -- and each walk marks its end, if it is no longer than the rounds
  pub walk_marks : (n k v : ℕ) (l : List ℕ) → Below n l → Walk (Arc gap) v l → length l ≤ k → T (start (origin v l)) → T (round reach_labels n gap start k v)
  walk_marks n k v l b w h t = or_up _ _ (list_above reach_labels reach_lawful n gap start k v l b h) (walk_brings v l w t)

  -- so enough rounds mark exactly the nodes that a walk leads to
  pub rounds_decide_marks : (n k : ℕ) → WalksShorten n k → (v : ℕ) → v < n → T (round reach_labels n gap start k v) ↔ ((l : List ℕ) × Below n l × Walk (Arc gap) v l × T (start (origin v l)))
  rounds_decide_marks n k shorten v hv = (
    marked_walk n k v,
    λ p. let s = shorten gap v p.0 (hv, p.1) p.2 in walk_marks n k v s.way s.within s.walk s.short (subst (λ (x : ℕ). T (start x)) (sym s.same) p.3),
  )

pub shorten_more : (n j k : ℕ) → WalksShorten n j → j ≤ k → WalksShorten n k
shorten_more n j k shorten h gap v l b w =
    let s = shorten gap v l b w in
    record { way = s.way; within = s.within; walk = s.walk; same = s.same; short = omega (arith, s.short) }

pub rounds_decide_reach : (n j m : ℕ) → WalksShorten n j → j ≤ m → RoundsDecideReach n m
rounds_decide_reach n j m shorten h k hk gap a b hb =
    let d = rounds_decide_marks gap (λ v. eqb v a) n k (shorten_more n j k shorten (omega arith)) b hb in (
      λ t. let r = d.0 t in record { way = r.0; within = r.1; walk = r.2; from = eqb→eq (origin b r.0) a r.3 },
      λ p. d.1 (p.way, p.within, p.walk, subst (λ (x : ℕ). T (eqb (origin b p.way) x)) p.from (eqb_refl (origin b p.way))),
    )
