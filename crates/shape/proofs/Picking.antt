-- The number with the least key among those of a range that pass a test. Assumes nothing.
use Rattle.std.proofs.Common.{◌≡◌, ℕ, zero, suc, ◌+◌, ◌<◌, ◌≤◌, Bool, true, false, cond, List, [], ◌∷◌, map-id, Some, None, Option, MatchOption, IsSomeAnd, IfSome, ◌⊎◌, inl, inr, slice_get, sym, refl, ap, ◌∙◌, subst, arith}
use Rattle.std.proofs.lemmas.Bool.{cases_eq}
use Rattle.std.proofs.lemmas.Bool.Decides.{nat_tests}
use denote.Ref.{Bor}
use denote.Param.Members.{Mut}
use Rattle.std.specs.declared.iter.Filter.{Filter}
use Rattle.std.specs.declared.ops.RangeInclusive.{RangeInclusive}
use Rattle.std.specs.Fn.{CalledAt, TakesAt}
use Rattle.std.specs.List.{FoldsTo, range_with_len, filter}
use Rattle.std.specs.Ordering.{nat_cmp, is_lt, min_by_ordering}
use Rattle.std.specs.Iterator.{Yields, CallableInMinByKey, KeyTurn}
use Rattle.std.specs.Iterator.Adapters.{filter_steps}
use Rattle.std.specs.Iterator.Runs.{Run, WholeRun, AnyItem, NoKeyBeyond, YieldsRun}
use Rattle.std.proofs.lemmas.Option.{slice_get_within}
use Rattle.std.proofs.lemmas.Iterator.{YieldsList, items_from_drains}
use Rattle.std.proofs.lemmas.Iterator.Consumers.{YieldsList-from_filter}
use Rattle.segments.specs.Shapes.{Within}
use Rattle.shape.proofs.Ranges.{steps, left, left_pos, numbers, inclusive_gives}

-- ---- what a list has
abbrev Has : List ℕ → ℕ → Type 0
Has [] w = ⊥
Has (x ∷ xs) w = (w ≡ x) ⊎ Has xs w

has_at : (xs : List ℕ) (k w : ℕ) → slice_get xs k ≡ Some w → Has xs w
has_at [] k w e = cc
has_at (x ∷ xs) zero w e = inl cc
has_at (x ∷ xs) (suc k) w e = inr (has_at xs k w e)

place_of : (xs : List ℕ) (w : ℕ) → Has xs w → (k : ℕ) × (slice_get xs k ≡ Some w)
place_of [] w h = elim h [ ]
place_of (x ∷ xs) w (inl e) = (0, ap (λ (y : ℕ). Some y) (sym e))
place_of (x ∷ xs) w (inr h) = let p = place_of xs w h in (suc p.0, p.1)

numbers_have : (a n w : ℕ) → a ≤ w → w < a + n → Has (range_with_len a n) w
numbers_have a zero w low high = absurd (omega arith)
numbers_have a (suc n) w low high = elim (cases_eq w a) [ inl e ↦ inl e | inr e ↦ inr (numbers_have (a + 1) n w (omega arith) (omega arith)) ]

have_numbers : (a n w : ℕ) → Has (range_with_len a n) w → (a ≤ w) × (w < a + n)
have_numbers a zero w h = elim h [ ]
have_numbers a (suc n) w (inl e) = (omega arith, omega arith)
have_numbers a (suc n) w (inr h) = let p = have_numbers (a + 1) n w h in (omega (arith, p.0), omega (arith, p.1))

module _ (test : ℕ → Bool) where
  passed_step : (b : Bool) (x : ℕ) (rest : List ℕ) (w : ℕ) → Has rest w → Has (cond b (x ∷ rest) rest) w
  passed_step true x rest w h = inr h
  passed_step false x rest w h = h

  passed_in : (xs : List ℕ) (w : ℕ) → Has xs w → test w ≡ true → Has (filter test xs) w
  passed_in [] w h t = elim h [ ]
  passed_in (x ∷ xs) w (inl e) t = let is : test x ≡ true = cc in subst (λ b. Has (cond b (x ∷ filter test xs) (filter test xs)) w) (sym is) (inl e)
  passed_in (x ∷ xs) w (inr h) t = passed_step (test x) x (filter test xs) w (passed_in xs w h t)

  passed_last : (b : Bool) (x : ℕ) (xs rest : List ℕ) (w : ℕ) → test x ≡ b → (Has rest w → Has xs w × (test w ≡ true)) → Has (cond b (x ∷ rest) rest) w → Has (x ∷ xs) w × (test w ≡ true)
  passed_last true x xs rest w e before (inl s) = (inl s, cc)
  passed_last true x xs rest w e before (inr h) = let p = before h in (inr p.0, p.1)
  passed_last false x xs rest w e before h = let p = before h in (inr p.0, p.1)

  in_passed : (xs : List ℕ) (w : ℕ) → Has (filter test xs) w → Has xs w × (test w ≡ true)
  in_passed [] w h = elim h [ ]
  in_passed (x ∷ xs) w h = passed_last (test x) x xs (filter test xs) w refl (in_passed xs w) h

some_is : (m : ℕ) (o : Option ℕ) → IsSomeAnd o (λ x. x ≡ m) → o ≡ Some m
some_is m None h = absurd h
some_is m (Some x) h = ap (λ (y : ℕ). Some y) h

not_less : (a b : ℕ) → is_lt (nat_cmp b a) ≡ false → a ≤ b
not_less a b h = grind (arith, nat_tests)

-- ---- which number is picked
module _ {F G : Type 0} (test : ℕ → Bool) (key : ℕ → ℕ) {g : Mut F (Bor ℕ × Unit {0}) Bool} {h : Mut G (Bor ℕ × Unit {0}) ℕ} (n : ℕ) (s : Filter (RangeInclusive ℕ) F) (f : F) (j : G) (first : s.iter.start ≡ 1) (last : left s.iter ≡ n) (is : s.p ≡ f)
    (tests : (x : ℕ) (b : Bool) (q : F) → CalledAt g f x b q → (q ≡ f) × (b ≡ test x)) (keys : (x k : ℕ) (q : G) → CalledAt h j x k q → (q ≡ j) × (k ≡ key x)) where
  module _ (p : Run (filter_steps steps g)) (from : p.from ≡ s) (whole : p.whole ≡ true) where
    places : (k : ℕ) → p.at k ≡ slice_get p.items k
    unfolding YieldsRun
    places = p.gave.1

    chosen : p.items ≡ filter test (numbers s.iter)
    unfolding YieldsRun
    chosen =
        let d = p.gave.0 in
        let source : YieldsList steps (λ x. x) s.iter (numbers s.iter) = record { runs = inclusive_gives s.iter } in
        let all = subst (λ (t : Filter (RangeInclusive ℕ) F). YieldsList (filter_steps steps g) (λ x. x) t (filter test (numbers s.iter))) (sym from) (YieldsList-from_filter g test source is tests) in
        sym (map-id p.items) ∙ items_from_drains p.items (d.0, d.1, λ _. d.2 whole) all

    -- an item passes, and each number that passes is an item
    item_passes : (m : ℕ) → Has p.items m → Within n m × (test m ≡ true)
    item_passes m has =
        let q = in_passed test (numbers s.iter) m (subst (λ (xs : List ℕ). Has xs m) chosen has) in
        let b = have_numbers s.iter.start (left s.iter) m q.0 in
        ((omega (arith, b.0), omega (arith, b.1)), q.1)

    passes_item : (w : ℕ) → Within n w → test w ≡ true → Has p.items w
    passes_item w at t = subst (λ (xs : List ℕ). Has xs w) (sym chosen) (passed_in test (numbers s.iter) w (numbers_have s.iter.start (left s.iter) w (omega (arith, at.0)) (omega (arith, at.1))) t)

    item_at : (w : ℕ) → Has p.items w → (k : ℕ) × (p.at k ≡ Some w)
    item_at w has = let q = place_of p.items w has in (q.0, places q.0 ∙ q.1)

  picked : (r : Option ℕ) → WholeRun (filter_steps steps g) s (λ p. MatchOption r (p.len ≡ 0) (λ m. AnyItem p (λ x. x ≡ m) × NoKeyBeyond p h j is_lt nat_cmp m))
      → MatchOption r ((w : ℕ) → Within n w → test w ≡ true → ⊥) (λ m. Within n m × (test m ≡ true) × ((w : ℕ) → Within n w → test w ≡ true → key m ≤ key w))
  picked None run = λ w at t.
      let p = run.0 in
      let q = place_of p.items w (passes_item p run.1 run.2 w at t) in
      omega (arith, slice_get_within p.items q.0 w q.1, p.long, run.3)
  picked (Some m) run =
      let p = run.0 in
      let any = run.3.0 in
      let has = has_at p.items any.0 m (sym (places p run.1 run.2 any.0) ∙ some_is m (p.at any.0) any.2) in
      let passes = item_passes p run.1 run.2 m has in
      let least = run.3.1 (λ a k q c. (keys a.0.now k q (record { shown = a.0; shows = refl; called = c })).0) in (
        passes.0,
        passes.1,
        λ w at t.
            let here = item_at p run.1 run.2 w (passes_item p run.1 run.2 w at t) in
            let other = subst (λ (o : Option ℕ). IfSome o (λ x. (i : ℕ) × CalledAt h j x i j × (is_lt (nat_cmp i least.0) ≡ false))) here.1 (least.2 here.0) in
            let mine = (keys m least.0 j least.1).1 in
            let its = (keys w other.0 j other.1).1 in
            not_less (key m) (key w) (subst (λ (a : ℕ). is_lt (nat_cmp (key w) a) ≡ false) mine (subst (λ (a : ℕ). is_lt (nat_cmp a least.0) ≡ false) its other.2)),
      )

pub least_picked : {F G : Type 0} {g : Mut F (Bor ℕ × Unit {0}) Bool} {h : Mut G (Bor ℕ × Unit {0}) ℕ} {f : F} {j : G} (test : ℕ → Bool) (key : ℕ → ℕ) (n : ℕ) (s : Filter (RangeInclusive ℕ) F) (r : Option ℕ)
    → WholeRun (filter_steps steps g) s (λ p. MatchOption r (p.len ≡ 0) (λ m. AnyItem p (λ x. x ≡ m) × NoKeyBeyond p h j is_lt nat_cmp m))
    → s.p ≡ f → s.iter.start ≡ 1 → left s.iter ≡ n
    → ((x : ℕ) (b : Bool) (q : F) → CalledAt g f x b q → (q ≡ f) × (b ≡ test x)) → ((x k : ℕ) (q : G) → CalledAt h j x k q → (q ≡ j) × (k ≡ key x))
    → MatchOption r ((w : ℕ) → Within n w → test w ≡ true → ⊥) (λ m. Within n m × (test m ≡ true) × ((w : ℕ) → Within n w → test w ≡ true → key m ≤ key w))
least_picked {f = f} {j = j} test key n s r run is first last tests keys = picked test key n s f j first last is tests keys r run

-- ---- what the two closures may be asked
module _ (lo hi : ℕ) where
  -- what comes lies between the two numbers
  abbrev Between : RangeInclusive ℕ → Type 0
  Between s = (0 < left s → lo ≤ s.start) × (s.end ≤ hi)

  one_between : (s t : RangeInclusive ℕ) (x : ℕ) → Between s → steps s (Some x) t → Between t × (lo ≤ x) × (x ≤ hi)
  one_between s t x b p =
      let pos : 0 < left s = omega (arith, p.1.1) in
      let live = left_pos s s.exhausted refl pos in (
        (λ more. let on = left_pos t t.exhausted refl more in omega (arith, p.1.2 on.0, b.0 pos), omega (arith, p.0, b.1)),
        omega (arith, p.1.0, b.0 pos),
        omega (arith, p.1.0, live.1, b.1),
      )

  all_between : (xs : List ℕ) (s t : RangeInclusive ℕ) → Between s → Yields steps s xs t → Between t
  all_between [] s t b y = subst Between y b
  all_between (x ∷ xs) s t b y = all_between xs y.0 t (one_between s y.0 x b y.1).0 y.2

  module _ {F : Type 0} (g : Mut F (Bor ℕ × Unit {0}) Bool) where
    kept_between : (s t : Filter (RangeInclusive ℕ) F) (x : ℕ) → Between s.iter → filter_steps steps g s (Some x) t → Between t.iter × (lo ≤ x) × (x ≤ hi)
    kept_between s t x b p = one_between p.2.0 t.iter x (all_between p.0 s.iter p.2.0 b p.2.1) p.2.2

    each_between : (xs : List ℕ) (s t : Filter (RangeInclusive ℕ) F) → Between s.iter → Yields (filter_steps steps g) s xs t → Between t.iter
    each_between [] s t b y = subst (λ (u : Filter (RangeInclusive ℕ) F). Between u.iter) y b
    each_between (x ∷ xs) s t b y = each_between xs y.0 t (kept_between s y.0 x b y.1).0 y.2

-- calls for a key leave the closure as it was
module _ {G : Type 0} (h : Mut G (Bor ℕ × Unit {0}) ℕ) (stays : (x k : ℕ) (p q : G) → CalledAt h p x k q → q ≡ p) where
  same_key : (xs : List ℕ) (p q : (G × ℕ) × ℕ) → FoldsTo {P = (G × ℕ) × ℕ} (KeyTurn min_by_ordering min_by_ordering h nat_cmp) p xs q → q.0.0 ≡ p.0.0
  same_key [] p q c = sym (ap (λ (r : (G × ℕ) × ℕ). r.0.0) c)
  same_key (x ∷ xs) p q c = same_key xs c.0 q c.2 ∙ stays x c.1.0 p.0.0 c.0.0.0 c.1.2

pub may_pick : {F G : Type 0} {g : Mut F (Bor ℕ × Unit {0}) Bool} {h : Mut G (Bor ℕ × Unit {0}) ℕ} (lo hi : ℕ) (s : Filter (RangeInclusive ℕ) F) (j : G) → lo ≡ s.iter.start → hi ≡ s.iter.end
    → ((x k : ℕ) (p q : G) → CalledAt h p x k q → q ≡ p) → ((x : ℕ) → lo ≤ x → x ≤ hi → TakesAt h j x) → CallableInMinByKey (filter_steps steps g) h nat_cmp s j
may_pick {F} {G} {g} {h} lo hi s j first last stays takes = λ x t one.
    let b = kept_between lo hi g s t x (λ more. omega (arith, first), omega (arith, last)) one in (
      takes x b.1 b.2,
      λ k f' c. record {
        at = λ xs u q y v ys turns next.
            let d = kept_between lo hi g u v y (each_between lo hi g xs t u b.0 ys) next in
            let same : q.0.0 ≡ j = same_key h stays xs ((f', k), x) q turns ∙ stays x k j f' c in
            subst (λ i. TakesAt h i y) (sym same) (takes y d.1 d.2);
      },
    )
