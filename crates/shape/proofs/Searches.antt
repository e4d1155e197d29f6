-- Searches through the numbers from 1 to n, by the runs of `1..=n`. Assumes nothing.
use Rattle.std.proofs.Common.{◌≡◌, ℕ, zero, suc, ◌+◌, ◌-◌, ◌<◌, ◌≤◌, Bool, true, false, List, get_or, Some, None, Option, Decides, MatchBool, MatchOption, IsTrue, IsSomeAnd, IfSome, sym, refl, ap, ◌∙◌, subst, arith}
use Rattle.std.proofs.lemmas.Bool.{false≢true}
use Rattle.std.specs.Fn.{Called, CalledAt, Mut}
use Rattle.std.specs.Array.{IsFromFnResultFrom}
use native.Mathlib.Decide.{ℕ_discrete}
use Rattle.std.specs.Option.{option_map}
use Rattle.std.specs.Iterator.Runs.{Run, SomeRun, ItemsCountUp, AnyItemGives, AllItemsGive, IsFirstToGive, NoItemPasses, EndsAtFirstPassing}
use Rattle.std.proofs.iter.runs.Sources.{nat_range_inclusive_steps, inclusive_listed}
use Rattle.std.specs.Range.{range_inclusive_start, range_inclusive_end, range_inclusive_exhausted}
use Rattle.std.specs.declared.ops.RangeInclusive.{RangeInclusive}
use Rattle.segments.specs.Shapes.{Within}
use Rattle.shape.specs.Checks.{FindsFirst}
use denote.Ref.{Bor}

module _ (s : RangeInclusive ℕ) (n : ℕ) (from : range_inclusive_start s ≡ 1) (to : range_inclusive_end s ≡ n) (fresh : range_inclusive_exhausted s ≡ false) (p : Run nat_range_inclusive_steps) (is : p.from ≡ s) where
  pub counts : ItemsCountUp p 1 (n + 1)
  counts =
      let h = inclusive_listed p p.seen in
      let a : h.0 ≡ 1 = h.2 ∙ ap range_inclusive_start is ∙ from in
      let b : h.1 ≡ n + 1 = h.3 ∙ ap (λ (t : RangeInclusive ℕ). range_inclusive_end t + 1) is ∙ ap (λ (k : ℕ). k + 1) to in
      let z : range_inclusive_exhausted p.from ≡ false = ap range_inclusive_exhausted is ∙ fresh in
      subst (λ (i : ℕ). ItemsCountUp p i (n + 1)) a (subst (ItemsCountUp p h.0) b (h.4 z).0)

  -- the item at a place
  pub item : (k : ℕ) → k < p.len → p.at k ≡ Some (k + 1)
  item k h = is_item (p.at k) (counts.3 k h)
    where
      is_item : (o : Option ℕ) → option_map (λ y. y) o ≡ Some (1 + k) → o ≡ Some (k + 1)
      is_item (Some x) e = let same : x ≡ 1 + k = cc e in let here : x ≡ k + 1 = omega arith in ap Some here
      is_item None e = cc e

  at_item : (Q : ℕ → Type 0) (k : ℕ) → k < p.len → IfSome (p.at k) Q → Q (k + 1)
  at_item Q k h q = subst (λ (o : Option ℕ). IfSome o Q) (item k h) q

  some_item : (Q : ℕ → Type 0) (k : ℕ) → k < p.len → IsSomeAnd (p.at k) Q → Q (k + 1)
  some_item Q k h q = subst (λ (o : Option ℕ). IsSomeAnd o Q) (item k h) q

module _ (s : RangeInclusive ℕ) (n : ℕ) (from : range_inclusive_start s ≡ 1) (to : range_inclusive_end s ≡ n) (fresh : range_inclusive_exhausted s ≡ false) where
  -- a number is the item at some place of a run that went on to the end
  whole_place : (p : Run nat_range_inclusive_steps) → p.from ≡ s → p.whole ≡ true → (x : ℕ) → Within n x → (x - 1 < p.len) × (x - 1 + 1 ≡ x)
  whole_place p is w x h = let long = (counts s n from to fresh p is).1 w in (omega (arith, long, h.0, h.1), omega (arith, h.0))

  inside : (p : Run nat_range_inclusive_steps) → p.from ≡ s → (k : ℕ) → k < p.len → Within n (k + 1)
  inside p is k h = let most = (counts s n from to fresh p is).0 in (omega arith, omega (arith, most))

  module _ {F : Type 0} {f : F} where
    -- `any` answers whether some number has P, where the test answers whether one has
    pub any_decides : {g : Mut F (ℕ × Unit {0}) Bool} (P : ℕ → Type 0) (r : Bool) → SomeRun nat_range_inclusive_steps s (λ p. MatchBool r (AnyItemGives p g f true) (IsTrue p.whole × AllItemsGive p g f false)) → ((x : ℕ) (b : Bool) (q : F) → Called g f (x, tt) b q → (q ≡ f) × Decides b (P x)) → Decides r ((x : ℕ) × Within n x × P x)
    any_decides {g = g} P true run tells =
        let p = run.0 in
        let is = run.1 in
        let hit = run.2 (λ a b q c. (tells a.0 b q c).0) in
        let at : Called g f (hit.0 + 1, tt) true f = some_item s n from to fresh p is (λ x. Called g f (x, tt) true f) hit.0 hit.1 hit.2 in
        ((λ _. (hit.0 + 1, inside p is hit.0 hit.1, (tells (hit.0 + 1) true f at).1.0 refl)), λ _. refl)
    any_decides {g = g} P false run tells =
        let p = run.0 in
        let is = run.1 in
        let none = run.2.1 (λ a b q c. (tells a.0 b q c).0) in (
          λ e. absurd (false≢true e),
          λ y. let x = y.0 in
              let place = whole_place p is run.2.0 x y.1 in
              let at = at_item s n from to fresh p is (λ x. Called g f (x, tt) false f) (x - 1) place.0 (none (x - 1)) in
              absurd (false≢true ((tells x false f (subst (λ (z : ℕ). Called g f (z, tt) false f) place.1 at)).1.1 y.2)),
        )

    -- `find_map` answers for the first number that the test gives something for: R has what it gives for each
    pub first_mapped : {Y : Type 0} {g : Mut F (ℕ × Unit {0}) (Option Y)} (R : ℕ → Option Y → Type 0) (r : Option Y) → SomeRun nat_range_inclusive_steps s (λ p. MatchOption r (IsTrue p.whole × AllItemsGive p g f None) (λ y. (i : ℕ) × (i < p.len) × (p.len ≡ i + 1) × IsFirstToGive p g f (Some y) None i)) → ((x : ℕ) (o : Option Y) (q : F) → Called g f (x, tt) o q → (q ≡ f) × R x o) → MatchOption r ((x : ℕ) → Within n x → R x None) (λ y. (x : ℕ) × Within n x × R x (Some y) × ((u : ℕ) → 1 ≤ u → u < x → R u None))
    first_mapped {Y = Y} {g = g} R None run tells = λ x h.
        let p = run.0 in
        let is = run.1 in
        let place = whole_place p is run.2.0 x h in
        let at = at_item s n from to fresh p is (λ x. Called g f (x, tt) None f) (x - 1) place.0 (run.2.1 (λ a b q c. (tells a.0 b q c).0) (x - 1)) in
        (tells x None f (subst (λ (z : ℕ). Called g f (z, tt) None f) place.1 at)).1
    first_mapped {Y = Y} {g = g} R (Some y) run tells =
        let p = run.0 in
        let is = run.1 in
        let i = run.2.0 in
        let first = run.2.3 (λ a b q c. (tells a.0 b q c).0) in
        let at : Called g f (i + 1, tt) (Some y) f = some_item s n from to fresh p is (λ x. Called g f (x, tt) (Some y) f) i run.2.1 first.0 in (
          i + 1,
          inside p is i run.2.1,
          (tells (i + 1) (Some y) f at).1,
          λ u low less.
              let back : u - 1 + 1 ≡ u = omega arith in
              let before = some_item s n from to fresh p is (λ x. Called g f (x, tt) None f) (u - 1) (omega (arith, run.2.1)) (first.1 (u - 1) (omega arith)) in
              (tells u None f (subst (λ (z : ℕ). Called g f (z, tt) None f) back before)).1,
        )

    -- `find` answers the first number that the test passes: R has what it says of each
    pub first_found : {g : Mut F (Bor ℕ × Unit {0}) Bool} (R : ℕ → Bool → Type 0) (r : Option ℕ) → SomeRun nat_range_inclusive_steps s (λ p. MatchOption r (IsTrue p.whole × NoItemPasses p g f) (EndsAtFirstPassing p g f)) → ((x : ℕ) (b : Bool) (q : F) → CalledAt g f x b q → (q ≡ f) × R x b) → MatchOption r ((x : ℕ) → Within n x → R x false) (λ x. Within n x × R x true × ((u : ℕ) → 1 ≤ u → u < x → R u false))
    first_found {g = g} R None run tells = λ x h.
        let p = run.0 in
        let is = run.1 in
        let place = whole_place p is run.2.0 x h in
        let at = at_item s n from to fresh p is (λ x. CalledAt g f x false f) (x - 1) place.0 (run.2.1 (λ a b q c. (tells a.0.now b q (record { shown = a.0; shows = refl; called = c })).0) (x - 1)) in
        (tells x false f (subst (λ (z : ℕ). CalledAt g f z false f) place.1 at)).1
    first_found {g = g} R (Some x) run tells =
        let p = run.0 in
        let is = run.1 in
        let i = run.2.0 in
        let less : i < p.len = omega (arith, run.2.1) in
        let here : x ≡ i + 1 = cc (item s n from to fresh p is i less, run.2.2) in
        let first = run.2.3 (λ a b q c. (tells a.0.now b q (record { shown = a.0; shows = refl; called = c })).0) in (
          subst (Within n) (sym here) (inside p is i less),
          (tells x true f first.0).1,
          λ u low below.
              let back : u - 1 + 1 ≡ u = omega arith in
              let before = some_item s n from to fresh p is (λ x. CalledAt g f x false f) (u - 1) (omega arith) (first.1 (u - 1) (omega arith)) in
              (tells u false f (subst (λ (z : ℕ). CalledAt g f z false f) back before)).1,
        )

-- what `array::from_fn` made: R has each element, where it has what the function gives
pub made_from : {F B : Type 0} {g : Mut F (ℕ × Unit {0}) B} (R : ℕ → B → Type 0) (f : F) (ys : List B) (d : B) → ((x : ℕ) (y : B) (q : F) → Called g f (x, tt) y q → (q ≡ f) × R x y) → (i n : ℕ) → IsFromFnResultFrom g f ys i n → (k : ℕ) → i ≤ k → k < i + n → R k (get_or ys k d)
made_from R f ys d tells i zero made k low less = absurd (omega arith)
made_from {g = g} R f ys d tells i (suc n) made k low less =
    let here = tells i made.1 made.0 made.3 in
    elim (ℕ_discrete i k) [
      | yes e ↦ subst (λ (j : ℕ). R j (get_or ys j d)) e (subst (R i) (sym (made.2.1 d)) here.1)
      | no other ↦ made_from R f ys d tells (i + 1) n (subst (λ q. IsFromFnResultFrom g q ys (i + 1) n) here.0 made.4) k (omega arith) (omega arith)
    ]

-- what `find` answers, in the words of a first point
pub finds : (n : ℕ) (Tests : ℕ → Bool → Type 0) (r : Option ℕ) → MatchOption r ((x : ℕ) → Within n x → Tests x false) (λ x. Within n x × Tests x true × ((u : ℕ) → 1 ≤ u → u < x → Tests u false)) → FindsFirst n Tests r
finds n Tests None h = record { first = λ v e. cc; none = λ e. h }
finds n Tests (Some x) h = record {
  first = λ v e. let same : x ≡ v = cc in subst (λ (y : ℕ). Within n y × Tests y true × ((u : ℕ) → 1 ≤ u → u < y → Tests u false)) same h;
  none = λ e. cc;
}
