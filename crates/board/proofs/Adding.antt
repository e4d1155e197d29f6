-- Sums over the numbers from 1 to n, by the runs of a chain over `1..=n`. Assumes nothing.
use Rattle.std.proofs.Common.{◌≡◌, ℕ, zero, suc, ◌+◌, ◌-◌, ◌*◌, ◌≤◌, true, false, List, [], ◌∷◌, map, length, get_or, Some, sym, refl, ap, ◌∙◌, add-one, zero-add, arith}
use Rattle.std.specs.Bool.{⊤}
use Rattle.std.specs.List.{fold, sum_by, range_with_len}
use Rattle.std.specs.Option.{option_map}
use Rattle.std.specs.Fn.{Called, Mut}
use Rattle.std.specs.Range.{range_inclusive_start, range_inclusive_end, range_inclusive_exhausted}
use Rattle.std.specs.declared.ops.RangeInclusive.{RangeInclusive}
use Rattle.std.specs.declared.iter.Map.{Map}
use Rattle.std.specs.Iterator.Adapters.{map_steps}
use Rattle.std.specs.Iterator.Runs.{Run, SomeRun, WholeRun, EachRunFrom, IsMapRun}
use Rattle.std.proofs.iter.runs.Sources.{nat_range_inclusive_steps}
use Rattle.std.proofs.lemmas.List.Sums.{sum_by_from, sum_by-cons}
use Rattle.std.proofs.lemmas.List.FromFn.{fill_by_all, sum_by-map-range_with_len_more}
use Rattle.walks.specs.Sums.{sum}
use Rattle.shape.proofs.Searches.{counts, item}

-- the numbers from 1 to n, in a list
listed : (h : ℕ → ℕ) (n : ℕ) → sum_by h (map (λ k. k + 1) (range_with_len 0 n)) ≡ sum n (λ i. h (suc i))
listed h zero = refl
listed h (suc n) =
    ap (λ (k : ℕ). sum_by h (map (λ k. k + 1) (range_with_len 0 k))) (sym (add-one n))
    ∙ sum_by-map-range_with_len_more h (λ k. k + 1) 0 n n (zero-add n)
    ∙ ap (λ (t : ℕ). t + h (n + 1)) (listed h n)
    ∙ ap (λ (k : ℕ). sum n (λ i. h (suc i)) + h k) (add-one n)

-- a sum is at most what its terms have above m, and m for each
at_most : (m : ℕ) (xs : List ℕ) → sum_by (λ x. x) xs ≤ sum_by (λ x. x - m) xs + m * length xs
at_most m [] = omega arith
at_most m (x ∷ xs) =
    let more : m * suc (length xs) ≡ m + m * length xs = omega arith in
    omega (arith, sum_by-cons (λ y. y) x xs, sum_by-cons (λ y. y - m) x xs, at_most m xs)

unmoved : (xs : List ℕ) → fold (λ (a : ℕ) (x : ℕ). a) 0 xs ≡ 0
unmoved [] = refl
unmoved (x ∷ xs) = unmoved xs

module _ (s : RangeInclusive ℕ) (n : ℕ) (from : range_inclusive_start s ≡ 1) (to : range_inclusive_end s ≡ n) (fresh : range_inclusive_exhausted s ≡ false) where
  whole_is : (q : Run nat_range_inclusive_steps) → q.from ≡ s → q.whole ≡ true → q.items ≡ map (λ k. k + 1) (range_with_len 0 n)
  whole_is q is w =
      let up = counts s n from to fresh q is in
      let all : q.len ≡ n = omega (arith, up.1 w) in
      fill_by_all (λ k. k + 1) q.items n 0 (omega (arith, q.long)) (λ k h. let e : Some (k + 1) ≡ Some (get_or q.items k 0) = ap (option_map (λ y. y)) (sym (item s n from to fresh q is k (omega arith))) ∙ q.reads k 0 (omega arith) in cc)

  module _ {F : Type 0} {g : Mut F (ℕ × Unit {0}) ℕ} {f : F} (t : Map (RangeInclusive ℕ) F) (maps : EachRunFrom (map_steps nat_range_inclusive_steps g) t (λ p. SomeRun nat_range_inclusive_steps s (λ q. IsMapRun p q g f))) where
    -- what the closure gives, added up
    pub added : (h : ℕ → ℕ) (r : ℕ) → (⊤ → WholeRun (map_steps nat_range_inclusive_steps g) t (λ p. r ≡ fold (λ a x. a + x) 0 p.items)) → ((x y : ℕ) (q : F) → Called g f (x, tt) y q → (q ≡ f) × (y ≡ h x)) → r ≡ sum n (λ i. h (suc i))
    added h r run acts =
        let w = run tt in
        let p = w.0 in
        let behind = maps p p.seen w.1 in
        let q = behind.0 in
        w.3
        ∙ behind.2.4 (λ a y. a + y) (λ a x. a + h x) 0 (λ x y q a c. ((acts x y q c).0, ap (λ (z : ℕ). a + z) (acts x y q c).1))
        ∙ sum_by_from h 0 q.items
        ∙ zero-add (sum_by h q.items)
        ∙ ap (sum_by h) (whole_is q behind.1 (behind.2.0 ∙ w.2))
        ∙ listed h n

    -- it stays small, where each term is at most m: no term has anything above m
    pub stays_small : (m : ℕ) → ((x y : ℕ) (q : F) → Called g f (x, tt) y q → (q ≡ f) × (y ≤ m)) → (p : Run (map_steps nat_range_inclusive_steps g)) → p.from ≡ t → (k : ℕ) × (k ≤ n) × (fold (λ a x. a + x) 0 p.items ≤ m * k)
    stays_small m acts p is =
        let behind = maps p p.seen is in
        let q = behind.0 in
        let none : fold (λ a y. a + (y - m)) 0 p.items ≡ fold (λ a x. a) 0 q.items = behind.2.4 (λ a y. a + (y - m)) (λ a x. a) 0 (λ x y q a c. ((acts x y q c).0, omega (arith, (acts x y q c).1))) in (
          length p.items,
          omega (arith, p.long, behind.2.1, (counts s n from to fresh q behind.1).0),
          omega (arith, none, unmoved q.items, sum_by_from (λ x. x) 0 p.items, sum_by_from (λ x. x - m) 0 p.items, at_most m p.items),
        )

    pub added_small : (m r : ℕ) → (⊤ → WholeRun (map_steps nat_range_inclusive_steps g) t (λ p. r ≡ fold (λ a x. a + x) 0 p.items)) → ((x y : ℕ) (q : F) → Called g f (x, tt) y q → (q ≡ f) × (y ≤ m)) → (k : ℕ) × (k ≤ n) × (r ≤ m * k)
    added_small m r run acts =
        let w = run tt in
        let k = stays_small m acts w.0 w.1 in
        (k.0, k.1, omega (arith, w.3, k.2))
