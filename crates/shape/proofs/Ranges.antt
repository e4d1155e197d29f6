-- What `find` and `any` over a range of numbers come to, said of the numbers in it. Assumes nothing.
use Rattle.std.proofs.Common.{◌≡◌, ℕ, suc, ◌+◌, ◌-◌, ◌<◌, ◌≤◌, Bool, true, false, List, [], ◌∷◌, length, get_or, Option, MatchOption, Decides, sym, refl, ap, ◌∙◌, subst, arith}
use denote.Param.Members.{Mut}
use Rattle.std.specs.declared.ops.Range.{Range}
use Rattle.std.specs.declared.ops.RangeInclusive.{RangeInclusive}
use Rattle.std.specs.Bool.{MatchBool}
use Rattle.std.specs.Fn.{Called}
use Rattle.std.specs.List.{FoldsTo, range_with_len, AllWithin, HoldsAt}
use Rattle.std.specs.Iterator.{AlwaysYields, Yields, YieldsThen, CallableAtEachTurn}
use Rattle.std.specs.Range.{range_inclusive_steps, range_inclusive_left, range_inclusive_len}
use Rattle.std.proofs.iter.Yields.{nat_range_steps, listed}
use Rattle.std.proofs.lemmas.Iterator.{YieldsList-from_range, cases_from_any}
use Rattle.std.proofs.lemmas.List.FromFn.{length-range_with_len, get_or-range_with_len}
use Rattle.std.proofs.lemmas.Bool.{false≢true}

abbrev pub gap : ℕ → ℕ → ℕ
gap a b = b - a

abbrev pub follows : ℕ → ℕ → Type 0
follows a b = b ≡ a + 1

abbrev pub steps : RangeInclusive ℕ → Option ℕ → RangeInclusive ℕ → Type 0
steps = range_inclusive_steps gap follows

abbrev pub left : RangeInclusive ℕ → ℕ
left = range_inclusive_left gap

-- the numbers that are left
abbrev pub numbers : RangeInclusive ℕ → List ℕ
numbers s = range_with_len s.start (left s)

ended_empty : (s : RangeInclusive ℕ) → s.exhausted ≡ true → left s ≡ 0
ended_empty s e = ap (range_inclusive_len gap s.start s.end) e

rest_numbers : (s t : RangeInclusive ℕ) → (b : Bool) → t.exhausted ≡ b → (t.exhausted ≡ false → follows s.start t.start) → range_with_len (s.start + 1) (left t) ≡ numbers t
rest_numbers s t false e f = ap (λ (k : ℕ). range_with_len k (left t)) (sym (f e))
rest_numbers s t true e f =
    ap (range_with_len (s.start + 1)) (ended_empty t e) ∙ sym (ap (range_with_len t.start) (ended_empty t e))

pub inclusive_gives : (s : RangeInclusive ℕ) → AlwaysYields steps (λ x. x) s (numbers s)
inclusive_gives = listed steps (λ x. x) numbers
    (λ s t p. ap (λ n. length (range_with_len s.start n)) p.1.0)
    (λ s x t p.
    let e : left s ≡ suc (left t) = omega (arith, p.1.1) in
    ap (range_with_len s.start) e ∙ ap {B = List ℕ} (λ k. s.start ∷ k) (rest_numbers s t t.exhausted refl p.1.2) ∙ ap {B = List ℕ} (λ k. k ∷ numbers t) (sym p.1.0))

-- ---- what calls of `next` have given, and where they have led
pub left_pos : (s : RangeInclusive ℕ) → (b : Bool) → s.exhausted ≡ b → 0 < left s → (s.exhausted ≡ false) × (s.start ≤ s.end)
left_pos s false e h =
    let is : left s ≡ s.end - s.start + 1 - (s.start - s.end) = ap (range_inclusive_len gap s.start s.end) e in
    (e, omega arith)
left_pos s true e h = absurd (let z = ended_empty s e in omega arith)

led : (xs : List ℕ) (s t : RangeInclusive ℕ) → Yields steps s xs t → 0 < left t → (0 < left s) × (s.start ≤ t.start) × (t.end ≡ s.end)
led [] s t y h = (let e = ap left y in omega arith, let e = ap (λ (k : RangeInclusive ℕ). k.start) y in omega arith, sym (ap (λ (k : RangeInclusive ℕ). k.end) y))
led (x ∷ xs) s t y h =
    let m = y.0 in
    let on = led xs m t y.2 h in
    let live = left_pos m m.exhausted refl on.0 in
    let next : m.start ≡ s.start + 1 = y.1.1.2 live.0 in
    (omega (arith, y.1.1.1), omega (arith, on.1), on.2 ∙ y.1.0)

module _ {P : Type 0} {R : P → ℕ → P → Type 0} (stays : (x : ℕ) (p q : P) → R p x q → q ≡ p) where
  unmoved : (xs : List ℕ) (p q : P) → FoldsTo R p xs q → q ≡ p
  unmoved [] p q c = sym c
  unmoved (x ∷ xs) p q c = unmoved xs c.0 q c.2 ∙ stays x p c.0 c.1

  -- a test that calls leave as it was may be called at each number of the range
  pub served : {Q : P → ℕ → Type 0} (s : RangeInclusive ℕ) (p : P) → ((x : ℕ) → s.start ≤ x → x ≤ s.end → Q p x) → CallableAtEachTurn steps R Q s p
  served {Q} s p h = record {
    at = λ xs t q x u y c e.
        let pos : 0 < left t = omega (arith, e.1.1) in
        let there = led xs s t y pos in
        let live = left_pos t t.exhausted refl pos in
        subst (λ k. Q k x) (sym (unmoved xs p q c)) (h x (omega (arith, e.1.0, there.1)) (omega (arith, e.1.0, there.2, live.1)));
  }

-- the numbers from a on, one at each place of their list
at_place : (P : ℕ → Type 0) (a n : ℕ) (m : ℕ) → m ≤ n → AllWithin P (range_with_len a n) 0 m → (k : ℕ) → a ≤ k → k < a + m → P k
at_place P a n m l h k low high =
    subst P {x = get_or (range_with_len a n) (k - a) 0} {y = k} (omega (arith, get_or-range_with_len a n (k - a) 0 (omega arith))) (h (k - a) 0 (omega arith) (omega arith))

-- `any` over the numbers from 1 to below n
pub any_passes : {F : Type 0} {g : Mut F (ℕ × Unit {0}) Bool} (P : ℕ → Type 0) (n : ℕ) (s u : Range ℕ) (f : F) (r : Bool)
    → s.start ≡ 1 → s.end ≡ n
    → (xs : List ℕ) × (o : Option ℕ) × (j : F) × YieldsThen nat_range_steps s xs o u × FoldsTo (λ p x q. Called g p (x, tt) false q) f xs j × MatchOption o (r ≡ false) (λ x. (r ≡ true) × ((h : F) × Called g j (x, tt) true h))
    → ((x : ℕ) (b : Bool) (q : F) → Called g f (x, tt) b q → (q ≡ f) × Decides b (P x))
    → Decides r ((u : ℕ) × (1 ≤ u) × (u < n) × P u)
any_passes {F} {g} P n s u f r first end ran tells =
    by r (cases_from_any {steps = nat_range_steps} {s = s} u f r P (λ x. ¬ P x) ran (YieldsList-from_range s.start s.end (n - 1) refl (omega arith)) (λ x q c. (tells x true q c).1.0 refl) passes)
  where
    all : List ℕ
    all = range_with_len s.start (n - 1)

    long : length all ≡ n - 1
    long = length-range_with_len s.start (n - 1)

    passes : (x : ℕ) (q : F) → Called g f (x, tt) false q → (q ≡ f) × (¬ P x)
    passes x q c = let t = tells x false q c in (t.0, λ p. absurd (false≢true (t.1.1 p)))

    by : (b : Bool) → MatchBool b ((k : ℕ) × (k < length all) × HoldsAt P all k) (AllWithin (λ x. ¬ P x) all 0 (length all)) → Decides b ((u : ℕ) × (1 ≤ u) × (u < n) × P u)
    by true h = (
      λ e. (h.0 + 1, omega arith, omega (arith, long, h.1), subst P {x = get_or all h.0 0} {y = h.0 + 1} (get_or-range_with_len s.start (n - 1) h.0 0 (omega (arith, long, h.1)) ∙ omega arith) (h.2 0)),
      λ t. refl,
    )
    by false h = (
      λ e. absurd (false≢true e),
      λ t. absurd (at_place (λ x. ¬ P x) s.start (n - 1) (length all) (omega (arith, long)) h t.0 (omega (arith, first, t.1)) (omega (arith, first, long, t.2)) t.3),
    )
