-- Coordinates bound the sum of a flow. Assumes nothing.
use Rattle.std.proofs.Common.{◌≡◌, ℕ, zero, suc, ◌<◌, T, ℤ, pos, ◌+ℤ◌, ◌-ℤ◌, ◌*ℤ◌, ◌≤ℤ◌, is_some, Some, None, Option, sym, refl, ap, ◌∙◌, arith}
use lib.IntN.{zero-*ℤ, suc_ℤ-*ℤ}
use borrow.Author.Differences.{ints}
use Rattle.walks.specs.Nodes.{Gaps, worth}
use Rattle.walks.specs.Places.{Keeps}
use Rattle.walks.specs.Sums.{inflow, outflow, span}
use Rattle.walks.specs.Flows.{OnArcs, SameBalance, volume, Tight, TightIsGreatest}
use Rattle.walks.proofs.Folds.{sumZ_same, sumZ_le, span_gathered}
use Rattle.walks.proofs.Longest.{arc_le}

pub times_le : (k : ℕ) (c d : ℤ) → (0 < k → c ≤ℤ d) → (pos k *ℤ c) ≤ℤ (pos k *ℤ d)
times_le zero c d h =
    let p = zero-*ℤ c in
    let q = zero-*ℤ d in
    omega (arith, ints)
times_le (suc k) c d h =
    let le = h (omega arith) in
    let ih = times_le k c d (λ _. le) in
    let p : pos (suc k) *ℤ c ≡ pos k *ℤ c +ℤ c = suc_ℤ-*ℤ (pos k) c in
    let q : pos (suc k) *ℤ d ≡ pos k *ℤ d +ℤ d = suc_ℤ-*ℤ (pos k) d in
    omega (arith, ints)

-- a cell above 0 stands on an arc
pub cell_arc : (o : Option ℤ) (k : ℕ) → (o ≡ None → k ≡ 0) → 0 < k → T (is_some o)
cell_arc None k h p = absurd (omega (arith, h refl))
cell_arc (Some g) k h p = tt

-- the balances alone decide the span
pub span_same : (n : ℕ) (f g : ℕ → ℕ → ℕ) (x : ℕ → ℤ) → SameBalance n f g → span n g x ≡ span n f x
span_same n f g x e = span_gathered n g x ∙ sumZ_same n _ _ (λ c h. ap (λ t. t *ℤ x c) (same c h)) ∙ sym (span_gathered n f x)
  where
    same : (c : ℕ) → c < n → pos (inflow n g c) -ℤ pos (outflow n g c) ≡ pos (inflow n f c) -ℤ pos (outflow n f c)
    same c h = let b = e c h in omega (arith, ints)

pub volume_le_span : (n : ℕ) (gap : Gaps) (g : ℕ → ℕ → ℕ) (x : ℕ → ℤ) → OnArcs n gap g → Keeps n gap x → volume n gap g ≤ℤ span n g x
volume_le_span n gap g x on keeps =
    sumZ_le n _ _ (λ a ha. sumZ_le n _ _ (λ b hb. times_le (g a b) (worth gap a b) (x b -ℤ x a) (λ p.
    let s = arc_le n gap x keeps a b ha hb (cell_arc (gap a b) (g a b) (on a b ha hb) p) in omega (arith, ints))))

pub span_le_volume : (n : ℕ) (gap : Gaps) (f : ℕ → ℕ → ℕ) (x : ℕ → ℤ) → Tight n gap f x → span n f x ≤ℤ volume n gap f
span_le_volume n gap f x tight =
    sumZ_le n _ _ (λ a ha. sumZ_le n _ _ (λ b hb. times_le (f a b) (x b -ℤ x a) (worth gap a b) (λ p.
    let s = tight a b ha hb p in omega (arith, ints))))

pub tight_is_greatest : TightIsGreatest
tight_is_greatest n gap f x keeps tight g on same =
    let p = volume_le_span n gap g x on keeps in
    let q = span_same n f g x same in
    let r = span_le_volume n gap f x tight in
    omega (arith, ints)

-- and the span of the cells w is nowhere shorter than where a flow with their balance is tight
pub tight_is_shortest : (n : ℕ) (gap : Gaps) (w f : ℕ → ℕ → ℕ) (x y : ℕ → ℤ) → OnArcs n gap f → SameBalance n w f → Tight n gap f x → Keeps n gap y → span n w x ≤ℤ span n w y
tight_is_shortest n gap w f x y on same tight keeps =
    let p = volume_le_span n gap f y on keeps in
    let q = span_same n w f x same in
    let s = span_same n w f y same in
    let r = span_le_volume n gap f x tight in
    omega (arith, ints)
