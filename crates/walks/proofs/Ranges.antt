-- Search over the numbers below n. Assumes nothing.
use Rattle.std.proofs.Common.{ℕ, zero, suc, ◌<◌, ◌⊎◌, sym, subst, inl, inr, arith}
use native.Mathlib.Decide.{ℕ_discrete}

module _ (P Q : ℕ → Type 0) where
  all_more : (m : ℕ) → ((i : ℕ) → i < m → P i) → P m → (i : ℕ) → i < suc m → P i
  all_more m f p i h = elim (ℕ_discrete i m) [ yes e ↦ subst P (sym e) p | no d ↦ f i (omega arith) ]

  -- all are P, or one is Q
  pub all_or_one : (n : ℕ) → ((i : ℕ) → i < n → P i ⊎ Q i) → ((i : ℕ) → i < n → P i) ⊎ ((i : ℕ) × (i < n) × Q i)
  all_or_one zero t = inl (λ i h. absurd (omega arith))
  all_or_one (suc m) t = go (all_or_one m (λ i h. t i (omega arith))) (t m (omega arith))
    where
      go : ((i : ℕ) → i < m → P i) ⊎ ((i : ℕ) × (i < m) × Q i) → P m ⊎ Q m → ((i : ℕ) → i < suc m → P i) ⊎ ((i : ℕ) × (i < suc m) × Q i)
      go (inl f) (inl p) = inl (all_more m f p)
      go (inl f) (inr q) = inr (m, omega arith, q)
      go (inr r) s = inr (r.0, omega (arith, r.1), r.2)
