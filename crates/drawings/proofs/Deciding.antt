-- Tests joined, and search over the points of a shape. Assumes nothing.
use Rattle.std.proofs.Common.{◌≡◌, ℕ, suc, ◌-◌, ◌<◌, ◌⊎◌, subst, inl, inr, arith}
use native.Mathlib.Decide.{ℕ_discrete, dec_le}
use Rattle.walks.proofs.Ranges.{all_or_one}
use Rattle.segments.specs.Shapes.{Shape, Point}
use Rattle.segments.specs.Segments.{row, column}
use Rattle.drawings.specs.Arcs.{Touch}

pub dec_and : {A B : Type 0} → Dec A → Dec B → Dec (A × B)
dec_and (yes a) (yes b) = yes (a, b)
dec_and (yes a) (no n) = no (λ p. n p.1)
dec_and (no n) d = no (λ p. n p.0)

pub dec_or : {A B : Type 0} → Dec A → Dec B → Dec (A ⊎ B)
dec_or (yes a) d = yes (inl a)
dec_or (no n) (yes b) = yes (inr b)
dec_or (no n) (no m) = no (λ p. elim p [ inl a ↦ n a | inr b ↦ m b ])

pub dec_by : {A B : Type 0} → (A → B) → (B → A) → Dec A → Dec B
dec_by f g (yes a) = yes (f a)
dec_by f g (no n) = no (λ b. n (g b))

pub point? : (s : Shape) (v : ℕ) → Dec (Point s v)
point? s v = dec_and (dec_le 1 v) (dec_le v s.points)

-- some point has P, or none has
pub some_point : (s : Shape) (P : ℕ → Type 0) → ((v : ℕ) → Point s v → Dec (P v)) → Dec ((v : ℕ) × Point s v × P v)
some_point s P t = go (all_or_one (λ i. ¬ P (suc i)) (λ i. P (suc i)) s.points (λ i h. either (t (suc i) (omega arith, omega arith))))
  where
    either : {A : Type 0} → Dec A → (¬ A) ⊎ A
    either (yes a) = inr a
    either (no n) = inl n

    go : ((i : ℕ) → i < s.points → ¬ P (suc i)) ⊎ ((i : ℕ) × (i < s.points) × P (suc i)) → Dec ((v : ℕ) × Point s v × P v)
    go (inl f) =
        no (λ r.
        let p = r.1 in
        let e : r.0 ≡ suc (r.0 - 1) = omega (arith, p.0) in
        f (r.0 - 1) (omega (arith, p.0, p.1)) (subst P e r.2))
    go (inr r) = yes (suc r.0, (omega arith, omega (arith, r.1)), r.2)

pub touch? : (s : Shape) (r c : ℕ) → Dec (Touch s r c)
touch? s r c =
    dec_by (λ t. (t.0, t.1, t.2.0, t.2.1)) (λ t. (t.0, t.1, (t.2, t.3)))
    (some_point s (λ v. (row s v ≡ r) × (column s v ≡ c)) (λ v p. dec_and (ℕ_discrete (row s v) r) (ℕ_discrete (column s v) c)))
