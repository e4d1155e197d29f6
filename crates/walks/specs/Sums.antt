-- Finite sums over the nodes 0 .. n - 1 and over the cells between them. Assumes nothing.
use Rattle.std.specs.Prelude.{◌≡◌, ℕ, zero, suc, ◌+◌, ℤ, pos, ◌+ℤ◌, ◌-ℤ◌, ◌*ℤ◌}

-- a commutative monoid: terms may be regrouped and exchanged, and e adds nothing
pub record CommutativeMonoid {X : Type 0} (op : X → X → X) (e : X) : Type 0 where
  pub assoc : (x y z : X) → op (op x y) z ≡ op x (op y z)
  pub comm : (x y : X) → op x y ≡ op y x
  pub neutral : (x : X) → op e x ≡ x

-- f 0 to f (n - 1), added up
abbrev pub fold : {X : Type 0} → (X → X → X) → X → ℕ → (ℕ → X) → X
fold op e zero f = e
fold op e (suc m) f = op (fold op e m f) (f m)

-- the sum of whole numbers from 0 up
abbrev pub sum : ℕ → (ℕ → ℕ) → ℕ
sum n f = fold ◌+◌ 0 n f

-- the sum of integers
abbrev pub sumZ : ℕ → (ℕ → ℤ) → ℤ
sumZ n f = fold ◌+ℤ◌ (pos 0) n f

-- what comes into the node c by the cells f
abbrev pub inflow : ℕ → (ℕ → ℕ → ℕ) → ℕ → ℕ
inflow n f c = sum n (λ a. f a c)

-- what goes out of the node c
abbrev pub outflow : ℕ → (ℕ → ℕ → ℕ) → ℕ → ℕ
outflow n f c = sum n (λ b. f c b)

-- the sum over all arcs of cell times difference, where the nodes have the coordinates x
abbrev pub span : ℕ → (ℕ → ℕ → ℕ) → (ℕ → ℤ) → ℤ
span n f x = sumZ n (λ a. sumZ n (λ b. pos (f a b) *ℤ (x b -ℤ x a)))

-- a double sum, the outer one of n terms, is the same the other way round, the inner one of k terms
abbrev pub SumsExchange : Type 0 → ℕ → ℕ → Type 0
SumsExchange X n k =
    (op : X → X → X) (e : X) → CommutativeMonoid op e → (m : ℕ) (f : ℕ → ℕ → X) → fold op e n (λ a. fold op e m (λ b. f a b)) ≡ fold op e m (λ b. fold op e k (λ a. f a b))

-- the sum over n nodes' arcs of cell times difference is the sum over k nodes of coordinate times what comes in less what goes out
pub record SpanByNodes (n k : ℕ) : Type 0 where
  pub gathered : (f : ℕ → ℕ → ℕ) (x : ℕ → ℤ) → span n f x ≡ sumZ k (λ c. (pos (inflow n f c) -ℤ pos (outflow n f c)) *ℤ x c)
