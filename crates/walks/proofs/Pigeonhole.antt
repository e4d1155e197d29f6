-- Distinct nodes below n are at most n. Assumes nothing.
use Rattle.std.proofs.Common.{◌≡◌, ℕ, zero, suc, ◌<◌, ◌≤◌, ◌≢◌, ◌⊎◌, List, [], ◌∷◌, ◌++◌, length, sym, refl, ap, subst, inl, inr, arith, length-append}
use native.Mathlib.Decide.{ℕ_discrete}
use Rattle.std.specs.List.{AllByRecursion}
use Rattle.std.proofs.ByRecursion.{All-append, All-weaker}
use Rattle.walks.specs.Nodes.{Below, Apart, Distinct}

pub all_front : (P : ℕ → Type 0) (p q : List ℕ) → AllByRecursion P (p ++ q) → AllByRecursion P p
all_front P [] q h = tt
all_front P (x ∷ p) q h = (h.0, all_front P p q h.1)

pub all_back : (P : ℕ → Type 0) (p q : List ℕ) → AllByRecursion P (p ++ q) → AllByRecursion P q
all_back P [] q h = h
all_back P (x ∷ p) q h = all_back P p q h.1

pub distinct_back : (p q : List ℕ) → Distinct (p ++ q) → Distinct q
distinct_back [] q h = h
distinct_back (x ∷ p) q h = distinct_back p q h.1

-- one node taken out
pub distinct_out : (p : List ℕ) (x : ℕ) (q : List ℕ) → Distinct (p ++ (x ∷ q)) → Distinct (p ++ q)
distinct_out [] x q h = h.1
distinct_out (y ∷ p) x q h =
    (All-append (λ z. y ≢ z) p q (all_front (λ z. y ≢ z) p (x ∷ q) h.0) (all_back (λ z. y ≢ z) p (x ∷ q) h.0).1, distinct_out p x q h.1)

-- x stands in l, and not before that place
pub record Found (x : ℕ) (l : List ℕ) : Type 0 where
  pub before : List ℕ
  pub after : List ℕ
  pub is : l ≡ before ++ (x ∷ after)
  pub first : Apart x before

pub find : (x : ℕ) (l : List ℕ) → Apart x l ⊎ Found x l
find x [] = inl tt
find x (y ∷ l) = go (ℕ_discrete x y) (find x l)
  where
    go : Dec (x ≡ y) → Apart x l ⊎ Found x l → Apart x (y ∷ l) ⊎ Found x (y ∷ l)
    go (yes e) f = inr (record { before = []; after = l; is = ap (λ z. z ∷ l) (sym e); first = tt })
    go (no d) (inl a) = inl (d, a)
    go (no d) (inr f) = inr (record { before = y ∷ f.before; after = f.after; is = ap (λ (t : List ℕ). y ∷ t) f.is; first = (d, f.first) })

below_less : (n : ℕ) (l : List ℕ) → Below (suc n) l → Apart n l → Below n l
below_less n [] b a = tt
below_less n (x ∷ l) b a = (omega (arith, a.0, b.0), below_less n l b.1 a.1)

few_step : (n : ℕ) (l : List ℕ) → Below (suc n) l → Distinct l → ((k : List ℕ) → Below n k → Distinct k → length k ≤ n) → Apart n l ⊎ Found n l → length l ≤ suc n
few_step n l b d ih (inl a) = omega (arith, ih l (below_less n l b a) d)
few_step n l b d ih (inr f) =
    let p = f.before in
    let q = f.after in
    let d' : Distinct (p ++ (n ∷ q)) = subst Distinct f.is d in
    let b' : Below (suc n) (p ++ (n ∷ q)) = subst (Below (suc n)) f.is b in
    let a : Apart n (p ++ q) = All-append (λ y. n ≢ y) p q f.first (distinct_back p (n ∷ q) d').0 in
    let c : Below (suc n) (p ++ q) = All-append (λ y. y < suc n) p q (all_front (λ y. y < suc n) p (n ∷ q) b') (all_back (λ y. y < suc n) p (n ∷ q) b').1 in
    let e : length l ≡ length (p ++ (n ∷ q)) = ap length f.is in
    omega (arith, ih (p ++ q) (below_less n (p ++ q) c a) (distinct_out p n q d'), length-append p q, length-append p (n ∷ q))

-- the pigeonhole
pub distinct_few : (n : ℕ) (l : List ℕ) → Below n l → Distinct l → length l ≤ n
distinct_few zero [] b d = omega arith
distinct_few zero (x ∷ l) b d = absurd (omega (arith, b.0))
distinct_few (suc n) l b d = few_step n l b d (distinct_few n) (find n l)

-- the nodes below n, the highest first
abbrev pub all_nodes : ℕ → List ℕ
all_nodes zero = []
all_nodes (suc n) = n ∷ all_nodes n

pub all_nodes_below : (n : ℕ) → Below n (all_nodes n)
all_nodes_below zero = tt
all_nodes_below (suc n) = (omega arith, All-weaker (λ x. x < n) (λ x. x < suc n) (λ x h. omega arith) (all_nodes n) (all_nodes_below n))

pub all_nodes_distinct : (n : ℕ) → Distinct (all_nodes n)
all_nodes_distinct zero = tt
all_nodes_distinct (suc n) = (All-weaker (λ x. x < n) (λ x. n ≢ x) (λ x h e. omega arith) (all_nodes n) (all_nodes_below n), all_nodes_distinct n)

pub all_nodes_length : (n : ℕ) → length (all_nodes n) ≡ n
all_nodes_length zero = refl
all_nodes_length (suc n) = ap suc (all_nodes_length n)
