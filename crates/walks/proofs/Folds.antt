-- Laws of finite sums. Assumes nothing.
use Rattle.std.proofs.Common.{◌≡◌, ℕ, zero, suc, ◌+◌, ◌*◌, ◌<◌, ◌≤◌, true, false, cond, eqb, ◌≢◌, ℤ, pos, ◌+ℤ◌, ◌-ℤ◌, ◌*ℤ◌, neg_ℤ, ◌≤ℤ◌, sym, refl, ap, ◌∙◌, subst, ap₂, add_assoc, add_comm, zero-add, add-one, arith}
use native.Mathlib.Decide.{ℕ_discrete}
use lib.IntN.{+ℤ_assoc, +ℤ_comm, +ℤ_idl, *ℤ_comm, zero-*ℤ}
use borrow.Author.Differences.{ints, up, down, sum_is_lem, neg_is}
use Rattle.walks.specs.Sums.{CommutativeMonoid, fold, sum, sumZ, inflow, outflow, span, SumsExchange, SpanByNodes}

pub eqb_yes : (a b : ℕ) → a ≡ b → eqb a b ≡ true
eqb_yes a b e = grind arith

pub eqb_no : (a b : ℕ) → a ≢ b → eqb a b ≡ false
eqb_no a b d = grind arith

-- ---- any commutative monoid
pub fold_same : {X : Type 0} (op : X → X → X) (e : X) (n : ℕ) (f g : ℕ → X) → ((i : ℕ) → i < n → f i ≡ g i) → fold op e n f ≡ fold op e n g
fold_same op e zero f g h = refl
fold_same op e (suc m) f g h = ap₂ op (fold_same op e m f g (λ i l. h i (omega arith))) (h m (omega arith))

-- a loop's step, which has i + 1 for suc i
pub fold_more : {X : Type 0} (op : X → X → X) (e : X) (n : ℕ) (f : ℕ → X) → fold op e (n + 1) f ≡ op (fold op e n f) (f n)
fold_more op e n f = rw add-one refl

-- what keeps the operation keeps its sums
pub fold_map : {X Y : Type 0} (op : X → X → X) (e : X) (op' : Y → Y → Y) (e' : Y) (h : X → Y) → h e ≡ e' → ((x y : X) → h (op x y) ≡ op' (h x) (h y)) → (n : ℕ) (f : ℕ → X) → h (fold op e n f) ≡ fold op' e' n (λ i. h (f i))
fold_map op e op' e' h he hop zero f = he
fold_map op e op' e' h he hop (suc m) f = hop _ _ ∙ ap (λ t. op' t (h (f m))) (fold_map op e op' e' h he hop m f)

module _ {X : Type 0} (op : X → X → X) (e : X) (M : CommutativeMonoid op e) where
  middle_swap : (a b c d : X) → op (op a b) (op c d) ≡ op (op a c) (op b d)
  middle_swap a b c d =
      M.assoc a b (op c d) ∙ ap (op a) (sym (M.assoc b c d) ∙ ap (λ t. op t d) (M.comm b c) ∙ M.assoc c b d) ∙ sym (M.assoc a c (op b d))

  pub fold_neutral : (n : ℕ) → fold op e n (λ _. e) ≡ e
  fold_neutral zero = refl
  fold_neutral (suc m) = ap (λ t. op t e) (fold_neutral m) ∙ M.neutral e

  pub fold_both : (n : ℕ) (f g : ℕ → X) → fold op e n (λ i. op (f i) (g i)) ≡ op (fold op e n f) (fold op e n g)
  fold_both zero f g = sym (M.neutral e)
  fold_both (suc m) f g = ap (λ t. op t (op (f m) (g m))) (fold_both m f g) ∙ middle_swap _ _ _ _

  pub fold_exchange : (n m : ℕ) (f : ℕ → ℕ → X) → fold op e n (λ a. fold op e m (λ b. f a b)) ≡ fold op e m (λ b. fold op e n (λ a. f a b))
  fold_exchange zero m f = sym (fold_neutral m)
  fold_exchange (suc n) m f =
      ap (λ t. op t (fold op e m (λ b. f n b))) (fold_exchange n m f) ∙ sym (fold_both m (λ b. fold op e n (λ a. f a b)) (λ b. f n b))

  -- a sum with one term that may differ from e
  fold_off : (n x : ℕ) (k : X) → n ≤ x → fold op e n (λ a. cond (eqb a x) k e) ≡ e
  fold_off zero x k h = refl
  fold_off (suc m) x k h = rw (eqb_no m x (omega arith)) (ap (λ t. op t e) (fold_off m x k (omega arith)) ∙ M.neutral e)

  pub fold_at : (n x : ℕ) (k : X) → x < n → fold op e n (λ a. cond (eqb a x) k e) ≡ k
  fold_at zero x k h = absurd (omega arith)
  fold_at (suc m) x k h =
      elim (ℕ_discrete m x) [
        | yes q ↦ rw (eqb_yes m x q) (ap (λ t. op t k) (fold_off m x k (omega arith)) ∙ M.neutral k)
        | no q ↦ rw (eqb_no m x q) (M.comm _ e ∙ M.neutral _ ∙ fold_at m x k (omega arith))
      ]

pub sums_exchange : (X : Type 0) (n k : ℕ) → n ≡ k → SumsExchange X n k
sums_exchange X n k h op e M m f = fold_exchange op e M n m f ∙ ap (λ (i : ℕ). fold op e m (λ b. fold op e i (λ a. f a b))) h

-- ---- whole numbers
pub +-monoid : CommutativeMonoid ◌+◌ 0
+-monoid = record { assoc = add_assoc; comm = add_comm; neutral = zero-add }

pub sum_same : (n : ℕ) (f g : ℕ → ℕ) → ((i : ℕ) → i < n → f i ≡ g i) → sum n f ≡ sum n g
sum_same n f g h = fold_same ◌+◌ 0 n f g h

pub sum_both : (n : ℕ) (f g : ℕ → ℕ) → sum n (λ i. f i + g i) ≡ sum n f + sum n g
sum_both n f g = fold_both ◌+◌ 0 +-monoid n f g

pub sum_zero : (n : ℕ) → sum n (λ i. 0) ≡ 0
sum_zero n = fold_neutral ◌+◌ 0 +-monoid n

pub sum_times : (n : ℕ) (f : ℕ → ℕ) (c : ℕ) → sum n f * c ≡ sum n (λ i. f i * c)
sum_times n f c = fold_map ◌+◌ 0 ◌+◌ 0 (λ t. t * c) (omega arith) (λ x y. omega arith) n f

pub sum_le : (n : ℕ) (f g : ℕ → ℕ) → ((i : ℕ) → i < n → f i ≤ g i) → sum n f ≤ sum n g
sum_le zero f g h = omega arith
sum_le (suc m) f g h = omega (arith, sum_le m f g (λ i l. h i (omega arith)), h m (omega arith))

-- ---- integers
pub +ℤ-monoid : CommutativeMonoid ◌+ℤ◌ (pos 0)
+ℤ-monoid = record { assoc = +ℤ_assoc; comm = +ℤ_comm; neutral = +ℤ_idl }

pub sumZ_same : (n : ℕ) (f g : ℕ → ℤ) → ((i : ℕ) → i < n → f i ≡ g i) → sumZ n f ≡ sumZ n g
sumZ_same n f g h = fold_same ◌+ℤ◌ (pos 0) n f g h

pub sumZ_both : (n : ℕ) (f g : ℕ → ℤ) → sumZ n (λ i. f i +ℤ g i) ≡ sumZ n f +ℤ sumZ n g
sumZ_both n f g = fold_both ◌+ℤ◌ (pos 0) +ℤ-monoid n f g

pub sumZ_zero : (n : ℕ) → sumZ n (λ i. pos 0) ≡ pos 0
sumZ_zero n = fold_neutral ◌+ℤ◌ (pos 0) +ℤ-monoid n

pub *ℤ-over : (a b c : ℤ) → a *ℤ (b +ℤ c) ≡ a *ℤ b +ℤ a *ℤ c
*ℤ-over a b c =
    let s = sum_is_lem b c in
    let p : up a * (up (b +ℤ c) + down b + down c) ≡ up a * (down (b +ℤ c) + up b + up c) = ap (λ t. up a * t) s in
    let q : down a * (up (b +ℤ c) + down b + down c) ≡ down a * (down (b +ℤ c) + up b + up c) = ap (λ t. down a * t) s in
    omega (arith, ints)

pub over-*ℤ : (a b c : ℤ) → (a +ℤ b) *ℤ c ≡ a *ℤ c +ℤ b *ℤ c
over-*ℤ a b c = *ℤ_comm (a +ℤ b) c ∙ *ℤ-over c a b ∙ ap₂ ◌+ℤ◌ (*ℤ_comm c a) (*ℤ_comm c b)

pub *ℤ-neg : (a b : ℤ) → a *ℤ neg_ℤ b ≡ neg_ℤ (a *ℤ b)
*ℤ-neg a b =
    let n = neg_is b in
    let p : up a * up (neg_ℤ b) ≡ up a * down b = ap (λ t. up a * t) n.0 in
    let q : up a * down (neg_ℤ b) ≡ up a * up b = ap (λ t. up a * t) n.1 in
    let r : down a * up (neg_ℤ b) ≡ down a * down b = ap (λ t. down a * t) n.0 in
    let s : down a * down (neg_ℤ b) ≡ down a * up b = ap (λ t. down a * t) n.1 in
    omega (arith, ints)

pub sumZ_times : (n : ℕ) (f : ℕ → ℤ) (c : ℤ) → sumZ n f *ℤ c ≡ sumZ n (λ i. f i *ℤ c)
sumZ_times n f c = fold_map ◌+ℤ◌ (pos 0) ◌+ℤ◌ (pos 0) (λ t. t *ℤ c) (zero-*ℤ c) (λ x y. over-*ℤ x y c) n f

pub sumZ_le : (n : ℕ) (f g : ℕ → ℤ) → ((i : ℕ) → i < n → f i ≤ℤ g i) → sumZ n f ≤ℤ sumZ n g
sumZ_le zero f g h = omega (arith, ints)
sumZ_le (suc m) f g h =
    let p = sumZ_le m f g (λ i l. h i (omega arith)) in
    let q = h m (omega arith) in
    omega (arith, ints)

pub pos_sum : (n : ℕ) (f : ℕ → ℕ) → pos (sum n f) ≡ sumZ n (λ i. pos (f i))
pos_sum n f = fold_map ◌+◌ 0 ◌+ℤ◌ (pos 0) pos refl (λ x y. refl) n f

-- ---- gathered by nodes
in_less_out : (i o x : ℤ) → i *ℤ x +ℤ o *ℤ neg_ℤ x ≡ (i -ℤ o) *ℤ x
in_less_out i o x = sym (over-*ℤ i (neg_ℤ o) x ∙ ap (λ t. i *ℤ x +ℤ t) (*ℤ_comm (neg_ℤ o) x ∙ *ℤ-neg x o ∙ ap neg_ℤ (*ℤ_comm x o) ∙ sym (*ℤ-neg o x)))

-- over cells that may be any integers
pub differences_by_nodes : (n : ℕ) (f : ℕ → ℕ → ℤ) (x : ℕ → ℤ) → sumZ n (λ a. sumZ n (λ b. f a b *ℤ (x b -ℤ x a))) ≡ sumZ n (λ c. (sumZ n (λ a. f a c) -ℤ sumZ n (λ b. f c b)) *ℤ x c)
differences_by_nodes n f x =
    let I : ℕ → ℤ = λ c. sumZ n (λ a. f a c) in
    let O : ℕ → ℤ = λ c. sumZ n (λ b. f c b) in
    sumZ_same n (λ a. sumZ n (λ b. f a b *ℤ (x b -ℤ x a))) (λ a. sumZ n (λ b. f a b *ℤ x b) +ℤ O a *ℤ neg_ℤ (x a)) (λ a h.
    sumZ_same n (λ b. f a b *ℤ (x b -ℤ x a)) (λ b. f a b *ℤ x b +ℤ f a b *ℤ neg_ℤ (x a)) (λ b k. *ℤ-over (f a b) (x b) (neg_ℤ (x a)))
    ∙ sumZ_both n (λ b. f a b *ℤ x b) (λ b. f a b *ℤ neg_ℤ (x a))
    ∙ ap (λ t. sumZ n (λ b. f a b *ℤ x b) +ℤ t) (sym (sumZ_times n (λ b. f a b) (neg_ℤ (x a)))))
    ∙ sumZ_both n (λ a. sumZ n (λ b. f a b *ℤ x b)) (λ a. O a *ℤ neg_ℤ (x a))
    ∙ ap (λ t. t +ℤ sumZ n (λ a. O a *ℤ neg_ℤ (x a)))
    (fold_exchange ◌+ℤ◌ (pos 0) +ℤ-monoid n n (λ a b. f a b *ℤ x b) ∙ sumZ_same n _ (λ c. I c *ℤ x c) (λ c h. sym (sumZ_times n (λ a. f a c) (x c))))
    ∙ sym (sumZ_both n (λ c. I c *ℤ x c) (λ c. O c *ℤ neg_ℤ (x c)))
    ∙ sumZ_same n _ _ (λ c h. in_less_out (I c) (O c) (x c))

pub span_gathered : (n : ℕ) (f : ℕ → ℕ → ℕ) (x : ℕ → ℤ) → span n f x ≡ sumZ n (λ c. (pos (inflow n f c) -ℤ pos (outflow n f c)) *ℤ x c)
span_gathered n f x =
    differences_by_nodes n (λ a b. pos (f a b)) x
    ∙ sumZ_same n _ _ (λ c h. ap₂ (λ i o. (i -ℤ o) *ℤ x c) (sym (pos_sum n (λ a. f a c))) (sym (pos_sum n (λ b. f c b))))

pub span_by_nodes : (n k : ℕ) → n ≡ k → SpanByNodes n k
span_by_nodes n k e = subst (SpanByNodes n) e (record { gathered = span_gathered n })
