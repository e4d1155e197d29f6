-- The cells of a flow memory: the layer over them, and the balance of their sums. Assumes nothing.
use Rattle.std.proofs.Common.{◌≡◌, ℕ, zero, suc, ◌+◌, ◌-◌, ◌*◌, ◌^◌, ◌≤◌, min, Bool, true, false, cond, not, ◌&&◌, eqb, ◌↔◌, List, get_or, Decides, sym, refl, ◌∙◌, ap₂, arith}
use mathlib.Core.Path.{fun_ext}
use Rattle.std.proofs.lemmas.Bool.{eqb-true, eq-eqb, false≢true}
use Rattle.walks.specs.Sums.{sum}
use Rattle.segments.specs.Shapes.{Shape, Lawful}
use Rattle.segments.specs.Segments.{segment, Named}
use Rattle.drawings.specs.Flows.{incoming, outgoing, near_ends_of, far_ends_of, BalancedAt}
use Rattle.drawings.specs.Graphs.{cells}
use Rattle.drawings.proofs.Greatest.{two_sided, one_sided}
use Rattle.propagation.specs.Layers.{cell}
use Rattle.logs.specs.Lines.{cell_of}
use Rattle.board.specs.Flows.{OffBalance}

-- the cells over the nodes
pub node_cells : (n : ℕ) (list : List ℕ) → cells (cell_of n list) ≡ cell n list
node_cells n list = fun_ext (λ i. fun_ext (λ j. ap₂ (λ (x y : ℕ). get_or list (x * n + y) 0) (less_one i) (less_one j)))
  where
    less_one : (i : ℕ) → suc i - 1 ≡ i
    less_one i = omega arith

-- balance, on two sides
pub balanced_sides : (s : Shape) (dir : ℕ) (list : List ℕ) (a i o near far : ℕ) → i ≡ incoming s (cell_of s.points list) a → o ≡ outgoing s (cell_of s.points list) a → near ≡ near_ends_of s dir a → far ≡ far_ends_of s dir a → (i + near ≡ o + far) ↔ BalancedAt s dir (cell_of s.points list) a
balanced_sides s dir list a i o near far ei eo en ef = (
  λ e. one_sided (incoming s (cell_of s.points list) a) (outgoing s (cell_of s.points list) a) (near_ends_of s dir a) (far_ends_of s dir a) (sym (ap₂ ◌+◌ ei en) ∙ e ∙ ap₂ ◌+◌ eo ef),
  λ b. ap₂ ◌+◌ ei en ∙ two_sided (incoming s (cell_of s.points list) a) (outgoing s (cell_of s.points list) a) (near_ends_of s dir a) (far_ends_of s dir a) b ∙ sym (ap₂ ◌+◌ eo ef),
)

-- a segment has no more ends of wires than there are points
ends_few : (n : ℕ) (t : ℕ → Bool) → sum n (λ i. cond (t i) 1 0) ≤ n
ends_few zero t = omega arith
ends_few (suc n) t = omega (arith, ends_few n t, one (t n))
  where
    one : (b : Bool) → cond b 1 0 ≤ 1
    one true = omega arith
    one false = omega arith

-- sums with room for both sides decide the balance
pub balance_decided : (s : Shape) (dir : ℕ) → Lawful s → (list : List ℕ) (a i o near far : ℕ) → i ≡ incoming s (cell_of s.points list) a → o ≡ outgoing s (cell_of s.points list) a → i ≤ 32640 → o ≤ 32640 → near ≡ near_ends_of s dir a → far ≡ far_ends_of s dir a → (x y : ℕ) → x ≡ min (i + near) (2 ^ 64 - 1) → y ≡ min (o + far) (2 ^ 64 - 1) → Decides (eqb x y) (BalancedAt s dir (cell_of s.points list) a)
balance_decided s dir L list a i o near far ei eo hi ho en ef x y ex ey =
    let sides = balanced_sides s dir list a i o near far ei eo en ef in
    let x_is : x ≡ i + near = exact x i near hi few_near ex in
    let y_is : y ≡ o + far = exact y o far ho few_far ey in
    ((λ t. sides.0 (sym x_is ∙ eqb-true x y t ∙ y_is)), λ b. eq-eqb x y (x_is ∙ sides.1 b ∙ sym y_is))
  where
    few_near : near ≤ 128
    few_near = omega (arith, en, ends_few s.points (λ i. not (eqb (s.next dir (suc i)) 0) && eqb (segment s dir (suc i)) a), L.few)

    few_far : far ≤ 128
    few_far = omega (arith, ef, ends_few s.points (λ i. not (eqb (s.next dir (suc i)) 0) && eqb (segment s dir (s.next dir (suc i))) a), L.few)

    exact : (z p q : ℕ) → p ≤ 32640 → q ≤ 128 → z ≡ min (p + q) (2 ^ 64 - 1) → z ≡ p + q
    exact z p q hp hq h = omega (arith, h)

-- a segment is off balance or not
pub off_balance : (s : Shape) (dir : ℕ) (f : ℕ → ℕ → ℕ) (a : ℕ) (t : Bool) → Named s dir a → Decides t (BalancedAt s dir f a) → OffBalance s dir f a (not t)
off_balance s dir f a true named d = λ _. d.0 refl
off_balance s dir f a false named d = (named, λ b. false≢true (d.1 b))
