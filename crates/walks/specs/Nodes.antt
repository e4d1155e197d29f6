-- Lists of nodes, which are the numbers below n, and walks and circuits along arcs with gaps. Assumes nothing.
use Rattle.std.specs.Prelude.{◌≡◌, ℕ, ◌<◌, ◌≤◌, T, ◌≢◌, List, [], ◌∷◌, ◌++◌, length, ℤ, pos, ◌+ℤ◌, is_some, Option}
use Rattle.std.specs.List.{AllByRecursion}
use Rattle.std.specs.Option.{unwrap_or}

-- every member of l is a node
abbrev pub Below : ℕ → List ℕ → Type 0
Below n l = AllByRecursion (λ x. x < n) l

-- x is no member of l
abbrev pub Apart : ℕ → List ℕ → Type 0
Apart x l = AllByRecursion (λ y. x ≢ y) l

-- no node stands twice in l
abbrev pub Distinct : List ℕ → Type 0
Distinct [] = Unit {0}
Distinct (x ∷ l) = Apart x l × Distinct l

-- of n nodes at most k stand in a list with none twice
abbrev pub FewDistinct : ℕ → ℕ → Type 0
FewDistinct n k = (l : List ℕ) → Below n l → Distinct l → length l ≤ k

-- the arcs of a graph: `gap u v` is the gap of the arc from u to v, where there is one
abbrev pub Gaps : Type 0
Gaps = ℕ → ℕ → Option ℤ

-- there is an arc from u to v
abbrev pub Arc : Gaps → ℕ → ℕ → Type 0
Arc gap u v = T (is_some (gap u v))

-- the gap of the arc from u to v, and 0 where there is none
abbrev pub worth : Gaps → ℕ → ℕ → ℤ
worth gap u v = unwrap_or (gap u v) (pos 0)

-- a walk into v: l has the nodes before v, the latest first, so that the walk has as many arcs as l has nodes
abbrev pub Walk : (ℕ → ℕ → Type 0) → ℕ → List ℕ → Type 0
Walk R v [] = Unit {0}
Walk R v (u ∷ l) = R u v × Walk R u l

-- the node where that walk begins
abbrev pub origin : ℕ → List ℕ → ℕ
origin v [] = v
origin v (u ∷ l) = origin u l

-- the sum of g over the arcs of that walk
abbrev pub total : (ℕ → ℕ → ℤ) → ℕ → List ℕ → ℤ
total g v [] = pos 0
total g v (u ∷ l) = total g u l +ℤ g u v

-- a circuit without repeated nodes: a walk of one arc or more from x back to x; l has each of its nodes once, x the last
pub record Circuit (R : ℕ → ℕ → Type 0) (x : ℕ) (l : List ℕ) : Type 0 where
  pub walk : Walk R x l
  pub closed : origin x l ≡ x
  pub moves : 0 < length l
  pub simple : Distinct l

-- the walk l into v, taken apart: a walk into a node, a circuit from that node, and a walk from it on to v
pub record Split (R : ℕ → ℕ → Type 0) (v : ℕ) (l : List ℕ) : Type 0 where
  pub node : ℕ
  pub before : List ℕ
  pub loop : List ℕ
  pub after : List ℕ
  pub is : l ≡ after ++ (loop ++ before)
  pub into : Walk R node before
  pub circuit : Circuit R node loop
  pub onward : Walk R v after
  pub leaves : origin v after ≡ node

-- a walk with the same ends as the walk l into v, and at most k arcs
pub record Shortened (gap : Gaps) (n v : ℕ) (l : List ℕ) (k : ℕ) : Type 0 where
  pub way : List ℕ
  pub within : Below n way
  pub walk : Walk (Arc gap) v way
  pub same : origin v way ≡ origin v l
  pub short : length way ≤ k

-- over n nodes, a walk of k arcs or more passes a node twice, and so has a circuit in it
abbrev pub LongWalksSplit : ℕ → ℕ → Type 0
LongWalksSplit n k =
    (gap : Gaps) (v : ℕ) (l : List ℕ) → Below n (v ∷ l) → Walk (Arc gap) v l → k ≤ length l → Split (Arc gap) v l

-- over n nodes, each walk shortens to at most k arcs
abbrev pub WalksShorten : ℕ → ℕ → Type 0
WalksShorten n k = (gap : Gaps) (v : ℕ) (l : List ℕ) → Below n (v ∷ l) → Walk (Arc gap) v l → Shortened gap n v l k
