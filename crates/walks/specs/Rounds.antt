-- Labels that are carried along arcs and joined, in rounds. Assumes nothing.
use Rattle.std.specs.Prelude.{◌≡◌, ℕ, zero, suc, ◌+◌, ◌<◌, ◌≤◌, List, [], ◌∷◌, length, ℤ, Some, None, Option}
use Rattle.walks.specs.Nodes.{Below, Gaps, Arc, Walk}

-- what can be done with labels: join two, have none, and carry one over a gap
pub record Labels (L : Type 0) : Type 0 where
  pub join : L → L → L
  pub none : L
  pub carry : ℤ → L → L

-- the laws that labels keep
pub record Lawful {L : Type 0} (ops : Labels L) : Type 0 where
  pub assoc : (x y z : L) → ops.join (ops.join x y) z ≡ ops.join x (ops.join y z)
  pub comm : (x y : L) → ops.join x y ≡ ops.join y x
  pub idem : (x : L) → ops.join x x ≡ x
  pub neutral : (x : L) → ops.join ops.none x ≡ x
  pub over : (g : ℤ) (x y : L) → ops.carry g (ops.join x y) ≡ ops.join (ops.carry g x) (ops.carry g y)
  pub empty : (g : ℤ) → ops.carry g ops.none ≡ ops.none

-- the order of the join
abbrev pub below : {L : Type 0} → Labels L → L → L → Type 0
below ops x y = ops.join x y ≡ y

-- a label carried along an arc, if there is one
abbrev pub carried : {L : Type 0} → Labels L → Option ℤ → L → L
carried ops None x = ops.none
carried ops (Some g) x = ops.carry g x

-- the label at v joined with what the first m nodes send to v, where the nodes have the labels x
abbrev pub pulled : {L : Type 0} → Labels L → Gaps → (ℕ → L) → ℕ → ℕ → L
pulled ops gap x v zero = x v
pulled ops gap x v (suc m) = ops.join (pulled ops gap x v m) (carried ops (gap m v) (x m))

-- the label at v after k rounds over n nodes; in a round each node sends its label along every arc
abbrev pub round : {L : Type 0} → Labels L → ℕ → Gaps → (ℕ → L) → ℕ → ℕ → L
round ops n gap start zero v = start v
round ops n gap start (suc k) v = pulled ops gap (round ops n gap start k) v n

-- the start label of a walk's first node, carried along the walk l into v
abbrev pub along : {L : Type 0} → Labels L → Gaps → (ℕ → L) → ℕ → List ℕ → L
along ops gap start v [] = start v
along ops gap start v (u ∷ l) = carried ops (gap u v) (along ops gap start u l)

-- x is the join, over all walks of at most k arcs into v, of the first node's start label carried along: its least upper bound
pub record JoinOfWalks {L : Type 0} (ops : Labels L) (n : ℕ) (gap : Gaps) (start : ℕ → L) (k v : ℕ) (x : L) : Type 0 where
  pub above : (l : List ℕ) → Below n l → Walk (Arc gap) v l → length l ≤ k → below ops (along ops gap start v l) x
  pub least : (y : L) → ((l : List ℕ) → Below n l → Walk (Arc gap) v l → length l ≤ k → below ops (along ops gap start v l) y) → below ops x y

-- after m rounds each label is the join over the walks of at most k arcs
abbrev pub RoundsJoinWalks : Type 0 → ℕ → ℕ → Type 0
RoundsJoinWalks L k m =
    (ops : Labels L) → Lawful ops → (n : ℕ) (gap : Gaps) (start : ℕ → L) (v : ℕ) → JoinOfWalks ops n gap start k v (round ops n gap start m v)

-- at most one label is that join
abbrev pub JoinsAreOne : Type 0 → Type 0
JoinsAreOne L =
    (ops : Labels L) → Lawful ops → (n : ℕ) (gap : Gaps) (start : ℕ → L) (k v : ℕ) (x y : L) → JoinOfWalks ops n gap start k v x → JoinOfWalks ops n gap start k v y → x ≡ y

-- m rounds more leave every label as it is after round k
abbrev pub Quiet : {L : Type 0} → Labels L → ℕ → Gaps → (ℕ → L) → ℕ → ℕ → Type 0
Quiet ops n gap start k m = (v : ℕ) → v < n → round ops n gap start (k + m) v ≡ round ops n gap start k v

-- labels that m rounds more leave as they are stay so in every later round; this needs no law
abbrev pub QuietStays : Type 0 → ℕ → Type 0
QuietStays L m =
    (ops : Labels L) (n : ℕ) (gap : Gaps) (start : ℕ → L) (k : ℕ) → Quiet ops n gap start k m → (j : ℕ) → Quiet ops n gap start k j
