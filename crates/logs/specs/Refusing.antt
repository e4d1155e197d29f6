-- When each call is refused, and what the refusal names: every earlier check passes, and this one fails. Assumes nothing.
use Rattle.std.specs.Prelude.{◌≡◌, ℕ, ◌*◌, ◌<◌, ◌≤◌, ◌≢◌, ◌⊎◌, List, length}
use Rattle.segments.specs.Shapes.{Shape, Point}
use Rattle.segments.specs.Segments.{Named, ShapeArc}
use Rattle.drawings.specs.Arcs.{Arcs, Arc, IsOrReaches, Contradictory, Open, NoneOpen}
use Rattle.drawings.specs.Flows.{Flow, BalancedAt, Balanced, Flows, GreatestAlong}
use Rattle.logs.specs.Lines.{flow_of}
use Rattle.logs.specs.declared.refusal.Refusal.{Refusal}
use Rattle.logs.specs.declared.refusal.Refusal.TheVariants.{NoDirection, NoSegment, Contradictory as ContradictoryShape, ClosesCircle, NotInForce, GivenByShape, WrongPoints, WrongCells, OpenPair, FlowOffArcs, OutOfBalance, NotGreatest}

-- Let `gap` have the gaps of the arcs in force.
-- x is the first of a and b that does not have its property
abbrev pub FirstWithout : (ℕ → Type 0) → (ℕ → Type 0) → ℕ → ℕ → ℕ → Type 0
FirstWithout P Q a b x = ((x ≡ a) × (¬ P a)) ⊎ ((x ≡ b) × P a × (¬ Q b))

-- ---- the arc of an add, a strike or a question
pub data RefusesArc (s : Shape) (dir a b : ℕ) : Refusal → Type 0 where
  no_direction : 1 < dir → RefusesArc s dir a b NoDirection
  no_segment : (x : ℕ) → dir ≤ 1 → FirstWithout (Named s dir) (Named s dir) a b x → RefusesArc s dir a b (NoSegment x)

-- ---- an add or a strike: also by a contradictory shape
pub data RefusesChange (s : Shape) (dir a b : ℕ) : Refusal → Type 0 where
  by_arc : (e : Refusal) → RefusesArc s dir a b e → RefusesChange s dir a b e
  contradictory : Named s dir a → Named s dir b → Contradictory s → RefusesChange s dir a b ContradictoryShape

-- the arc goes between segments of the direction, and the shape is not contradictory
abbrev pub MayChange : Shape → ℕ → ℕ → ℕ → Type 0
MayChange s dir a b = Named s dir a × Named s dir b × (¬ Contradictory s)

pub data RefusesAdd (s : Shape) (gap : Arcs) (dir a b : ℕ) : Refusal → Type 0 where
  by_change : (e : Refusal) → RefusesChange s dir a b e → RefusesAdd s gap dir a b e
  closes_circle : MayChange s dir a b → IsOrReaches (Arc gap dir) b a → RefusesAdd s gap dir a b (ClosesCircle dir a b)

pub data RefusesStrike (s : Shape) (gap : Arcs) (dir a b : ℕ) : Refusal → Type 0 where
  by_change : (e : Refusal) → RefusesChange s dir a b e → RefusesStrike s gap dir a b e
  not_in_force : MayChange s dir a b → ¬ Arc gap dir a b → RefusesStrike s gap dir a b (NotInForce dir a b)
  given_by_shape : MayChange s dir a b → Arc gap dir a b → ShapeArc s dir a b → RefusesStrike s gap dir a b (GivenByShape dir a b)

-- ---- the pair of a question: the row is looked at first
pub data RefusesPair (s : Shape) (r c : ℕ) : Refusal → Type 0 where
  no_segment : (x : ℕ) → FirstWithout (Named s 1) (Named s 0) r c x → RefusesPair s r c (NoSegment x)

-- ---- draft, and what lay shares with it
-- the lowest row of an open pair, and its lowest column
pub record LowestOpen (s : Shape) (gap : Arcs) (r c : ℕ) : Type 0 where
  pub is_open : Open s (Arc gap) r c
  pub lowest_row : (q d : ℕ) → q < r → ¬ Open s (Arc gap) q d
  pub lowest_column : (d : ℕ) → d < c → ¬ Open s (Arc gap) r d

-- the shape can be drawn, and the points memory has one record for each point
abbrev pub PointsFit : Shape → ℕ → Type 0
PointsFit s n = (¬ Contradictory s) × (n ≡ s.points)

pub data RefusesPoints (s : Shape) (n : ℕ) : Refusal → Type 0 where
  contradictory : Contradictory s → RefusesPoints s n ContradictoryShape
  wrong_points : ¬ Contradictory s → n ≢ s.points → RefusesPoints s n WrongPoints

pub data RefusesDraft (s : Shape) (gap : Arcs) (n : ℕ) : Refusal → Type 0 where
  by_points : (e : Refusal) → RefusesPoints s n e → RefusesDraft s gap n e
  open_pair : PointsFit s n → (r c : ℕ) → LowestOpen s gap r c → RefusesDraft s gap n (OpenPair r c)

-- ---- lay
-- a flow memory has one cell for each two points
abbrev pub CellsFit : Shape → List ℕ → Type 0
CellsFit s cells = length cells ≡ s.points * s.points

-- and so have both, and the points memory fits as well
abbrev pub MemoryFits : Shape → ℕ → List ℕ → List ℕ → Type 0
MemoryFits s n across up = (n ≡ s.points) × CellsFit s across × CellsFit s up

-- a cell above 0 whose arc is not in force
abbrev pub Off : Arcs → Flow → ℕ → ℕ → ℕ → Type 0
Off gap f dir a b = (f dir a b ≢ 0) × (¬ Arc gap dir a b)

-- the cell of u→v comes before that of a→b
abbrev pub Before : ℕ → ℕ → ℕ → ℕ → Type 0
Before u v a b = (u < a) ⊎ ((u ≡ a) × (v < b))

-- of the cells of the two directions, across before up, the first that is off the arcs
pub record FirstOff (s : Shape) (gap : Arcs) (f : Flow) (dir a b : ℕ) : Type 0 where
  pub direction : dir ≤ 1
  pub from : Point s a
  pub to : Point s b
  pub off : Off gap f dir a b
  pub first_direction : (d u v : ℕ) → d < dir → Point s u → Point s v → ¬ Off gap f d u v
  pub first_cell : (u v : ℕ) → Point s u → Point s v → Before u v a b → ¬ Off gap f dir u v

-- no cell is off the arcs
abbrev pub NoneOff : Shape → Arcs → Flow → Type 0
NoneOff s gap f = (dir a b : ℕ) → dir ≤ 1 → Point s a → Point s b → ¬ Off gap f dir a b

-- the lowest column out of balance, or else the lowest row
pub record LowestUnbalanced (s : Shape) (f : Flow) (dir a : ℕ) : Type 0 where
  pub segment : Named s dir a
  pub unbalanced : ¬ BalancedAt s dir (f dir) a
  pub first_direction : (d : ℕ) → d < dir → Balanced s d (f d)
  pub lowest : (u : ℕ) → u < a → Named s dir u → BalancedAt s dir (f dir) u

pub data RefusesLay (s : Shape) (gap : Arcs) (n : ℕ) (across up : List ℕ) : Refusal → Type 0 where
  by_points : (e : Refusal) → RefusesPoints s n e → RefusesLay s gap n across up e
  wrong_cells : PointsFit s n → ¬ (CellsFit s across × CellsFit s up) → RefusesLay s gap n across up WrongCells
  open_pair : ¬ Contradictory s → MemoryFits s n across up → (r c : ℕ) → LowestOpen s gap r c → RefusesLay s gap n across up (OpenPair r c)
  off_arcs : ¬ Contradictory s → MemoryFits s n across up → NoneOpen s (Arc gap) → (dir a b : ℕ) → FirstOff s gap (flow_of s across up) dir a b → RefusesLay s gap n across up (FlowOffArcs dir a b)
  out_of_balance : ¬ Contradictory s → MemoryFits s n across up → NoneOpen s (Arc gap) → NoneOff s gap (flow_of s across up) → (dir a : ℕ) → LowestUnbalanced s (flow_of s across up) dir a → RefusesLay s gap n across up (OutOfBalance dir a)
  not_greatest : ¬ Contradictory s → MemoryFits s n across up → NoneOpen s (Arc gap) → Flows s gap (flow_of s across up) → (dir : ℕ) → dir ≤ 1 → ((d : ℕ) → d < dir → GreatestAlong s gap d (flow_of s across up d)) → ¬ GreatestAlong s gap dir (flow_of s across up dir) → RefusesLay s gap n across up (NotGreatest dir)
