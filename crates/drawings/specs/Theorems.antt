-- What the definitions amount to, over any lawful shape and any arcs. Assumes nothing.
use Rattle.std.specs.Prelude.{◌≡◌, ℕ, suc, ◌+◌, ◌≤◌, cond, ◌⊎◌, ◌↔◌, ℤ, pos, ◌+ℤ◌, ◌*ℤ◌, ◌≤ℤ◌, ◌<ℤ◌, ◌==◌}
use Rattle.walks.specs.Sums.{sumZ}
use Rattle.walks.specs.Places.{Settled}
use Rattle.walks.specs.Flows.{layer}
use Rattle.segments.specs.Shapes.{Shape, Lawful, Point, Within}
use Rattle.segments.specs.Segments.{segment, Named}
use Rattle.drawings.specs.Arcs.{Arcs, Arc, BetweenNames, HasOwn, Path, IsOrReaches, Circle, Contradictory, Touch, Way, Apart, Open, NoneOpen, Complete}
use Rattle.drawings.specs.Drawings.{Drawing, Spot, Draws, SimpleDrawing, OnSegment, Gives, Obeys, total}
use Rattle.drawings.specs.Flows.{sum_points, need, OnArcs, FlowOver, flow_sum, GreatestAlong, Flow, Flows, Greatest, Coordinates, drawn, Draft, Lay}
use Rattle.drawings.specs.Graphs.{graph, cells}

-- ---- pairs
-- the ways are numbered from 1 to n: each way that a path leads has such a number, and where everything leads everywhere each such number is a way
pub record WaysAreNumbered (n : ℕ) : Type 0 where
  pub within : (s : Shape) (gap : Arcs) (k r c : ℕ) → Way s (λ dir. Path (Arc gap dir)) k r c → Within n k
  pub each : (s : Shape) (k r c : ℕ) → Within n k → Way s (λ dir a b. Unit {0}) k r c

-- a row and a column touch, are apart or are open
abbrev pub PairIsOneOfThree : Type 0
PairIsOneOfThree =
    (s : Shape) → Lawful s → (gap : Arcs) → BetweenNames s (Arc gap) → (r c : ℕ) → Named s 1 r → Named s 0 c → Touch s r c ⊎ (Apart s (Arc gap) r c ⊎ Open s (Arc gap) r c)

-- where a row and a column do not touch, it makes no difference to count a segment among those that it reaches
abbrev pub WaysByReach : Type 0
WaysByReach =
    (s : Shape) → Lawful s → (gap : Arcs) (r c : ℕ) → Named s 1 r → Named s 0 c → ¬ Touch s r c → (k : ℕ) → Way s (λ dir. IsOrReaches (Arc gap dir)) k r c ↔ Way s (λ dir. Path (Arc gap dir)) k r c

-- ---- simple drawings
-- coordinates that obey arcs which leave no pair open make a simple drawing of the shape
abbrev pub ObeyingIsSimple : Type 0
ObeyingIsSimple =
    (s : Shape) → Lawful s → (gap : Arcs) → HasOwn s (Arc gap) → NoneOpen s (Arc gap) → (c : Drawing) → Obeys gap c → SimpleDrawing s c

-- and so do coordinates that set each b at least `step` beyond a
abbrev pub SteppingIsSimple : ℕ → Type 0
SteppingIsSimple step =
    (s : Shape) → Lawful s → (gap : Arcs) → HasOwn s (Arc gap) → NoneOpen s (Arc gap) → (c : Drawing) → ((dir a b : ℕ) → Arc gap dir a b → (c dir a +ℤ pos step) ≤ℤ c dir b) → SimpleDrawing s c

-- so every complete extension has a simple drawing
abbrev pub CompleteIsDrawn : Type 0
CompleteIsDrawn =
    (s : Shape) → Lawful s → (gap : Arcs) → BetweenNames s (Arc gap) → Complete s (Arc gap) → (c : Coordinates) × Draft s gap c × SimpleDrawing s (drawn c)

-- and the arcs of a simple drawing are a complete extension;
-- any arcs among them close no circle, and with gaps of at most `step` the drawing obeys them
pub record ArcsOfDrawing (step : ℕ) (s : Shape) (e : Drawing) : Type 0 where
  pub complete : Complete s (Gives s e)
  pub among : (gap : Arcs) → ((dir a b : ℕ) → Arc gap dir a b → Gives s e dir a b) → ¬ Circle (Arc gap)
  pub obeyed : (gap : Arcs) → ((dir a b : ℕ) → Arc gap dir a b → Gives s e dir a b × (gap dir a b ≤ step)) → Obeys gap e

-- this holds of every simple drawing of a lawful shape
abbrev pub ArcsOfASimpleDrawing : ℕ → Type 0
ArcsOfASimpleDrawing step = (s : Shape) → Lawful s → (e : Drawing) → SimpleDrawing s e → ArcsOfDrawing step s e

-- where no gap is above `step`, a drawing obeys the arcs exactly if it gives each of them, and a flow's sum is that of its cells
pub record GapsOfOneStep (step : ℕ) : Type 0 where
  pub obeys : (gap : Arcs) → ((dir a b : ℕ) → gap dir a b ≤ step) → (c : Drawing) → Obeys gap c ↔ ((dir a b : ℕ) → Arc gap dir a b → c dir a <ℤ c dir b)
  pub sums : (s : Shape) (gap : Arcs) → ((dir a b : ℕ) → gap dir a b ≤ step) → (dir : ℕ) (f : ℕ → ℕ → ℕ) → OnArcs s gap dir f → flow_sum s gap dir f ≡ sum_points s (λ a. sum_points s (λ b. f a b))

-- a row and a column of a simple drawing that share a grid point share a point
abbrev pub CrossingIsTouch : Type 0
CrossingIsTouch =
    (s : Shape) → Lawful s → (e : Drawing) → SimpleDrawing s e → (r c : ℕ) → Named s 1 r → Named s 0 c → (p : Spot) → OnSegment s e 1 r p → OnSegment s e 0 c p → Touch s r c

-- a contradictory shape has no drawing at all
abbrev pub ContradictoryHasNoDrawing : Type 0
ContradictoryHasNoDrawing = (s : Shape) → Contradictory s → (e : Drawing) → ¬ Draws s e

-- ---- totals
-- the sum of F over the segments of direction dir whose names are among 1 to k
abbrev pub sum_segments : ℕ → Shape → ℕ → (ℕ → ℤ) → ℤ
sum_segments k s dir F = sumZ k (λ i. cond (segment s dir (suc i) == suc i) (F (suc i)) (pos 0))

-- over n points, the total is the sum over columns and rows, with names from 1 to k, of need times coordinate
pub record TotalByNeed (n k : ℕ) : Type 0 where
  pub gathered : (s : Shape) → Lawful s → s.points ≡ n → (c : Drawing) → total s c ≡ sum_segments k s 0 (λ a. need s 0 a *ℤ c 0 a) +ℤ sum_segments k s 1 (λ a. need s 1 a *ℤ c 1 a)

-- with a greatest flow no drawing that obeys the arcs, simple or not, has a smaller total than lay's
abbrev pub LayIsShortest : Type 0
LayIsShortest =
    (s : Shape) → Lawful s → (gap : Arcs) → BetweenNames s (Arc gap) → (f : Flow) → Greatest s gap f → (c : Coordinates) → Lay s gap f c → (e : Drawing) → Obeys gap e → total s (drawn c) ≤ℤ total s e

-- and that total is the flow's sum
abbrev pub LayTotalIsFlow : Type 0
LayTotalIsFlow =
    (s : Shape) → Lawful s → (gap : Arcs) → BetweenNames s (Arc gap) → (f : Flow) → Greatest s gap f → (c : Coordinates) → Lay s gap f c → total s (drawn c) ≡ pos (flow_sum s gap 0 (f 0) + flow_sum s gap 1 (f 1))

-- ---- least coordinates
-- arcs without a circle have least coordinates
abbrev pub DraftExists : Type 0
DraftExists = (s : Shape) → Lawful s → (gap : Arcs) → BetweenNames s (Arc gap) → ¬ Circle (Arc gap) → (c : Coordinates) × Draft s gap c

-- and only one such drawing
abbrev pub DraftIsOne : Type 0
DraftIsOne =
    (s : Shape) (gap : Arcs) (c e : Coordinates) → Draft s gap c → Draft s gap e → (dir a : ℕ) → Named s dir a → c dir a ≡ e dir a

-- likewise with the exact steps of a greatest flow
abbrev pub LayExists : Type 0
LayExists = (s : Shape) → Lawful s → (gap : Arcs) → BetweenNames s (Arc gap) → (f : Flow) → Greatest s gap f → (c : Coordinates) × Lay s gap f c

-- which are one drawing too
abbrev pub LayIsOne : Type 0
LayIsOne =
    (s : Shape) (gap : Arcs) (f : Flow) (c e : Coordinates) → Lay s gap f c → Lay s gap f e → (dir a : ℕ) → Named s dir a → c dir a ≡ e dir a

-- where no gap is above g, no coordinate of draft over n points is above h
abbrev pub DraftWithin : ℕ → ℕ → ℕ → Type 0
DraftWithin g n h =
    (s : Shape) → Lawful s → s.points ≡ n → (gap : Arcs) → BetweenNames s (Arc gap) → ((dir a b : ℕ) → gap dir a b ≤ g) → (c : Coordinates) → Draft s gap c → (dir a : ℕ) → Named s dir a → c dir a ≤ h

-- and none of lay
abbrev pub LayWithin : ℕ → ℕ → ℕ → Type 0
LayWithin g n h =
    (s : Shape) → Lawful s → s.points ≡ n → (gap : Arcs) → BetweenNames s (Arc gap) → ((dir a b : ℕ) → gap dir a b ≤ g) → (f : Flow) → Greatest s gap f → (c : Coordinates) → Lay s gap f c → (dir a : ℕ) → Named s dir a → c dir a ≤ h

-- where no coordinate is above h, no total over n points is above t
abbrev pub TotalWithin : ℕ → ℕ → ℕ → Type 0
TotalWithin h n t =
    (s : Shape) → Lawful s → s.points ≡ n → (c : Coordinates) → ((dir a : ℕ) → Named s dir a → c dir a ≤ h) → total s (drawn c) ≤ℤ pos t

-- ---- greatest flows
-- least coordinates with the exact steps of a balanced flow show that it is greatest
abbrev pub LayShowsGreatest : Type 0
LayShowsGreatest =
    (s : Shape) → Lawful s → (gap : Arcs) → BetweenNames s (Arc gap) → (f : Flow) → Flows s gap f → (c : Coordinates) → Lay s gap f c → Greatest s gap f

-- and a balanced flow without such coordinates is not greatest
abbrev pub WithoutLayNotGreatest : Type 0
WithoutLayNotGreatest =
    (s : Shape) → Lawful s → (gap : Arcs) → BetweenNames s (Arc gap) → (f : Flow) → Flows s gap f → ¬ ((c : Coordinates) × Lay s gap f c) → ¬ Greatest s gap f

-- over n points, round m or a later one changes no place exactly if no path of the direction leads back to its beginning
abbrev pub LabelsTellCircles : ℕ → ℕ → Type 0
LabelsTellCircles n m =
    (s : Shape) → Lawful s → s.points ≡ n → (gap : Arcs) → BetweenNames s (Arc gap) → (dir : ℕ) → dir ≤ 1 → (k : ℕ) → m ≤ k + 1 → Settled n (graph gap dir) k ↔ (¬ ((a : ℕ) × Path (Arc gap dir) a a))

-- over n points, round m or a later one changes no place of the flow layer exactly if a balanced flow is greatest
abbrev pub LabelsTellGreatest : ℕ → ℕ → Type 0
LabelsTellGreatest n m =
    (s : Shape) → Lawful s → s.points ≡ n → (gap : Arcs) → BetweenNames s (Arc gap) → (dir : ℕ) → dir ≤ 1 → (f : ℕ → ℕ → ℕ) → FlowOver s gap dir f → (k : ℕ) → m ≤ k + 1 → Settled n (layer (graph gap dir) (cells f)) k ↔ GreatestAlong s gap dir f

-- the shape's own arcs among others that close no circle have a greatest flow
abbrev pub GreatestFlowExists : Type 0
GreatestFlowExists =
    (s : Shape) → Lawful s → (gap : Arcs) → BetweenNames s (Arc gap) → HasOwn s (Arc gap) → ¬ Circle (Arc gap) → (f : Flow) × Greatest s gap f

-- every greatest flow over the same arcs leads to the same drawing
abbrev pub GreatestFlowsAgree : Type 0
GreatestFlowsAgree =
    (s : Shape) → Lawful s → (gap : Arcs) → BetweenNames s (Arc gap) → (f g : Flow) → Greatest s gap f → Greatest s gap g → (c e : Coordinates) → Lay s gap f c → Lay s gap g e → (dir a : ℕ) → Named s dir a → c dir a ≡ e dir a

-- over n points and arcs that close no circle, no cell of a balanced flow is above m
abbrev pub CellsWithin : ℕ → ℕ → Type 0
CellsWithin n m =
    (s : Shape) → Lawful s → s.points ≡ n → (gap : Arcs) → BetweenNames s (Arc gap) → ¬ Circle (Arc gap) → (dir : ℕ) → dir ≤ 1 → (f : ℕ → ℕ → ℕ) → FlowOver s gap dir f → (a b : ℕ) → Point s a → Point s b → f a b ≤ m

-- ---- every simple drawing is within reach
-- e is a simple drawing of the shape, and the arcs are those that it gives: they are a complete extension, they have a greatest flow,
-- and with any greatest flow lay makes a simple drawing of at most the total of e
pub record Reached (s : Shape) (gap : Arcs) (e : Drawing) : Type 0 where
  pub complete : Complete s (Arc gap)
  pub some_flow : (f : Flow) × Greatest s gap f
  pub some_lay : (f : Flow) → Greatest s gap f → (c : Coordinates) × Lay s gap f c
  pub simple : (f : Flow) (c : Coordinates) → Lay s gap f c → SimpleDrawing s (drawn c)
  pub no_longer : (f : Flow) → Greatest s gap f → (c : Coordinates) → Lay s gap f c → total s (drawn c) ≤ℤ total s e

-- this holds where gaps are at most `step`
abbrev pub DrawingIsReached : ℕ → Type 0
DrawingIsReached step =
    (s : Shape) → Lawful s → (e : Drawing) → SimpleDrawing s e → (gap : Arcs) → ((dir a b : ℕ) → gap dir a b ≤ step) → ((dir a b : ℕ) → Arc gap dir a b ↔ Gives s e dir a b) → Reached s gap e
