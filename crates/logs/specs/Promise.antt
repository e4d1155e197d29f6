-- What a board promises of every run of its calls, in the words of drawings, arcs, flows and logs. Assumes nothing.
use Rattle.std.specs.Prelude.{◌≡◌, ℕ, ◌*◌, ◌<◌, true, false, ◌⊎◌, ◌↔◌, List, ◌∷◌, ◌++◌, reverse, length, take, pos, ◌≤ℤ◌, ◌<ℤ◌, slice_index, slice_index_or}
use Rattle.segments.specs.Shapes.{Shape, Lawful}
use Rattle.segments.specs.Segments.{Named, ShapeArc}
use Rattle.drawings.specs.Arcs.{Arcs, Circle, Contradictory, NoneOpen}
use Rattle.drawings.specs.Drawings.{Drawing, SimpleDrawing, Gives, total}
use Rattle.drawings.specs.Flows.{Flow, Greatest, Coordinates, drawn, Draft, Lay}
use Rattle.logs.specs.Lines.{Line, add, arc, draft, lay, flow_of}
use Rattle.logs.specs.Force.{InForce, AddedAndKept, OneStepEach}
use Rattle.logs.specs.Refusing.{MemoryFits}
use Rattle.logs.specs.Answers.{Answer, done, told, drew, HandsOut, AnsweredAfter}
use Rattle.logs.specs.declared.spot.Spot.{Spot}

-- ---- what is in force, and what obeys it
-- the drawing obeys the arcs in force: where a→b is in force, the coordinate of a is below that of b
abbrev pub ObeysForce : Shape → List Line → Drawing → Type 0
ObeysForce s log e = (dir a b : ℕ) → InForce s log dir a b → e dir a <ℤ e dir b

-- the flow is greatest over the arcs in force, each with a gap of one step
abbrev pub GreatestInForce : Shape → List Line → Flow → Type 0
GreatestInForce s log f = (gap : Arcs) × OneStepEach (InForce s log) gap × Greatest s gap f

-- the coordinates are those that draft takes, or those that lay takes with the flow
abbrev pub DraftInForce : Shape → List Line → Coordinates → Type 0
DraftInForce s log c = (gap : Arcs) × OneStepEach (InForce s log) gap × Draft s gap c

abbrev pub LayInForce : Shape → List Line → Flow → Coordinates → Type 0
LayInForce s log f c = (gap : Arcs) × OneStepEach (InForce s log) gap × Lay s gap f c

-- the arcs in force close no circle and leave no pair open
pub record MayDraft (s : Shape) (log : List Line) : Type 0 where
  pub no_circle : ¬ Circle (InForce s log)
  pub none_open : NoneOpen s (InForce s log)

-- and the flow is greatest
pub record MayLay (s : Shape) (log : List Line) (f : Flow) : Type 0 where
  pub no_circle : ¬ Circle (InForce s log)
  pub none_open : NoneOpen s (InForce s log)
  pub greatest : GreatestInForce s log f

-- ---- answers
-- the answer is yes and P holds, or it is no and P does not
abbrev pub Tells : Answer → Type 0 → Type 0
Tells answer P = ((answer ≡ told true) × P) ⊎ ((answer ≡ told false) × (¬ P))

-- the answer is a drawing
abbrev pub Drew : Answer → Type 0
Drew answer = (sum : ℕ) × (places : List Spot) × (answer ≡ drew sum places)

-- what is handed out is the drawing by the coordinates c, a simple drawing of the shape that obeys the arcs in force
pub record Sheet (s : Shape) (log : List Line) (c : Coordinates) (sum : ℕ) (places : List Spot) : Type 0 where
  pub handed_out : HandsOut s c sum places
  pub simple : SimpleDrawing s (drawn c)
  pub obeys : ObeysForce s log (drawn c)

-- ---- the arcs of a drawing as a log
-- the log holds nothing but adds of arcs that the drawing gives
abbrev pub OnlyArcsOf : Shape → Drawing → List Line → Type 0
OnlyArcsOf s e log =
    (later earlier : List Line) (line : Line) → log ≡ later ++ (line ∷ earlier) → (dir a b : ℕ) × (line ≡ add dir a b) × Gives s e dir a b

-- and each of them
pub record ArcsOf (s : Shape) (e : Drawing) (log : List Line) : Type 0 where
  pub only : OnlyArcsOf s e log
  pub all : (dir a b : ℕ) → Gives s e dir a b → (later earlier : List Line) × (log ≡ later ++ (add dir a b ∷ earlier))

-- each cell is a byte
abbrev pub Bytes : List ℕ → Type 0
Bytes cells = (k : ℕ) → slice_index cells k < 256

-- ---- the promise
-- of one line, answered after a log
pub record Moment (s : Shape) (log : List Line) (line : Line) (answer : Answer) : Type 0 where
  pub answered_by_the_rules : AnsweredAfter s log line answer
  pub no_added_arc_closes_a_circle : ¬ Contradictory s → ¬ Circle (InForce s log)
  pub arc_tells_exactly_what_is_in_force : (dir a b : ℕ) → line ≡ arc dir a b → Named s dir a → Named s dir b → Tells answer (ShapeArc s dir a b ⊎ AddedAndKept s log dir a b)
  pub draft_draws_exactly_when_it_may : (n : ℕ) → line ≡ draft n → n ≡ s.points → Drew answer ↔ MayDraft s log
  pub draft_hands_out_its_least_drawing : (n sum : ℕ) (places : List Spot) → line ≡ draft n → answer ≡ drew sum places → (c : Coordinates) × DraftInForce s log c × Sheet s log c sum places
  pub lay_draws_exactly_when_it_may : (n : ℕ) (across up : List ℕ) → line ≡ lay n across up → MemoryFits s n across up → Drew answer ↔ MayLay s log (flow_of s across up)
  pub lay_hands_out_its_least_drawing : (n sum : ℕ) (across up : List ℕ) (places : List Spot) → line ≡ lay n across up → answer ≡ drew sum places → (c : Coordinates) × LayInForce s log (flow_of s across up) c × Sheet s log c sum places
  pub no_simple_drawing_is_shorter_than_lay : (n sum : ℕ) (across up : List ℕ) (places : List Spot) → line ≡ lay n across up → answer ≡ drew sum places → (e : Drawing) → SimpleDrawing s e → ObeysForce s log e → pos sum ≤ℤ total s e
  pub each_arc_of_a_simple_drawing_is_accepted : (e : Drawing) → SimpleDrawing s e → OnlyArcsOf s e log → (dir a b : ℕ) → line ≡ add dir a b → Gives s e dir a b → answer ≡ done
  pub lay_then_draws_no_longer : (e : Drawing) → SimpleDrawing s e → ArcsOf s e log → (n : ℕ) (across up : List ℕ) → line ≡ lay n across up → MemoryFits s n across up → GreatestInForce s log (flow_of s across up) → (sum : ℕ) × (places : List Spot) × (answer ≡ drew sum places) × (pos sum ≤ℤ total s e)

-- every simple drawing has a log of its arcs, and such a log a greatest flow that fits in bytes
pub record Reachable (s : Shape) (e : Drawing) : Type 0 where
  pub log : List Line
  pub arcs : ArcsOf s e log
  pub across : List ℕ
  pub up : List ℕ
  pub fits : MemoryFits s s.points across up
  pub bytes : Bytes across × Bytes up
  pub greatest : GreatestInForce s log (flow_of s across up)

-- the lines of a run in their order: what stands before line k, the newest first, the line, and its answer
abbrev pub log_before : List Line → ℕ → List Line
log_before lines k = reverse (take k lines)

abbrev pub line_at : List Line → ℕ → Line
line_at lines k = slice_index_or lines k (draft 0)

abbrev pub answer_at : List Answer → ℕ → Answer
answer_at answers k = slice_index_or answers k done

-- of a whole run over a shape
pub record KeepsItsPromise (s : Shape) (lines : List Line) (answers : List Answer) : Type 0 where
  pub one_answer_for_each_line : length answers ≡ length lines
  pub at_each_line : (k : ℕ) → k < length lines → Moment s (log_before lines k) (line_at lines k) (answer_at answers k)
  pub every_simple_drawing_can_be_reached : (e : Drawing) → SimpleDrawing s e → Reachable s e

-- with n answers for each line, answers by the rules keep the whole promise
abbrev pub AnswersKeepThePromise : ℕ → Type 0
AnswersKeepThePromise n =
    (s : Shape) → Lawful s → (lines : List Line) (answers : List Answer) → length answers ≡ n * length lines → ((k : ℕ) → k < length lines → AnsweredAfter s (log_before lines k) (line_at lines k) (answer_at answers k)) → KeepsItsPromise s lines answers
