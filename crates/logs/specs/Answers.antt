-- How each line of a log is answered by the arcs in force. Assumes nothing.
use Rattle.std.specs.Prelude.{◌≡◌, ℕ, ◌-◌, Bool, List, length, pos, Decides, slice_index_or}
use Rattle.segments.specs.Shapes.{Shape, Point}
use Rattle.segments.specs.Segments.{row, column, Named}
use Rattle.drawings.specs.Arcs.{Arcs, Arc as ArcOf, Contradictory, Touch, Apart as KeptApart, Open as OpenPair, NoneOpen}
use Rattle.drawings.specs.Drawings.{total}
use Rattle.drawings.specs.Flows.{Greatest, Coordinates, drawn, Draft, Lay}
use Rattle.logs.specs.Lines.{Line, add, strike, arc, apart, draft, lay, flow_of}
use Rattle.logs.specs.Force.{AcceptsAdd, AcceptsStrike, InForce, OneStepEach}
use Rattle.logs.specs.Refusing.{RefusesArc, RefusesAdd, RefusesStrike, RefusesPair, PointsFit, RefusesDraft, MemoryFits, RefusesLay}
use Rattle.logs.specs.declared.pairing.Pairing.{Pairing}
use Rattle.logs.specs.declared.pairing.Pairing.TheVariants.{Touch as Touching, Apart, Open}
use Rattle.logs.specs.declared.refusal.Refusal.{Refusal}
use Rattle.logs.specs.declared.spot.Spot.{Spot}

pub data Answer : Type 0 where
  -- an add or a strike is accepted
  done : Answer
  -- whether the arc is in force
  told : Bool → Answer
  -- how the row and the column lie
  paired : Pairing → Answer
  -- a total, and what the points memory then holds
  drew : ℕ → List Spot → Answer
  refused : Refusal → Answer

-- how a row and a column lie to each other
abbrev pub Pairs : Shape → Arcs → ℕ → ℕ → Pairing → Type 0
Pairs s gap r c Touching = Touch s r c
Pairs s gap r c Apart = KeptApart s (ArcOf gap) r c
Pairs s gap r c Open = OpenPair s (ArcOf gap) r c

abbrev pub nowhere : Spot
nowhere = record { x = 0; y = 0 }

-- the places are those of the points under the coordinates c, one record for each point, and the total is the length of all wires
pub record HandsOut (s : Shape) (c : Coordinates) (sum : ℕ) (places : List Spot) : Type 0 where
  pub one_for_each : length places ≡ s.points
  pub each_x : (v : ℕ) → Point s v → (slice_index_or places (v - 1) nowhere).x ≡ c 0 (column s v)
  pub each_y : (v : ℕ) → Point s v → (slice_index_or places (v - 1) nowhere).y ≡ c 1 (row s v)
  pub sum_of_wires : pos sum ≡ total s (drawn c)

-- draft draws where the shape can be drawn, the memory fits and no pair is open
pub record AcceptsDraft (s : Shape) (gap : Arcs) (n : ℕ) : Type 0 where
  pub fits : PointsFit s n
  pub none_open : NoneOpen s (ArcOf gap)

-- lay draws where also the flow is greatest
pub record AcceptsLay (s : Shape) (gap : Arcs) (n : ℕ) (across up : List ℕ) : Type 0 where
  pub drawable : ¬ Contradictory s
  pub fits : MemoryFits s n across up
  pub none_open : NoneOpen s (ArcOf gap)
  pub greatest : Greatest s gap (flow_of s across up)

-- a refusal is one that the rules give, and any other answer is right
abbrev pub Judged : (Answer → Type 0) → (Refusal → Type 0) → Answer → Type 0
Judged Right Refuses done = Right done
Judged Right Refuses (told t) = Right (told t)
Judged Right Refuses (paired k) = Right (paired k)
Judged Right Refuses (drew sum places) = Right (drew sum places)
Judged Right Refuses (refused e) = Refuses e

abbrev pub Answers : Shape → Arcs → Line → Answer → Type 0
Answers s gap (add dir a b) = Judged (λ r. (r ≡ done) × AcceptsAdd s (ArcOf gap) dir a b) (RefusesAdd s gap dir a b)
Answers s gap (strike dir a b) = Judged (λ r. (r ≡ done) × AcceptsStrike s (ArcOf gap) dir a b) (RefusesStrike s gap dir a b)
Answers s gap (arc dir a b) = Judged (λ r. (t : Bool) × (r ≡ told t) × Named s dir a × Named s dir b × Decides t (ArcOf gap dir a b)) (RefusesArc s dir a b)
Answers s gap (apart r c) = Judged (λ a. (k : Pairing) × (a ≡ paired k) × Named s 1 r × Named s 0 c × Pairs s gap r c k) (RefusesPair s r c)
Answers s gap (draft n) = Judged (λ r. (sum : ℕ) × (places : List Spot) × (c : Coordinates) × (r ≡ drew sum places) × AcceptsDraft s gap n × Draft s gap c × HandsOut s c sum places) (RefusesDraft s gap n)
Answers s gap (lay n across up) = Judged (λ r. (sum : ℕ) × (places : List Spot) × (c : Coordinates) × (r ≡ drew sum places) × AcceptsLay s gap n across up × Lay s gap (flow_of s across up) c × HandsOut s c sum places) (RefusesLay s gap n across up)

-- when a line is accepted
abbrev pub Accepts : Shape → Arcs → Line → Type 0
Accepts s gap (add dir a b) = AcceptsAdd s (ArcOf gap) dir a b
Accepts s gap (strike dir a b) = AcceptsStrike s (ArcOf gap) dir a b
Accepts s gap (arc dir a b) = Named s dir a × Named s dir b
Accepts s gap (apart r c) = Named s 1 r × Named s 0 c
Accepts s gap (draft n) = AcceptsDraft s gap n
Accepts s gap (lay n across up) = AcceptsLay s gap n across up

-- a right answer is a refusal only where the line is not accepted, and any other only where it is
pub record AnsweredExactly : Type 0 where
  pub refused_only : (s : Shape) (gap : Arcs) (line : Line) (e : Refusal) → Answers s gap line (refused e) → ¬ Accepts s gap line
  pub accepted_only : (s : Shape) (gap : Arcs) (line : Line) (answer : Answer) → Answers s gap line answer → ((e : Refusal) → ¬ (answer ≡ refused e)) → Accepts s gap line

-- the line is answered by what is in force after the log
abbrev pub AnsweredAfter : Shape → List Line → Line → Answer → Type 0
AnsweredAfter s log line answer = (gap : Arcs) × OneStepEach (InForce s log) gap × Answers s gap line answer
