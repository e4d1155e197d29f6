-- What the checks of one direction's cells find. Assumes nothing.
use Rattle.std.specs.Prelude.{◌≡◌, ℕ, ◌<◌, Bool, true, false, List, ◌≢◌, ◌⊎◌, Ok, Err, Result}
use Rattle.segments.specs.Shapes.{Shape, Point}
use Rattle.segments.specs.Segments.{Named}
use Rattle.drawings.specs.Arcs.{Arcs, Arc}
use Rattle.drawings.specs.Flows.{BalancedAt, Balanced, Flow}
use Rattle.logs.specs.Refusing.{Before, FirstOff, NoneOff, LowestUnbalanced}
use Rattle.logs.specs.Lines.{Line, cell_of}
use Rattle.logs.specs.declared.refusal.Refusal.{Refusal}
use Rattle.logs.specs.declared.refusal.Refusal.TheVariants.{FlowOffArcs, OutOfBalance}
use Rattle.board.specs.Boards.{Stands}
use Rattle.board.specs.Cells.{bytes_in}
use Rattle.board.specs.declared.board.flows.Flow.{Flow as Laid}

-- a cell above 0 whose arc is not in force
abbrev pub OffAlong : Arcs → ℕ → (ℕ → ℕ → ℕ) → ℕ → ℕ → Type 0
OffAlong gap dir f a b = (f a b ≢ 0) × (¬ Arc gap dir a b)

-- no cell is off the arcs; or the arc of the first that is
abbrev pub OnArcsOrFirst : Shape → Arcs → ℕ → (ℕ → ℕ → ℕ) → Result (Unit {0}) Refusal → Type 0
OnArcsOrFirst s gap dir f (Ok u) = (a b : ℕ) → Point s a → Point s b → ¬ OffAlong gap dir f a b
OnArcsOrFirst s gap dir f (Err e) =
    (a b : ℕ) × (e ≡ FlowOffArcs dir a b) × Point s a × Point s b × OffAlong gap dir f a b × ((u v : ℕ) → Point s u → Point s v → Before u v a b → ¬ OffAlong gap dir f u v)

-- whether the number names a segment where the cells are not balanced
abbrev pub OffBalance : Shape → ℕ → (ℕ → ℕ → ℕ) → ℕ → Bool → Type 0
OffBalance s dir f a true = Named s dir a × (¬ BalancedAt s dir f a)
OffBalance s dir f a false = Named s dir a → BalancedAt s dir f a

-- this, told of any shape and log that the flow's board stands for; a record, so that a search finds it in what a closure says
pub record TellsBalance (f : Laid) (dir a : ℕ) (t : Bool) : Type 0 where
  pub tells : (s : Shape) (log : List Line) → Stands s log f.board.now → OffBalance s dir (cell_of s.points (bytes_in f dir)) a t

-- the cells are balanced; or the lowest segment where they are not
abbrev pub BalancedOrLowest : Shape → ℕ → (ℕ → ℕ → ℕ) → Result (Unit {0}) Refusal → Type 0
BalancedOrLowest s dir f (Ok u) = Balanced s dir f
BalancedOrLowest s dir f (Err e) =
    (a : ℕ) × (e ≡ OutOfBalance dir a) × Named s dir a × (¬ BalancedAt s dir f a) × ((u : ℕ) → u < a → Named s dir u → BalancedAt s dir f u)

-- what is wrong with a flow: the first cell off the arcs, or else the lowest segment out of balance
abbrev pub FlowRefused : Shape → Arcs → Flow → Refusal → Type 0
FlowRefused s gap f e =
    ((dir a b : ℕ) × (e ≡ FlowOffArcs dir a b) × FirstOff s gap f dir a b) ⊎ (NoneOff s gap f × ((dir a : ℕ) × (e ≡ OutOfBalance dir a) × LowestUnbalanced s f dir a))
