-- Flows, greatest flows, and the least coordinates that draft and lay take. Assumes nothing.
use Rattle.std.specs.Prelude.{◌≡◌, ℕ, suc, ◌+◌, ◌*◌, ◌≤◌, cond, not, ◌&&◌, ◌≢◌, ℤ, pos, ◌-ℤ◌, ◌==◌}
use Rattle.walks.specs.Sums.{sum}
use Rattle.segments.specs.Shapes.{Shape, Point}
use Rattle.segments.specs.Segments.{segment, Named}
use Rattle.drawings.specs.Arcs.{Arcs}
use Rattle.drawings.specs.Drawings.{Drawing, Obeys}

-- f of point 1 + .. + f of point n
abbrev pub sum_points : Shape → (ℕ → ℕ) → ℕ
sum_points s f = sum s.points (λ i. f (suc i))

-- how many wires of direction dir have their far end on the segment a
abbrev pub far_ends_of : Shape → ℕ → ℕ → ℕ
far_ends_of s dir a = sum_points s (λ v. cond (not (s.next dir v == 0) && segment s dir (s.next dir v) == a) 1 0)

-- and how many their near end
abbrev pub near_ends_of : Shape → ℕ → ℕ → ℕ
near_ends_of s dir a = sum_points s (λ v. cond (not (s.next dir v == 0) && segment s dir v == a) 1 0)

-- the need of a segment: its far ends less its near ends
abbrev pub need : Shape → ℕ → ℕ → ℤ
need s dir a = pos (far_ends_of s dir a) -ℤ pos (near_ends_of s dir a)

-- A flow of one direction has cells: `f a b` is the cell of a→b, a whole number from 0 up.
-- what comes in at a: the cells of b→a, for all b
abbrev pub incoming : Shape → (ℕ → ℕ → ℕ) → ℕ → ℕ
incoming s f a = sum_points s (λ b. f b a)

-- what goes out at a: the cells of a→b, for all b
abbrev pub outgoing : Shape → (ℕ → ℕ → ℕ) → ℕ → ℕ
outgoing s f a = sum_points s (λ b. f a b)

-- at the segment a what comes in, less what goes out, is the need
abbrev pub BalancedAt : Shape → ℕ → (ℕ → ℕ → ℕ) → ℕ → Type 0
BalancedAt s dir f a = pos (incoming s f a) -ℤ pos (outgoing s f a) ≡ need s dir a

-- cells of direction dir are balanced when this holds at each segment of direction dir
abbrev pub Balanced : Shape → ℕ → (ℕ → ℕ → ℕ) → Type 0
Balanced s dir f = (a : ℕ) → Named s dir a → BalancedAt s dir f a

-- they are 0 at every cell whose arc is not there
abbrev pub OnArcs : Shape → Arcs → ℕ → (ℕ → ℕ → ℕ) → Type 0
OnArcs s gap dir f = (a b : ℕ) → Point s a → Point s b → gap dir a b ≡ 0 → f a b ≡ 0

-- a balanced flow of direction dir over the arcs
pub record FlowOver (s : Shape) (gap : Arcs) (dir : ℕ) (f : ℕ → ℕ → ℕ) : Type 0 where
  pub balanced : Balanced s dir f
  pub on_arcs : OnArcs s gap dir f

-- a flow's sum in one direction: of cell times gap
abbrev pub flow_sum : Shape → Arcs → ℕ → (ℕ → ℕ → ℕ) → ℕ
flow_sum s gap dir f = sum_points s (λ a. sum_points s (λ b. f a b * gap dir a b))

-- such a flow is greatest when no other, of whole numbers from 0 up, has a larger sum
pub record GreatestAlong (s : Shape) (gap : Arcs) (dir : ℕ) (f : ℕ → ℕ → ℕ) : Type 0 where
  pub flow : FlowOver s gap dir f
  pub most : (g : ℕ → ℕ → ℕ) → FlowOver s gap dir g → flow_sum s gap dir g ≤ flow_sum s gap dir f

-- a flow: cells for each direction
abbrev pub Flow : Type 0
Flow = ℕ → ℕ → ℕ → ℕ

-- a balanced flow over the arcs, in both directions
abbrev pub Flows : Shape → Arcs → Flow → Type 0
Flows s gap f = (dir : ℕ) → dir ≤ 1 → FlowOver s gap dir (f dir)

-- a greatest flow: greatest in each direction by itself
abbrev pub Greatest : Shape → Arcs → Flow → Type 0
Greatest s gap f = (dir : ℕ) → dir ≤ 1 → GreatestAlong s gap dir (f dir)

-- one unit on each wire
abbrev pub units : Shape → Flow
units s dir a b =
    sum_points s (λ v. cond (not (s.next dir v == 0) && (segment s dir v == a && segment s dir (s.next dir v) == b)) 1 0)

-- a whole number from 0 up for each column and each row
abbrev pub Coordinates : Type 0
Coordinates = ℕ → ℕ → ℕ

-- the drawing that they make
abbrev pub drawn : Coordinates → Drawing
drawn c dir a = pos (c dir a)

-- b lies exactly the gap beyond a wherever the cell of a→b is above 0
abbrev pub Exact : Shape → Arcs → Flow → Coordinates → Type 0
Exact s gap f c = (dir a b : ℕ) → dir ≤ 1 → Point s a → Point s b → f dir a b ≢ 0 → c dir b ≡ c dir a + gap dir a b

-- of all coordinates with P, c is the one that is nowhere greater than any other
pub record Least (s : Shape) (P : Coordinates → Type 0) (c : Coordinates) : Type 0 where
  pub holds : P c
  pub least : (e : Coordinates) → P e → (dir a : ℕ) → Named s dir a → c dir a ≤ e dir a

-- draft: of all coordinates that obey the arcs
abbrev pub Draft : Shape → Arcs → Coordinates → Type 0
Draft s gap c = Least s (λ e. Obeys gap (drawn e)) c

-- lay: of all coordinates that obey the arcs and are exact where the flow is above 0
abbrev pub Lay : Shape → Arcs → Flow → Coordinates → Type 0
Lay s gap f c = Least s (λ e. Obeys gap (drawn e) × Exact s gap f e) c
