-- What the bytes of a shape file say, and when a file is refused. Assumes nothing.
use Rattle.std.specs.Prelude.{◌≡◌, ℕ, suc, ◌+◌, ◌-◌, ◌*◌, ◌<◌, ◌≤◌, true, cond, ◌≢◌, ◌⊎◌, ◌↔◌, List, length, drop, is_ok, is_err, Err, Option, Result, MatchResult, ◌==◌, slice_index}
use Rattle.segments.specs.Shapes.{Shape, Lawful, Within, Point, Same, steps}
use Rattle.shape.specs.Tables.{Told}
use Rattle.shape.specs.declared.refusal.Refusal.{Refusal}
use Rattle.shape.specs.declared.refusal.Refusal.TheVariants.{NotAShape, WrongSize, OutOfRange, Repeated, Endless}

-- A file is a letter, the number of points, and as many bytes for each point as its format has.
pub data Format : Type 0 where
  shape_record : Format
  old_sheet : Format

-- S, or O
abbrev pub letter : Format → ℕ
letter shape_record = 83
letter old_sheet = 79

abbrev pub bytes_a_point : Format → ℕ
bytes_a_point shape_record = 2
bytes_a_point old_sheet = 3

abbrev pub points_of : List ℕ → ℕ
points_of file = slice_index file 1

abbrev pub body_of : List ℕ → List ℕ
body_of file = drop 2 file

-- ---- a shape record: for each point the number of the next point to the right, and of the next above; 0 ends the chain
-- direction 0 leads to the right, 1 above
abbrev pub written : List ℕ → ℕ → ℕ → ℕ
written body dir v = slice_index body ((v - 1) * 2 + dir)

-- the numbers, followed as they are written
abbrev pub as_written : ℕ → List ℕ → Shape
as_written n body = record { points = n; next = λ dir v. cond (v == 0) 0 (written body dir v) }

-- ---- an old sheet: for each point the bytes x, y and joins
-- the coordinate x for direction 0, y for 1
abbrev pub coordinate : List ℕ → ℕ → ℕ → ℕ
coordinate body dir v = slice_index body ((v - 1) * 3 + dir)

abbrev pub joins : List ℕ → ℕ → ℕ
joins body v = slice_index body ((v - 1) * 3 + 2)

-- two points have one spot
abbrev pub SharesSpot : List ℕ → ℕ → ℕ → Type 0
SharesSpot body v w = (dir : ℕ) → dir ≤ 1 → coordinate body dir v ≡ coordinate body dir w

-- 1 means joined to the right, 2 joined above, 3 both
abbrev pub Joins : List ℕ → ℕ → ℕ → Type 0
Joins body dir v = (joins body v ≡ dir + 1) ⊎ (joins body v ≡ 3)

-- w lies beyond v in that direction, on one line with it
abbrev pub Beyond : List ℕ → ℕ → ℕ → ℕ → Type 0
Beyond body dir v w = (coordinate body (1 - dir) v ≡ coordinate body (1 - dir) w) × (coordinate body dir v < coordinate body dir w)

-- of the points beyond v on its line, w has the least coordinate
pub record Nearest (n : ℕ) (body : List ℕ) (dir v w : ℕ) : Type 0 where
  pub point : Within n w
  pub beyond : Beyond body dir v w
  pub least : (u : ℕ) → Within n u → Beyond body dir v u → coordinate body dir w ≤ coordinate body dir u

-- ---- when a file is refused
-- under two bytes, or another letter
abbrev pub OtherLetter : Format → List ℕ → Type 0
OtherLetter f file = (length file < 2) ⊎ (slice_index file 0 ≢ letter f)

-- the number of points is 0 or above 128, or the length does not fit it
abbrev pub Missized : Format → List ℕ → Type 0
Missized f file = (points_of file ≡ 0) ⊎ ((128 < points_of file) ⊎ (length file ≢ 2 + bytes_a_point f * points_of file))

-- a next number above n; joins above 3
abbrev pub TooHigh : Format → ℕ → List ℕ → ℕ → Type 0
TooHigh shape_record n body v = (dir : ℕ) × (dir ≤ 1) × (n < written body dir v)
TooHigh old_sheet n body v = 3 < joins body v

-- a next number that a lower point has for that side; the spot of a lower point
abbrev pub Taken : Format → ℕ → List ℕ → ℕ → Type 0
Taken shape_record n body v = (dir u : ℕ) × (dir ≤ 1) × (1 ≤ u) × (u < v) × (written body dir u ≡ written body dir v) × (1 ≤ written body dir v)
Taken old_sheet n body v = (u : ℕ) × (1 ≤ u) × (u < v) × SharesSpot body u v

-- in one direction: the point lies on a chain that returns to it; the point is joined to no point
abbrev pub UnendedAlong : Format → ℕ → List ℕ → ℕ → ℕ → Type 0
UnendedAlong shape_record n body dir v = (k : ℕ) × (steps (as_written n body) dir (suc k) v ≡ v)
UnendedAlong old_sheet n body dir v = Joins body dir v × ((w : ℕ) → Within n w → ¬ Beyond body dir v w)

-- the same in either direction
abbrev pub Unended : Format → ℕ → List ℕ → ℕ → Type 0
Unended shape_record n body v = (dir : ℕ) × (dir ≤ 1) × UnendedAlong shape_record n body dir v
Unended old_sheet n body v = (dir : ℕ) × (dir ≤ 1) × UnendedAlong old_sheet n body dir v

-- no point is at fault
abbrev pub Nowhere : ℕ → (ℕ → Type 0) → Type 0
Nowhere n Fault = (v : ℕ) → Within n v → ¬ Fault v

-- v is at fault, and no lower point is
pub record Lowest (n : ℕ) (Fault : ℕ → Type 0) (v : ℕ) : Type 0 where
  pub point : Within n v
  pub fault : Fault v
  pub first : (u : ℕ) → 1 ≤ u → u < v → ¬ Fault u

-- at the number of each point the table has the lowest point that tells it in that direction
abbrev pub Firsts : ℕ → List ℕ → ℕ → List ℕ → Type 0
Firsts n body dir table = (v : ℕ) → Within n v → Lowest n (λ u. written body dir u ≡ written body dir v) (slice_index table (written body dir v))

-- the letter and the length are right
abbrev pub Fits : Format → List ℕ → Type 0
Fits f file = (¬ OtherLetter f file) × (¬ Missized f file)

-- no point is at fault
abbrev pub Flawless : Format → ℕ → List ℕ → Type 0
Flawless f n body = Nowhere n (TooHigh f n body) × Nowhere n (Taken f n body) × Nowhere n (Unended f n body)

-- each check goes over all points before the next; the first that fails names the lowest point at fault
abbrev pub Flawed : Format → ℕ → List ℕ → Refusal → Type 0
Flawed f n body NotAShape = ⊥
Flawed f n body WrongSize = ⊥
Flawed f n body (OutOfRange v) = Lowest n (TooHigh f n body) v
Flawed f n body (Repeated v) = Nowhere n (TooHigh f n body) × Lowest n (Taken f n body) v
Flawed f n body (Endless v) = Nowhere n (TooHigh f n body) × Nowhere n (Taken f n body) × Lowest n (Unended f n body) v

-- no check fails
abbrev pub Sound : Format → List ℕ → Type 0
Sound f file = Fits f file × Flawless f (points_of file) (body_of file)

-- every earlier check passes, and this one fails
abbrev pub Refuses : Format → List ℕ → Refusal → Type 0
Refuses f file NotAShape = OtherLetter f file
Refuses f file WrongSize = (¬ OtherLetter f file) × Missized f file
Refuses f file (OutOfRange v) = Fits f file × Flawed f (points_of file) (body_of file) (OutOfRange v)
Refuses f file (Repeated v) = Fits f file × Flawed f (points_of file) (body_of file) (Repeated v)
Refuses f file (Endless v) = Fits f file × Flawed f (points_of file) (body_of file) (Endless v)

-- ---- the shape that a file defines
-- the next point from v in that direction is w, or there is none and w is 0
abbrev pub Leads : Format → ℕ → List ℕ → ℕ → ℕ → ℕ → Type 0
Leads shape_record n body dir v w = w ≡ written body dir v
Leads old_sheet n body dir v w = (Joins body dir v → Nearest n body dir v w) × ((¬ Joins body dir v) → w ≡ 0)

-- what an answer tells of the next point
abbrev pub LeadsTo : Format → ℕ → List ℕ → ℕ → ℕ → Option ℕ → Type 0
LeadsTo f n body dir v o = (w : ℕ) × Told w o × Leads f n body dir v w

-- what an answer tells of the wire from v in that direction: the next point or none, if the wire ends, and else the fault of v
abbrev pub TellsWire : Format → ℕ → List ℕ → ℕ → ℕ → Result (Option ℕ) Refusal → Type 0
TellsWire f n body dir v r = MatchResult r (λ o. (¬ UnendedAlong f n body dir v) × LeadsTo f n body dir v o) (λ e. (e ≡ Endless v) × UnendedAlong f n body dir v)

pub record Describes (f : Format) (file : List ℕ) (s : Shape) : Type 0 where
  pub lawful : Lawful s
  pub points : s.points ≡ points_of file
  pub leads : (dir v : ℕ) → dir ≤ 1 → Point s v → Leads f s.points (body_of file) dir v (s.next dir v)

-- the file defines s, and every shape that it defines has the answers of s
pub record Defines (f : Format) (file : List ℕ) (s : Shape) : Type 0 where
  pub describes : Describes f file s
  pub only : (t : Shape) → Describes f file t → Same s t

-- the bytes are without fault, and s is the shape that they lead through
pub record Tabled (f : Format) (n : ℕ) (body : List ℕ) (s : Shape) : Type 0 where
  pub flawless : Flawless f n body
  pub lawful : Lawful s
  pub points : s.points ≡ n
  pub leads : (dir v : ℕ) → dir ≤ 1 → Within n v → Leads f n body dir v (s.next dir v)

-- ---- what reading a file answers, and what it leaves of the source that it fills, from `before` to `after`
pub record Reads {X : Type 0} (f : Format) (file : List ℕ) (shape : X → Shape) (before after : X) (r : Result (Unit {0}) Refusal) : Type 0 where
  pub succeeds_exactly_when_sound : (is_ok r ≡ true) ↔ Sound f file
  pub success_reads_what_the_file_defines : is_ok r ≡ true → Defines f file (shape after)
  pub refusal_names_the_fault : (e : Refusal) → r ≡ Err e → Refuses f file e
  pub refusal_leaves_all_as_it_was : is_err r ≡ true → after ≡ before
