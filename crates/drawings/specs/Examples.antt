-- The definitions tried on small sheets. Assumes nothing.
use Rattle.std.specs.Prelude.{◌≡◌, ℕ, zero, suc, ◌≤◌, cond, ◌&&◌, ◌≢◌, List, [], ◌∷◌, pos, ◌==◌}
use Rattle.segments.specs.Shapes.{Shape, Lawful, Within}
use Rattle.segments.specs.Segments.{ShapeArc}
use Rattle.drawings.specs.Arcs.{Arcs, Arc, BetweenNames, HasOwn, Path, Contradictory, Apart, Open, NoneOpen, Complete}
use Rattle.drawings.specs.Drawings.{Drawing, Draws, PointsApart, WiresApart, WiresClear, Simple, SimpleDrawing, total}
use Rattle.drawings.specs.Flows.{flow_sum, Flow, Flows, units, Greatest, Coordinates, drawn, Draft, Lay}

-- ---- what lists say
-- what stands after v: the second of the pair that has v first, and 0 where there is none
abbrev pub after : List (ℕ × ℕ) → ℕ → ℕ
after [] v = 0
after (p ∷ l) v = cond (v == p.0) p.1 (after l v)

-- what stands before v
abbrev pub before : List (ℕ × ℕ) → ℕ → ℕ
before [] v = 0
before (p ∷ l) v = cond (v == p.1) p.0 (before l v)

-- n points; a pair (v, w) of the list `right` says that w is right of v, and one of `above` that w is above v
abbrev pub shape : ℕ → List (ℕ × ℕ) → List (ℕ × ℕ) → Shape
shape n right above =
    record {
      points = n;
      next = λ d v. cond (d == 0) (after right v) (cond (d == 1) (after above v) (cond (d == 2) (before right v) (cond (d == 3) (before above v) 0)));
    }

-- the number listed for a and b, and 0 where there is none
abbrev pub listed : List (ℕ × ℕ × ℕ) → ℕ → ℕ → ℕ
listed [] a b = 0
listed (t ∷ l) a b = cond (a == t.0 && b == t.1) t.2 (listed l a b)

-- arcs with their gaps, or a flow, by what is listed across and up
abbrev pub numbers : List (ℕ × ℕ × ℕ) → List (ℕ × ℕ × ℕ) → ℕ → ℕ → ℕ → ℕ
numbers across up dir a b = cond (dir == 0) (listed across a b) (cond (dir == 1) (listed up a b) 0)

-- coordinates, by what is listed for columns and rows; those not listed lie at 0
abbrev pub coordinates : List (ℕ × ℕ) → List (ℕ × ℕ) → Coordinates
coordinates xs ys dir a = cond (dir == 0) (after xs a) (after ys a)

-- no arcs, and no flow
abbrev pub nothing : ℕ → ℕ → ℕ → ℕ
nothing = numbers [] []

-- ---- one point
abbrev pub point : Shape
point = shape 1 [] []

-- it lies at (0, 0), and the total is t
pub record OnePoint (t : ℕ) : Type 0 where
  pub lawful : Lawful point
  pub none_open : NoneOpen point (Arc nothing)
  pub drafts : Draft point nothing (coordinates [] [])
  pub lays : Lay point nothing nothing (coordinates [] [])
  pub greatest : Greatest point nothing nothing
  pub simple : SimpleDrawing point (drawn (coordinates [] []))
  pub total_is : total point (drawn (coordinates [] [])) ≡ pos t

-- ---- two points that no wire joins
abbrev pub two : Shape
two = shape 2 [] []

-- the arc 1→2 across, with the gap g
abbrev pub two_arcs : ℕ → Arcs
two_arcs g = numbers ((1, 2, g) ∷ []) []

-- (0, 0) and (g, 0)
abbrev pub two_draft : ℕ → Coordinates
two_draft g = coordinates ((2, g) ∷ []) []

-- with that arc row 1 and column c are apart, no pair is open, and draft sets the points the gap apart
pub record TwoApart (g c : ℕ) : Type 0 where
  pub apart : Apart two (Arc (two_arcs g)) 1 c
  pub none_open : NoneOpen two (Arc (two_arcs g))
  pub drafts : Draft two (two_arcs g) (two_draft g)
  pub simple : SimpleDrawing two (drawn (two_draft g))

-- row 1 and column c are open without an arc, and apart with one of any gap
pub record TwoPoints (c : ℕ) : Type 0 where
  pub lawful : Lawful two
  pub open_before : Open two (Arc nothing) 1 c
  pub apart_after : (g : ℕ) → 1 ≤ g → TwoApart g c

-- ---- five points: 2 right of 1, 4 right of 3, 3 above 1, 5 above 2
abbrev pub five : Shape
five = shape 5 ((1, 2) ∷ ((3, 4) ∷ [])) ((1, 3) ∷ ((2, 5) ∷ []))

-- the shape's own arcs
abbrev pub five_own : Arcs
five_own = numbers ((1, 2, 1) ∷ ((1, 4, 1) ∷ [])) ((1, 3, 1) ∷ ((1, 5, 1) ∷ []))

-- the same with 5→3 up
abbrev pub five_arcs : Arcs
five_arcs = numbers ((1, 2, 1) ∷ ((1, 4, 1) ∷ [])) ((1, 3, 1) ∷ ((1, 5, 1) ∷ ((5, 3, 1) ∷ [])))

-- a greatest flow over them
abbrev pub five_flow : Flow
five_flow = numbers ((1, 2, 1) ∷ ((1, 4, 1) ∷ [])) ((1, 5, 2) ∷ ((5, 3, 1) ∷ []))

-- (0, 0), (1, 0), (0, 2), (1, 2) and (1, 1)
abbrev pub five_lay : Coordinates
five_lay = coordinates ((2, 1) ∷ ((4, 1) ∷ [])) ((3, 2) ∷ ((5, 1) ∷ []))

-- row 3 and column 2 are open until 5→3 makes the arcs complete; then lay's total is t.
-- One unit on each wire is a flow with the sum 2 up, and not greatest, as five_flow has 3
pub record FivePoints (t : ℕ) : Type 0 where
  pub lawful : Lawful five
  pub own : HasOwn five (Arc five_own)
  pub open_before : Open five (Arc five_own) 3 2
  pub named : BetweenNames five (Arc five_arcs)
  pub complete_after : Complete five (Arc five_arcs)
  pub greatest : Greatest five five_arcs five_flow
  pub lays : Lay five five_arcs five_flow five_lay
  pub simple : SimpleDrawing five (drawn five_lay)
  pub total_is : total five (drawn five_lay) ≡ pos t
  pub units_flow : Flows five five_arcs (units five)
  pub units_sum : flow_sum five five_arcs 1 (units five 1) ≡ 2
  pub better_sum : flow_sum five five_arcs 1 (five_flow 1) ≡ 3
  pub units_not_greatest : ¬ Greatest five five_arcs (units five)

-- ---- a hook: 1, 2, 3 to the right, 5 above 3, and 4 left of 5
abbrev pub hook : Shape
hook = shape 5 ((1, 2) ∷ ((2, 3) ∷ ((4, 5) ∷ []))) ((3, 5) ∷ [])

-- the shape's own arcs, with a gap of 1 each, and one unit on each of them
abbrev pub hook_arcs : Arcs
hook_arcs = numbers ((1, 2, 1) ∷ ((2, 3, 1) ∷ ((4, 3, 1) ∷ []))) ((1, 4, 1) ∷ [])

-- (0, 0), (1, 0), (2, 0), (0, 1) and (2, 1)
abbrev pub hook_draft : Coordinates
hook_draft = coordinates ((2, 1) ∷ ((3, 2) ∷ [])) ((4, 1) ∷ [])

-- the same with point 4 at (1, 1)
abbrev pub hook_lay : Coordinates
hook_lay = coordinates ((2, 1) ∷ ((3, 2) ∷ ((4, 1) ∷ []))) ((4, 1) ∷ [])

-- draft's total is 5, and lay's is t
pub record Hook (t : ℕ) : Type 0 where
  pub lawful : Lawful hook
  pub complete : Complete hook (Arc hook_arcs)
  pub greatest : Greatest hook hook_arcs hook_arcs
  pub drafts : Draft hook hook_arcs hook_draft
  pub draft_total : total hook (drawn hook_draft) ≡ pos 5
  pub lays : Lay hook hook_arcs hook_arcs hook_lay
  pub lay_total : total hook (drawn hook_lay) ≡ pos t

-- ---- a square that closes the wrong way: 2 right of 1, 3 above 2, 4 right of 3, 1 above 4
abbrev pub square : Shape
square = shape 4 ((1, 2) ∷ ((3, 4) ∷ [])) ((2, 3) ∷ ((4, 1) ∷ []))

-- its own arcs lead from column c back to it
pub record Square (c : ℕ) : Type 0 where
  pub lawful : Lawful square
  pub circle : Path (ShapeArc square 0) c c
  pub contradictory : Contradictory square
  pub no_drawing : (e : Drawing) → ¬ Draws square e

-- ---- drawings that are not simple
-- the conditions of a simple drawing, by number
abbrev pub Condition : Shape → Drawing → ℕ → Type 0
Condition s c zero = Unit {0}
Condition s c (suc zero) = PointsApart s c
Condition s c (suc (suc zero)) = WiresApart s c
Condition s c (suc (suc (suc zero))) = WiresClear s c
Condition s c (suc (suc (suc (suc k)))) = Unit {0}

-- number k fails, and it alone
abbrev pub OnlyFails : Shape → Drawing → ℕ → Type 0
OnlyFails s c k = (¬ Condition s c k) × ((j : ℕ) → j ≢ k → Condition s c j)

-- two points without a wire, both at (0, 0)
abbrev pub together : Drawing
together = drawn (coordinates [] [])

-- 2 right of 1, and 4 above 3
abbrev pub crossed : Shape
crossed = shape 4 ((1, 2) ∷ []) ((3, 4) ∷ [])

-- at (0, 1), (2, 1), (1, 0) and (1, 2): the wires cross at (1, 1)
abbrev pub crossed_at : Drawing
crossed_at = drawn (coordinates ((2, 2) ∷ ((3, 1) ∷ [])) ((1, 1) ∷ ((4, 2) ∷ [])))

-- 2 right of 1, and 3 alone
abbrev pub passed : Shape
passed = shape 3 ((1, 2) ∷ []) []

-- at (0, 0), (2, 0) and (1, 0): the wire passes over point 3
abbrev pub passed_at : Drawing
passed_at = drawn (coordinates ((2, 2) ∷ ((3, 1) ∷ [])) [])

-- where the conditions 1 to n hold a drawing is simple, and each of them fails alone in some drawing of a lawful shape
pub record ConditionsOfSimple (n : ℕ) : Type 0 where
  pub enough : (s : Shape) (c : Drawing) → ((k : ℕ) → Within n k → Condition s c k) → Simple s c
  pub each : (k : ℕ) → Within n k → (s : Shape) × (c : Drawing) × Lawful s × Draws s c × OnlyFails s c k
