-- What a board that stands for a log knows of the arcs in force. Assumes nothing.
use Rattle.std.proofs.Common.{◌≡◌, ℕ, suc, ◌≤◌, Bool, true, false, cond, T, List, pos, is_some, Decides, sym, refl, ap, ◌∙◌, subst, arith}
use mathlib.Core.Path.{fun_ext}
use Rattle.std.proofs.lemmas.Bool.{le-leb}
use Rattle.std.specs.Bool.{then_some, passes}
use Rattle.segments.specs.Shapes.{Shape, Lawful}
use Rattle.segments.specs.Segments.{ShapeArc}
use Rattle.drawings.specs.Arcs.{Arc, Path, BetweenNames, Circle, Contradictory}
use Rattle.drawings.specs.Graphs.{as_gap, graph}
use Rattle.drawings.proofs.Climbing.{path_map}
use Rattle.propagation.specs.Tables.{arc_gaps}
use Rattle.propagation.proofs.Leading.{true_by}
use Rattle.shape.specs.Keeping.{neighbours_lawful}
use Rattle.path_table.specs.Joined.{joined}
use Rattle.path_table.specs.declared.direction_arcs.DirectionArcs.{DirectionArcs}
use Rattle.logs.specs.Lines.{Line}
use Rattle.logs.proofs.Stepping.{gap_named, gap_no_circle}
use Rattle.board.specs.Boards.{arcs_of, held, gap_of, Stands}
use Rattle.board.specs.declared.board.Board.{Board}

-- ---- an arc that is held has a gap of one step
gap_there : (t : Bool) → 1 ≤ cond t 1 0 → T t
gap_there true h = tt
gap_there false h = absurd (omega arith)

there_gap : (t : Bool) → T t → 1 ≤ cond t 1 0
there_gap true h = omega arith
there_gap false h = absurd h

module _ (b : Board) where
  pub held_joined : (dir u v : ℕ) → dir ≤ 1 → held b dir u v ≡ joined (arcs_of b dir).force u v
  held_joined dir u v h = rw (le-leb dir 1 h) refl

  pub arc_joined : (dir u v : ℕ) → dir ≤ 1 → Arc (gap_of b) dir u v → T (joined (arcs_of b dir).force u v)
  arc_joined dir u v h r = subst T (held_joined dir u v h) (gap_there (held b dir u v) r)

  pub joined_arc : (dir u v : ℕ) → dir ≤ 1 → T (joined (arcs_of b dir).force u v) → Arc (gap_of b) dir u v
  joined_arc dir u v h t = there_gap (held b dir u v) (subst T (sym (held_joined dir u v h)) t)

  pub decides_arc : (dir u v : ℕ) → dir ≤ 1 → (r : Bool) → r ≡ joined (arcs_of b dir).force u v → Decides r (Arc (gap_of b) dir u v)
  decides_arc dir u v h r e = ((λ t. joined_arc dir u v h (passes _ (sym e ∙ t))), λ a. e ∙ true_by _ (arc_joined dir u v h a))

  pub decides_path : (dir u v : ℕ) → dir ≤ 1 → (r : Bool) → Decides r (Path (λ x y. T (joined (arcs_of b dir).force x y)) u v) → Decides r (Path (Arc (gap_of b) dir) u v)
  decides_path dir u v h r d = (
    (λ t. path_map (λ x y. joined_arc dir x y h) (d.0 t)),
    λ p. d.1 (path_map (λ x y. arc_joined dir x y h) p),
  )

-- ---- the arcs of a direction as a graph
gap_again : (t : Bool) → as_gap (cond (is_some (then_some t (pos 1))) 1 0) ≡ then_some t (pos 1)
gap_again true = refl
gap_again false = refl

pub graph_is : (b : Board) (dir : ℕ) → dir ≤ 1 → graph (gap_of b) dir ≡ arc_gaps (arcs_of b dir).force
graph_is b dir h = fun_ext (λ i. fun_ext (λ j. ap (λ (t : Bool). as_gap (cond t 1 0)) (held_joined b dir (suc i) (suc j) h) ∙ gap_again _))

-- ---- a board that stands
module _ (s : Shape) (log : List Line) (b : Board) (stands : Stands s log b) where
  pub shape_lawful : Lawful s
  shape_lawful = subst Lawful stands.shape (neighbours_lawful b.shape.neighbours)

  pub between_names : BetweenNames s (Arc (gap_of b))
  between_names = gap_named s log (gap_of b) stands.force shape_lawful

  pub no_circle : ¬ Contradictory s → ¬ Circle (Arc (gap_of b))
  no_circle = gap_no_circle s log (gap_of b) stands.force

  -- what the arcs of a direction, lent as t, answer
  module _ (dir u v : ℕ) (h : dir ≤ 1) (t : DirectionArcs) (lent : t ≡ arcs_of b dir) (r : Bool) where
    pub reaches_tells : Decides r (Path (λ x y. T (joined t.force x y)) u v) → Decides r (Path (Arc (gap_of b) dir) u v)
    reaches_tells d = decides_path b dir u v h r (subst (λ (x : DirectionArcs). Decides r (Path (λ y z. T (joined x.force y z)) u v)) lent d)

    pub has_tells : r ≡ joined t.force u v → Decides r (Arc (gap_of b) dir u v)
    has_tells e = decides_arc b dir u v h r (e ∙ ap (λ (x : DirectionArcs). joined x.force u v) lent)

    pub own_tells : r ≡ joined t.own u v → Decides r (ShapeArc s dir u v)
    own_tells e = subst (λ (x : Bool). Decides x (ShapeArc s dir u v)) (sym (e ∙ ap (λ (x : DirectionArcs). joined x.own u v) lent)) (stands.own dir u v h)
