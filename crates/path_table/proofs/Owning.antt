-- A table of a shape's own arcs decides which they are. Assumes nothing.
use Rattle.std.proofs.Common.{◌≡◌, ℕ, suc, ◌+◌, ◌≤◌, ◌≢◌, is_some, Decides, add-one, sym, ap, ◌∙◌, subst, arith}
use Rattle.std.proofs.lemmas.Bool.{false≢true}
use Rattle.std.proofs.lemmas.Bool.Decides.{same_from_decides}
use native.Mathlib.Decide.{ℕ_discrete, dec_le}
use Rattle.segments.specs.Shapes.{Shape, Lawful}
use Rattle.segments.specs.Segments.{segment, ShapeArc}
use Rattle.segments.proofs.Chains.{segment_named}
use Rattle.drawings.proofs.Deciding.{dec_and, dec_by, some_point}
use Rattle.constraints.specs.Own.{OwnGaps}
use Rattle.propagation.specs.Tables.{arc_gaps}
use Rattle.propagation.specs.declared.arc_table.ArcTable.{ArcTable}
use Rattle.path_table.specs.Joined.{joined}
use Rattle.path_table.specs.Tracks.{OfShape}
use Rattle.path_table.specs.declared.direction_arcs.DirectionArcs.{DirectionArcs}
use Rattle.path_table.proofs.Names.{tells_names}

dec_not : {A : Type 0} → Dec A → Dec (¬ A)
dec_not (yes a) = no (λ n. n a)
dec_not (no n) = yes n

shape_arc? : (s : Shape) (dir a b : ℕ) → Dec (ShapeArc s dir a b)
shape_arc? s dir a b =
    dec_by (λ t. (t.0, (t.2.0, t.1, t.2.1.0), t.2.1.1.0, t.2.1.1.1)) (λ t. (t.0, t.1.1, (t.1.0, (t.1.2, (t.2, t.3)))))
    (some_point s (λ v. (dir ≤ 1) × ((s.next dir v ≢ 0) × ((segment s dir v ≡ a) × (segment s dir (s.next dir v) ≡ b))))
    (λ v _. dec_and (dec_le dir 1) (dec_and (dec_not (ℕ_discrete (s.next dir v) 0)) (dec_and (ℕ_discrete (segment s dir v) a) (ℕ_discrete (segment s dir (s.next dir v)) b)))))

-- an arc of the shape joins names, which are from 1
arc_names : (s : Shape) → Lawful s → (dir a b : ℕ) → ShapeArc s dir a b → (1 ≤ a) × (1 ≤ b)
arc_names s lawful dir a b arc =
    let w = arc.1 in
    let from = segment_named s lawful dir arc.0 w.0 w.1 in
    let to = segment_named s lawful dir (s.next dir arc.0) w.0 (lawful.to_points dir arc.0 w.2) in
    (omega (arith, from.1.0, arc.2), omega (arith, to.1.0, arc.3))

own_decides : (s : Shape) → Lawful s → (dir : ℕ) (t : ArcTable) → OwnGaps s dir (arc_gaps t) → (a b : ℕ) → Decides (joined t a b) (ShapeArc s dir a b)
own_decides s lawful dir t own = tells_names t (ShapeArc s dir) (arc_names s lawful dir) each
  where
    each : (i j : ℕ) → Decides (is_some (arc_gaps t i j)) (ShapeArc s dir (suc i) (suc j))
    each i j =
        let D : ℕ → ℕ → Type 0 = λ a b. Decides (is_some (arc_gaps t i j)) (ShapeArc s dir a b) in
        subst (λ (a : ℕ). D a (suc j)) (add-one i) (subst (D (i + 1)) (add-one j) (
          λ e. elim (shape_arc? s dir (i + 1) (j + 1)) [ yes arc ↦ arc | no none ↦ absurd (false≢true (sym (ap is_some (own.others i j none)) ∙ e)) ],
          λ arc. ap is_some (own.given i j arc),
        ))

-- two tables of them, the second in force
pub of_shape : (s : Shape) → Lawful s → (dir : ℕ) (t : DirectionArcs) → (t.own.nodes ≡ s.points) × OwnGaps s dir (arc_gaps t.own) → (t.force.nodes ≡ s.points) × OwnGaps s dir (arc_gaps t.force) → OfShape s dir t
of_shape s lawful dir t own in_force =
    record {
      nodes_are_points = in_force.0;
      own_are_the_shapes = own_decides s lawful dir t.own own.1;
      own_are_in_force = λ a b. same_from_decides (joined t.force a b) (joined t.own a b) (own_decides s lawful dir t.force in_force.1 a b) (own_decides s lawful dir t.own own.1 a b);
    }
