-- A fresh board stands for the empty log. Assumes nothing.
use Rattle.std.proofs.Common.{◌≡◌, ℕ, zero, suc, Bool, true, false, cond, T, ◌⊎◌, ◌↔◌, [], Decides, sym, refl, subst, inl, inr, arith}
use Rattle.std.proofs.lemmas.Bool.Decides.{not_from_Decides}
use Rattle.std.proofs.lemmas.Bool.{lt-leb}
use Rattle.std.specs.Bool.{passes}
use Rattle.segments.specs.Shapes.{Shape}
use Rattle.segments.specs.Segments.{ShapeArc}
use Rattle.drawings.specs.Arcs.{Path, Contradictory}
use Rattle.drawings.proofs.Climbing.{path_map}
use Rattle.drawings.proofs.Listing.{each_direction}
use Rattle.shape.specs.Sources.{of_copy}
use Rattle.shape.specs.declared.copy.Copied.{Copied}
use Rattle.shape.specs.declared.shape_table.ShapeTable.{ShapeTable}
use Rattle.propagation.proofs.Leading.{true_by}
use Rattle.segment_table.specs.Records.{Recorded}
use Rattle.segment_table.specs.declared.table.SegmentTable.{SegmentTable}
use Rattle.path_table.specs.Joined.{joined}
use Rattle.path_table.specs.Tracks.{OfShape}
use Rattle.path_table.specs.declared.direction_arcs.DirectionArcs.{DirectionArcs}
use Rattle.logs.specs.Force.{OneStepEach}
use Rattle.board.specs.Boards.{arcs_of, gap_of, Stands}

-- a path along the arcs in force leads back to its beginning
abbrev Rings : DirectionArcs → Type 0
Rings x = (a : ℕ) × Path (λ u v. T (joined x.force u v)) a a

module _ (s : Shape) (dir : ℕ) (x : DirectionArcs) (of : OfShape s dir x) where
  given : (u v : ℕ) → Decides (joined x.force u v) (ShapeArc s dir u v)
  given u v = subst (λ (t : Bool). Decides t (ShapeArc s dir u v)) (sym (of.own_are_in_force u v)) (of.own_are_the_shapes u v)

  rings_own : Rings x ↔ ((a : ℕ) × Path (ShapeArc s dir) a a)
  rings_own = (
    (λ r. (r.0, path_map (λ u v t. (given u v).0 (true_by _ t)) r.1)),
    λ r. (r.0, path_map (λ u v w. passes _ ((given u v).1 w)) r.1),
  )

  step_own : (u v : ℕ) → (ShapeArc s dir u v × (◌≡◌ {A = ℕ} (cond (joined x.force u v) 1 0) 1)) ⊎ ((¬ ShapeArc s dir u v) × (◌≡◌ {A = ℕ} (cond (joined x.force u v) 1 0) 0))
  step_own u v = go (joined x.force u v) (given u v)
    where
      go : (t : Bool) → Decides t (ShapeArc s dir u v) → (ShapeArc s dir u v × (◌≡◌ {A = ℕ} (cond t 1 0) 1)) ⊎ ((¬ ShapeArc s dir u v) × (◌≡◌ {A = ℕ} (cond t 1 0) 0))
      go true d = inl (d.0 refl, refl)
      go false d = inr (not_from_Decides false d refl, refl)

module _ (s : Shape) (x y : DirectionArcs) (across : OfShape s 0 x) (up : OfShape s 1 y) where
  pub circle_across : (t : Bool) → Decides t (Rings x) → t ≡ true → Decides t (Contradictory s)
  circle_across t d e = let r = (rings_own s 0 x across).0 (d.0 e) in ((λ _. (0, r.0, omega arith, r.1)), λ _. e)

  pub circle_up : (t u : Bool) → Decides t (Rings x) → t ≡ false → Decides u (Rings y) → Decides u (Contradictory s)
  circle_up t u d e f = (
    (λ h. let r = (rings_own s 1 y up).0 (f.0 h) in (1, r.0, omega arith, r.1)),
    λ k. each_direction (λ dir. ((a : ℕ) × Path (ShapeArc s dir) a a) → u ≡ true) (λ r. absurd (not_from_Decides t d e ((rings_own s 0 x across).1 r))) (λ r. f.1 ((rings_own s 1 y up).1 r)) k.0 k.2 (k.1, k.3),
  )

  pub fresh_stands : (copy : ShapeTable Copied) (segments : SegmentTable) (verdict : Bool) → of_copy copy ≡ s → Recorded s segments → Decides verdict (Contradictory s) → Stands s [] (record { shape = copy; segments = segments; arcs = record { across = x; up = y }; contradictory = verdict })
  fresh_stands copy segments verdict is recorded tells =
      record {
        shape = is;
        segments = recorded;
        contradictory = tells;
        nodes = each_direction (λ dir. (arcs_of (record { shape = copy; segments = segments; arcs = record { across = x; up = y }; contradictory = verdict }) dir).force.nodes ≡ s.points) across.nodes_are_points up.nodes_are_points;
        own = λ dir u v h. each_direction (λ dir. Decides (joined (arcs_of (record { shape = copy; segments = segments; arcs = record { across = x; up = y }; contradictory = verdict }) dir).own u v) (ShapeArc s dir u v)) (across.own_are_the_shapes u v) (up.own_are_the_shapes u v) dir h;
        force = force;
      }
    where
      force : OneStepEach (ShapeArc s) (gap_of (record { shape = copy; segments = segments; arcs = record { across = x; up = y }; contradictory = verdict }))
      force zero u v = step_own s 0 x across u v
      force (suc zero) u v = step_own s 1 y up u v
      force (suc (suc dir)) u v = inr ((λ w. omega (arith, w.1.0)), beyond)
        where
          beyond : gap_of (record { shape = copy; segments = segments; arcs = record { across = x; up = y }; contradictory = verdict }) (suc (suc dir)) u v ≡ 0
          beyond = rw (lt-leb (suc (suc dir)) 1 (omega arith)) refl
