-- An arc more or less: the board stands for the longer log. Assumes nothing.
use Rattle.std.proofs.Common.{◌≡◌, ℕ, zero, suc, ◌-◌, ◌<◌, ◌≤◌, Bool, cond, ◌⊎◌, List, ◌∷◌, Decides, sym, refl, ap, ◌∙◌, subst, inl, inr, arith}
use native.Mathlib.Decide.{dec_le}
use Rattle.std.proofs.lemmas.Bool.{lt-leb}
use Rattle.segments.specs.Shapes.{Shape, Within}
use Rattle.segments.specs.Segments.{ShapeArc}
use Rattle.drawings.specs.Arcs.{Arc, Contradictory}
use Rattle.shape.specs.Sources.{of_copy}
use Rattle.segment_table.specs.Records.{Recorded}
use Rattle.path_table.specs.Joined.{joined}
use Rattle.path_table.specs.Tracks.{Added, Struck}
use Rattle.path_table.specs.declared.direction_arcs.DirectionArcs.{DirectionArcs}
use Rattle.logs.specs.Lines.{Line, add, strike}
use Rattle.logs.specs.Force.{InForce, OneStepEach, SameArc, AcceptsAdd, AcceptsStrike}
use Rattle.logs.proofs.Stepping.{add_steps, strike_steps, add_refused_steps, strike_refused_steps}
use Rattle.board.specs.Boards.{arcs_of, gap_of, Stands}
use Rattle.board.specs.Changing.{Changed}
use Rattle.board.specs.declared.board.Board.{Board}
use Rattle.board.proofs.Standing.{held_joined}

-- what a change of the arc a→b leaves
record Moved (x y : DirectionArcs) (a b : ℕ) : Type 0 where
  own : y.own ≡ x.own
  nodes : y.force.nodes ≡ x.force.nodes
  others : (u v : ℕ) → ((u ≡ a) × (v ≡ b) → ⊥) → joined y.force u v ≡ joined x.force u v

-- of two directions each is this one or the other
pub which : (dir d : ℕ) → dir ≤ 1 → d ≤ 1 → (d ≡ dir) ⊎ (d ≡ 1 - dir)
which zero zero h k = inl refl
which zero (suc zero) h k = inr refl
which (suc zero) zero h k = inr refl
which (suc zero) (suc zero) h k = inl refl
which (suc (suc dir)) d h k = absurd (omega arith)
which zero (suc (suc d)) h k = absurd (omega arith)
which (suc zero) (suc (suc d)) h k = absurd (omega arith)

beyond : (b : Board) (d u v : ℕ) → 1 < d → gap_of b d u v ≡ 0
beyond b d u v h = rw (lt-leb d 1 h) refl

module _ (b b' : Board) (dir a c : ℕ) (hd : dir ≤ 1) (change : Changed b b' dir (λ x y. Moved x y a c)) where
  each : (P : ℕ → DirectionArcs → DirectionArcs → Type 0) → P dir (arcs_of b dir) (arcs_of b' dir) → P (1 - dir) (arcs_of b (1 - dir)) (arcs_of b (1 - dir)) → (d : ℕ) → d ≤ 1 → P d (arcs_of b d) (arcs_of b' d)
  each P here there d h =
      elim (which dir d hd h) [
        | inl e ↦ subst (λ (t : ℕ). P t (arcs_of b t) (arcs_of b' t)) (sym e) here
        | inr e ↦ subst (λ (t : ℕ). P t (arcs_of b t) (arcs_of b' t)) (sym e) (subst (P (1 - dir) (arcs_of b (1 - dir))) (sym change.others_stay) there)
      ]

  others_stay : (d u v : ℕ) → ¬ SameArc d u v dir a c → gap_of b' d u v ≡ gap_of b d u v
  others_stay d u v no_same = go (dec_le d 1)
    where
      go : Dec (d ≤ 1) → gap_of b' d u v ≡ gap_of b d u v
      go (no n) = beyond b' d u v (omega arith) ∙ sym (beyond b d u v (omega arith))
      go (yes h) =
          ap (λ (t : Bool). cond t 1 0)
          (held_joined b' d u v h
          ∙ each (λ d x y. ¬ SameArc d u v dir a c → joined y.force u v ≡ joined x.force u v) (λ n. change.arcs.others u v (λ e. n (refl, e.0, e.1))) (λ n. refl) d h no_same
          ∙ sym (held_joined b d u v h))

  moved_stands : (s : Shape) (log after : List Line) → Stands s log b → OneStepEach (InForce s after) (gap_of b') → Stands s after b'
  moved_stands s log after stands force =
      record {
        shape = ap of_copy change.shape_stays ∙ stands.shape;
        segments = subst (Recorded s) (sym change.segments_stay) stands.segments;
        contradictory = subst (λ (t : Bool). Decides t (Contradictory s)) (sym change.verdict_stays) stands.contradictory;
        nodes = each (λ d x y. y.force.nodes ≡ s.points) (change.arcs.nodes ∙ stands.nodes dir hd) (stands.nodes (1 - dir) (omega arith));
        own = λ d u v h.
            each (λ d x y. Decides (joined y.own u v) (ShapeArc s d u v)) (subst (λ t. Decides (joined t u v) (ShapeArc s dir u v)) (sym change.arcs.own) (stands.own dir u v hd))
            (stands.own (1 - dir) u v (omega arith)) d h;
        force = force;
      }

-- ---- an arc comes into force
changed_by : (b b' : Board) (dir : ℕ) (R S : DirectionArcs → DirectionArcs → Type 0) → ((x y : DirectionArcs) → R x y → S x y) → Changed b b' dir R → Changed b b' dir S
changed_by b b' dir R S f c =
    record { arcs = f _ _ c.arcs; others_stay = c.others_stay; shape_stays = c.shape_stays; segments_stay = c.segments_stay; verdict_stays = c.verdict_stays }

module _ (s : Shape) (log : List Line) (b b' : Board) (dir u v : ℕ) (stands : Stands s log b) where
  pub added_stands : AcceptsAdd s (Arc (gap_of b)) dir u v → Changed b b' dir (λ x y. Added x y u v) → Stands s (add dir u v ∷ log) b'
  added_stands accepts change =
      let h = accepts.from.0 in
      let nodes = stands.nodes dir h in
      let moved = changed_by b b' dir (λ x y. Added x y u v) (λ x y. Moved x y u v) (λ x y r. record { own = r.own_stays; nodes = r.nodes_stay.0; others = r.others_stay }) change in
      let there : gap_of b' dir u v ≡ 1 =
      ap (λ (t : Bool). cond t 1 0) (held_joined b' dir u v h ∙ change.arcs.arc_is_there (subst (λ (n : ℕ). Within n u) (sym nodes) accepts.from.1) (subst (λ (n : ℕ). Within n v) (sym nodes) accepts.to.1)) in
      moved_stands b b' dir u v h moved s log (add dir u v ∷ log) stands
      (add_steps s log (gap_of b) stands.force dir u v accepts (gap_of b') there (others_stay b b' dir u v h moved))

  pub struck_stands : AcceptsStrike s (Arc (gap_of b)) dir u v → Changed b b' dir (λ x y. Struck x y u v) → Stands s (strike dir u v ∷ log) b'
  struck_stands accepts change =
      let h = accepts.from.0 in
      let moved = changed_by b b' dir (λ x y. Struck x y u v) (λ x y. Moved x y u v) (λ x y r. record { own = r.own_stays; nodes = r.nodes_stay.0; others = r.others_stay }) change in
      let gone : gap_of b' dir u v ≡ 0 = ap (λ (t : Bool). cond t 1 0) (held_joined b' dir u v h ∙ change.arcs.arc_is_gone) in
      moved_stands b b' dir u v h moved s log (strike dir u v ∷ log) stands
      (strike_steps s log (gap_of b) stands.force dir u v accepts (gap_of b') gone (others_stay b b' dir u v h moved))

-- ---- a change that is refused
-- the board stands as it is, for any log that leaves the arcs in force
pub same_stands : (s : Shape) (log after : List Line) (b : Board) → Stands s log b → OneStepEach (InForce s after) (gap_of b) → Stands s after b
same_stands s log after b stands force =
    record { shape = stands.shape; segments = stands.segments; contradictory = stands.contradictory; nodes = stands.nodes; own = stands.own; force = force }

module _ (s : Shape) (log : List Line) (b : Board) (dir u v : ℕ) (stands : Stands s log b) where
  pub refused_add_stands : ¬ AcceptsAdd s (Arc (gap_of b)) dir u v → Stands s (add dir u v ∷ log) b
  refused_add_stands no_add = same_stands s log (add dir u v ∷ log) b stands (add_refused_steps s log (gap_of b) stands.force dir u v no_add)

  pub refused_strike_stands : ¬ AcceptsStrike s (Arc (gap_of b)) dir u v → Stands s (strike dir u v ∷ log) b
  refused_strike_stands no_strike = same_stands s log (strike dir u v ∷ log) b stands (strike_refused_steps s log (gap_of b) stands.force dir u v no_strike)
