-- Records written one by one, and the coordinates that they then hold. Assumes nothing.
use Rattle.std.proofs.Common.{◌≡◌, ℕ, ◌+◌, ◌-◌, ◌<◌, ◌≤◌, ◌≢◌, List, length, get_or, set, sym, ap, ◌∙◌, subst, arith, get_or-set_other, get_or-set_same, below_more}
use Rattle.std.proofs.lemmas.Bool.{le-leb}
use Rattle.segments.specs.Shapes.{Shape, Lawful, Point}
use Rattle.segments.specs.Segments.{segment}
use Rattle.segments.proofs.Chains.{segment_named}
use Rattle.segment_table.specs.Records.{Recorded, name_in}
use Rattle.segment_table.specs.declared.table.SegmentTable.{SegmentTable}
use Rattle.logs.specs.Answers.{nowhere}
use Rattle.logs.specs.declared.spot.Spot.{Spot}
use Rattle.board.specs.Measuring.{spot_along}
use Rattle.board.specs.Placing.{coordinate_in, placed_at}
use Rattle.shape.specs.ByDirections.{of_direction}
use Rattle.shape.specs.declared.by_direction.ByDirection.{ByDirection}
use Rattle.drawings.proofs.Listing.{each_direction}

-- one record more
pub written_more : {X : Type 0} (d : X) (P : ℕ → X → Type 0) (l : List X) (i : ℕ) (x : X) → i < length l → ((k : ℕ) → k < i → P k (get_or l k d)) → P i x → (k : ℕ) → k < i + 1 → P k (get_or (set l i x) k d)
written_more d P l i x h below here =
    below_more (λ k. P k (get_or (set l i x) k d)) i
    (λ k less. let ne : k ≢ i = omega arith in subst (P k) (sym (get_or-set_other l i k x d ne)) (below k less))
    (subst (P i) (sym (get_or-set_same l i x d h)) here)

-- what the table has for a point of the shape
module _ (s : Shape) (L : Lawful s) (t : SegmentTable) (R : Recorded s t) where
  pub placed_is : (pair : ByDirection (List ℕ)) (dir v : ℕ) → dir ≤ 1 → Point s v → placed_at t pair dir v ≡ coordinate_in pair dir (segment s dir v)
  placed_is pair dir v h p =
      let n = segment_named s L dir v h p in
      let name = R.names dir v h p in
      let points = R.points in
      let few = L.few in
      rw (le-leb dir 1 h, le-leb 1 v p.0, le-leb v t.points (omega (arith, p.1)), le-leb 1 (name_in t dir v) (omega (arith, n.1.0)), le-leb (name_in t dir v) 128 (omega (arith, n.1.1)))
      (ap (λ (a : ℕ). get_or (of_direction pair dir) (a - 1) 0) name)

  pub places_are : (pair : ByDirection (List ℕ)) (places : List Spot) → ((k : ℕ) → k < s.points → get_or places k nowhere ≡ record { x = placed_at t pair 0 (k + 1); y = placed_at t pair 1 (k + 1) }) → (dir v : ℕ) → dir ≤ 1 → Point s v → spot_along places dir v ≡ coordinate_in pair dir (segment s dir v)
  places_are pair places all dir v h p =
      each_direction (λ dir. spot_along places dir v ≡ coordinate_in pair dir (segment s dir v))
      (ap (λ (q : Spot). q.x) here ∙ ap (placed_at t pair 0) back ∙ placed_is pair 0 v (omega arith) p)
      (ap (λ (q : Spot). q.y) here ∙ ap (placed_at t pair 1) back ∙ placed_is pair 1 v (omega arith) p) dir h
    where
      back : v - 1 + 1 ≡ v
      back = omega (arith, p.0)

      here : get_or places (v - 1) nowhere ≡ record { x = placed_at t pair 0 (v - 1 + 1); y = placed_at t pair 1 (v - 1 + 1) }
      here = all (v - 1) (omega (arith, p.0, p.1))
