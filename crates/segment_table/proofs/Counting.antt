-- Counting the ends of wires, wire by wire. Assumes nothing.
use Rattle.std.proofs.Common.{◌≡◌, ℕ, zero, suc, ◌+◌, ◌-◌, ◌≤◌, Bool, true, false, cond, not, ◌&&◌, eqb, ◌≢◌, List, sym, ap, ◌∙◌, subst, inl, inr, add-zero, arith}
use Rattle.std.proofs.lemmas.Bool.{cases_eq, eq-eqb, ne_eqb}
use Rattle.std.proofs.lemmas.Bool.Decides.{nat_tests}
use Rattle.drawings.proofs.Listing.{each_direction}
use Rattle.segments.specs.Shapes.{Shape, Within, Point}
use Rattle.segments.specs.Segments.{segment, Wire}
use Rattle.shape.specs.ByDirections.{of_direction}
use Rattle.segment_table.specs.declared.table.Entry.{Entry}
use Rattle.segment_table.specs.declared.table.SegmentTable.{SegmentTable}
use Rattle.segment_table.specs.Records.{entry_of, ends_among, Along, Uncounted, Recorded}

one_at_most : (b : Bool) → cond b 1 0 ≤ 1
one_at_most true = omega arith
one_at_most false = omega arith

same_test : (m a k : ℕ) → k ≡ m → eqb m a ≡ eqb a k
same_test m a k e = grind (arith, nat_tests)

pub no_wire : (s : Shape) (dir v : ℕ) → dir ≤ 1 → Point s v → ¬ Wire s dir v → s.next dir v ≡ 0
no_wire s dir v h p none = elim (cases_eq (s.next dir v) 0) [ inl e ↦ e | inr e ↦ absurd (none (h, p, e)) ]

module _ (s : Shape) (dir : ℕ) where
  -- a point begins at most one wire of a direction
  few_ends : (end : ℕ → ℕ) (k a : ℕ) → ends_among end k s dir a ≤ k
  few_ends end zero a = omega arith
  few_ends end (suc m) a =
      let before = few_ends end m a in
      let here = one_at_most (not (eqb (s.next dir (suc m)) 0) && eqb (segment s dir (end (suc m))) a) in
      omega arith

  -- no count is above the number of points
  pub room : (k : ℕ) (es : List Entry) → Along s dir k es → k ≤ 128 → (a : ℕ) → Point s a → ((entry_of es a).segment.near_ends ≤ 128) × ((entry_of es a).segment.far_ends ≤ 128)
  room k es C few a p = (omega (arith, C.near a p, few_ends (λ u. u) k a), omega (arith, C.far a p, few_ends (s.next dir) k a))

  -- ---- the point after the first m
  -- no wire there
  none_more : (end : ℕ → ℕ) (m a : ℕ) → s.next dir (suc m) ≡ 0 → ends_among end (suc m) s dir a ≡ ends_among end m s dir a
  none_more end m a none = rw (eq-eqb (s.next dir (suc m)) 0 none) (add-zero _)

  -- a wire with that end on the segment b
  one_more : (end : ℕ → ℕ) (m a b : ℕ) → s.next dir (suc m) ≢ 0 → b ≡ segment s dir (end (suc m)) → ends_among end (suc m) s dir a ≡ ends_among end m s dir a + cond (eqb a b) 1 0
  one_more end m a b some is = rw (ne_eqb (s.next dir (suc m)) 0 some) (ap (λ z. ends_among end m s dir a + cond z 1 0) (same_test (segment s dir (end (suc m))) a b is))

  -- ---- the point v, after those before it
  module _ (v : ℕ) (low : 1 ≤ v) (es : List Entry) (C : Along s dir (v - 1) es) where
    after : suc (v - 1) ≡ v
    after = omega arith

    pub counted_skip : s.next dir v ≡ 0 → Along s dir v es
    counted_skip none =
        let free = subst (λ u. s.next dir u ≡ 0) (sym after) none in
        subst (λ n. Along s dir n es) after
        (record {
          names = C.names;
          ends = C.ends;
          near = λ a q. C.near a q ∙ sym (none_more (λ u. u) (v - 1) a free);
          far = λ a q. C.far a q ∙ sym (none_more (s.next dir) (v - 1) a free);
        })

    pub counted_wire : (near far : ℕ) → s.points ≤ 128 → s.next dir v ≢ 0 → near ≡ segment s dir v → far ≡ segment s dir (s.next dir v) → (es' : List Entry) → ((a : ℕ) → (entry_of es' a).name ≡ (entry_of es a).name) → ((a : ℕ) → (entry_of es' a).segment.end ≡ (entry_of es a).segment.end) → ((a : ℕ) → Within 128 a → (entry_of es' a).segment.near_ends ≡ (entry_of es a).segment.near_ends + cond (eqb a near) 1 0) → ((a : ℕ) → Within 128 a → (entry_of es' a).segment.far_ends ≡ (entry_of es a).segment.far_ends + cond (eqb a far) 1 0) → Along s dir v es'
    counted_wire near far few some from to es' names ends nears fars =
        let wire = subst (λ u. (s.next dir u ≢ 0) × (near ≡ segment s dir u) × (far ≡ segment s dir (s.next dir u))) (sym after) (some, from, to) in
        subst (λ n. Along s dir n es') after
        (record {
          names = λ a q. names a ∙ C.names a q;
          ends = λ a q. ends a ∙ C.ends a q;
          near = λ a q. nears a (q.0, omega (arith, q.1)) ∙ ap (λ n. n + cond (eqb a near) 1 0) (C.near a q) ∙ sym (one_more (λ u. u) (v - 1) a near wire.0 wire.1);
          far = λ a q. fars a (q.0, omega (arith, q.1)) ∙ ap (λ n. n + cond (eqb a far) 1 0) (C.far a q) ∙ sym (one_more (s.next dir) (v - 1) a far wire.0 wire.2);
        })

  pub uncounted_all : (es : List Entry) → ((v : ℕ) → Point s v → Uncounted s dir v (entry_of es v)) → Along s dir 0 es
  uncounted_all es all = record {
    names = λ v p. (all v p).name p;
    ends = λ v p. (all v p).end p;
    near = λ v p. (all v p).near;
    far = λ v p. (all v p).far;
  }

-- both directions
pub recorded : (s : Shape) (t : SegmentTable) → t.points ≡ s.points → Along s 0 s.points t.entries.across → Along s 1 s.points t.entries.up → Recorded s t
recorded s t points across up =
    let along = each_direction (λ dir. Along s dir s.points (of_direction t.entries dir)) across up in
    record { points = points; names = λ dir v h. (along dir h).names v; ends = λ dir v h. (along dir h).ends v; near = λ dir v h. (along dir h).near v; far = λ dir v h. (along dir h).far v }
