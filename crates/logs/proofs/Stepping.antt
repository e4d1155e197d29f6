-- The arcs in force, their gaps of one step, and what each line makes of them; a call that is refused is not accepted. Assumes nothing.
use Rattle.std.proofs.Common.{◌≡◌, ℕ, zero, suc, ◌≤◌, ◌⊎◌, ◌↔◌, List, [], ◌∷◌, sym, refl, ◌∙◌, subst, inl, inr, arith}
use native.Mathlib.Decide.{ℕ_discrete}
use Rattle.segments.specs.Shapes.{Shape, Lawful}
use Rattle.segments.specs.Segments.{Named, ShapeArc}
use Rattle.segments.proofs.Lines.{own_named}
use Rattle.drawings.specs.Arcs.{Arcs, Arc, BetweenNames, HasOwn, Path, one, more, Circle, Contradictory}
use Rattle.drawings.proofs.Climbing.{path_map, circle_map}
use Rattle.drawings.proofs.Carrying.{no_circle_closed}
use Rattle.drawings.proofs.Deciding.{dec_and, dec_by}
use Rattle.logs.specs.Lines.{Line, add, strike, arc, apart, draft, lay}
use Rattle.logs.specs.Force.{AcceptsAdd, AcceptsStrike, SameArc, InForce, OneStepEach}
use Rattle.logs.specs.Refusing.{FirstWithout, RefusesArc, no_direction, no_segment, RefusesChange, by_arc, contradictory, RefusesAdd, by_change, closes_circle, RefusesStrike, not_in_force, given_by_shape, RefusesPair, RefusesPoints, wrong_points, RefusesDraft, by_points, open_pair, RefusesLay, wrong_cells, off_arcs, out_of_balance, not_greatest}
use Rattle.logs.specs.Answers.{AcceptsDraft, AcceptsLay}
use Rattle.logs.specs.declared.refusal.Refusal.{Refusal}

-- ---- the same arc
pub onto : (R : ℕ → ℕ → ℕ → Type 0) {d p q dir a b : ℕ} → SameArc d p q dir a b → R d p q → R dir a b
onto R {d} {p} {q} {dir} {a} {b} e r =
    subst (λ (t : ℕ). R dir a t) e.2 (subst (λ (t : ℕ). R dir t q) e.1 (subst (λ (t : ℕ). R t p q) e.0 r))

pub back : {d p q dir a b : ℕ} → SameArc d p q dir a b → SameArc dir a b d p q
back e = (sym e.0, sym e.1, sym e.2)

pub same_arc? : (d p q dir a b : ℕ) → Dec (SameArc d p q dir a b)
same_arc? d p q dir a b =
    dec_by (λ t. (t.0, t.1.0, t.1.1)) (λ t. (t.0, (t.1, t.2))) (dec_and (ℕ_discrete d dir) (dec_and (ℕ_discrete p a) (ℕ_discrete q b)))

-- ---- what is in force
pub own_in_force : (s : Shape) (log : List Line) → HasOwn s (InForce s log)
own_in_force s [] dir a b r = r
own_in_force s (add d p q ∷ log) dir a b r = inl (own_in_force s log dir a b r)
own_in_force s (strike d p q ∷ log) dir a b r = (own_in_force s log dir a b r, λ z. z.1.not_own (onto (ShapeArc s) (back z.0) r))
own_in_force s (arc d p q ∷ log) dir a b r = own_in_force s log dir a b r
own_in_force s (apart x y ∷ log) dir a b r = own_in_force s log dir a b r
own_in_force s (draft n ∷ log) dir a b r = own_in_force s log dir a b r
own_in_force s (lay n across up ∷ log) dir a b r = own_in_force s log dir a b r

pub force_named : (s : Shape) → Lawful s → (log : List Line) → BetweenNames s (InForce s log)
force_named s L [] dir a b r = own_named s L dir a b r
force_named s L (add d p q ∷ log) dir a b (inl r) = force_named s L log dir a b r
force_named s L (add d p q ∷ log) dir a b (inr z) = onto (λ d p q. Named s d p × Named s d q) z.0 (z.1.from, z.1.to)
force_named s L (strike d p q ∷ log) dir a b r = force_named s L log dir a b r.0
force_named s L (arc d p q ∷ log) dir a b r = force_named s L log dir a b r
force_named s L (apart x y ∷ log) dir a b r = force_named s L log dir a b r
force_named s L (draft n ∷ log) dir a b r = force_named s L log dir a b r
force_named s L (lay n across up ∷ log) dir a b r = force_named s L log dir a b r

-- a path does without the new arcs, or they are there
with_new : (R E : ℕ → ℕ → Type 0) (W : Type 0) → {a b : ℕ} → Path (λ x y. R x y ⊎ (E x y × W)) a b → Path R a b ⊎ W
with_new R E W (one (inl r)) = inl (one r)
with_new R E W (one (inr z)) = inr z.1
with_new R E W (more (inl r) k) = elim (with_new R E W k) [ inl m ↦ inl (more r m) | inr w ↦ inr w ]
with_new R E W (more (inr z) k) = inr z.1

clear_in_force : (s : Shape) (log : List Line) → ¬ Contradictory s → (dir a : ℕ) → dir ≤ 1 → ¬ Path (InForce s log dir) a a
clear_in_force s [] fine dir a h k = fine (dir, a, h, k)
clear_in_force s (add d p q ∷ log) fine dir a h k =
    elim (with_new (InForce s log dir) (λ x y. (p ≡ x) × (q ≡ y)) ((d ≡ dir) × AcceptsAdd s (InForce s log) d p q) (path_map regroup k)) [
      | inl m ↦ clear_in_force s log fine dir a h m
      | inr w ↦ no_circle_closed (InForce s log dir) (InForce s (add d p q ∷ log) dir) p q split
          (λ e. w.1.no_circle (inl e)) (λ n. w.1.no_circle (inr (subst (λ (t : ℕ). Path (InForce s log t) q p) (sym w.0) n))) (clear_in_force s log fine dir a h) k
    ]
  where
    regroup : (x y : ℕ) → InForce s (add d p q ∷ log) dir x y → InForce s log dir x y ⊎ (((p ≡ x) × (q ≡ y)) × ((d ≡ dir) × AcceptsAdd s (InForce s log) d p q))
    regroup x y (inl r) = inl r
    regroup x y (inr z) = inr ((z.0.1, z.0.2), (z.0.0, z.1))

    split : (x y : ℕ) → InForce s (add d p q ∷ log) dir x y → InForce s log dir x y ⊎ ((p ≡ x) × (q ≡ y))
    split x y (inl r) = inl r
    split x y (inr z) = inr (z.0.1, z.0.2)
clear_in_force s (strike d p q ∷ log) fine dir a h k = clear_in_force s log fine dir a h (path_map (λ x y r. r.0) k)
clear_in_force s (arc d p q ∷ log) fine dir a h k = clear_in_force s log fine dir a h k
clear_in_force s (apart x y ∷ log) fine dir a h k = clear_in_force s log fine dir a h k
clear_in_force s (draft n ∷ log) fine dir a h k = clear_in_force s log fine dir a h k
clear_in_force s (lay n across up ∷ log) fine dir a h k = clear_in_force s log fine dir a h k

pub no_circle_in_force : (s : Shape) (log : List Line) → ¬ Contradictory s → ¬ Circle (InForce s log)
no_circle_in_force s log fine k = clear_in_force s log fine k.0 k.1 k.2 k.3

-- ---- gaps of one step
-- the arcs of the gaps are those of the relation
pub steps_arc : (force : ℕ → ℕ → ℕ → Type 0) (gap : Arcs) → OneStepEach force gap → (dir a b : ℕ) → Arc gap dir a b ↔ force dir a b
steps_arc force gap steps dir a b = (to (steps dir a b), from (steps dir a b))
  where
    to : (force dir a b × (gap dir a b ≡ 1)) ⊎ ((¬ force dir a b) × (gap dir a b ≡ 0)) → Arc gap dir a b → force dir a b
    to (inl r) h = r.0
    to (inr n) h = absurd (omega (arith, n.1))

    from : (force dir a b × (gap dir a b ≡ 1)) ⊎ ((¬ force dir a b) × (gap dir a b ≡ 0)) → force dir a b → Arc gap dir a b
    from (inl r) h = omega (arith, r.1)
    from (inr n) h = absurd (n.0 h)

pub steps_one : (force : ℕ → ℕ → ℕ → Type 0) (gap : Arcs) → OneStepEach force gap → (dir a b : ℕ) → gap dir a b ≤ 1
steps_one force gap steps dir a b = elim (steps dir a b) [ inl r ↦ omega (arith, r.1) | inr n ↦ omega (arith, n.1) ]

module _ (s : Shape) (log : List Line) (gap : Arcs) (steps : OneStepEach (InForce s log) gap) where
  pub arc_in_force : (dir a b : ℕ) → Arc gap dir a b ↔ InForce s log dir a b
  arc_in_force = steps_arc (InForce s log) gap steps

  pub gap_one : (dir a b : ℕ) → gap dir a b ≤ 1
  gap_one = steps_one (InForce s log) gap steps

  pub gap_named : Lawful s → BetweenNames s (Arc gap)
  gap_named L dir a b r = force_named s L log dir a b ((arc_in_force dir a b).0 r)

  pub gap_own : HasOwn s (Arc gap)
  gap_own dir a b r = (arc_in_force dir a b).1 (own_in_force s log dir a b r)

  pub gap_no_circle : ¬ Contradictory s → ¬ Circle (Arc gap)
  gap_no_circle fine k = no_circle_in_force s log fine (circle_map (Arc gap) (InForce s log) (λ dir a b. (arc_in_force dir a b).0) k)

-- ---- the same arcs said otherwise accept the same
pub accepts_add_map : (s : Shape) (R S : ℕ → ℕ → ℕ → Type 0) → ((dir a b : ℕ) → S dir a b → R dir a b) → (dir a b : ℕ) → AcceptsAdd s R dir a b → AcceptsAdd s S dir a b
accepts_add_map s R S f dir a b w =
    record {
      from = w.from;
      to = w.to;
      drawable = w.drawable;
      no_circle = λ r. w.no_circle (elim r [ inl e ↦ inl e | inr p ↦ inr (path_map (f dir) p) ]);
    }

pub accepts_strike_map : (s : Shape) (R S : ℕ → ℕ → ℕ → Type 0) → ((dir a b : ℕ) → R dir a b → S dir a b) → (dir a b : ℕ) → AcceptsStrike s R dir a b → AcceptsStrike s S dir a b
accepts_strike_map s R S f dir a b w =
    record { from = w.from; to = w.to; drawable = w.drawable; in_force = f dir a b w.in_force; not_own = w.not_own }

-- ---- what an add or a strike makes of the gaps
module _ (s : Shape) (log : List Line) (gap : Arcs) (steps : OneStepEach (InForce s log) gap) (dir a b : ℕ) where
  pub add_accepted : AcceptsAdd s (Arc gap) dir a b ↔ AcceptsAdd s (InForce s log) dir a b
  add_accepted = (
    accepts_add_map s (Arc gap) (InForce s log) (λ d u v. (arc_in_force s log gap steps d u v).1) dir a b,
    accepts_add_map s (InForce s log) (Arc gap) (λ d u v. (arc_in_force s log gap steps d u v).0) dir a b,
  )

  pub strike_accepted : AcceptsStrike s (Arc gap) dir a b ↔ AcceptsStrike s (InForce s log) dir a b
  strike_accepted = (
    accepts_strike_map s (Arc gap) (InForce s log) (λ d u v. (arc_in_force s log gap steps d u v).0) dir a b,
    accepts_strike_map s (InForce s log) (Arc gap) (λ d u v. (arc_in_force s log gap steps d u v).1) dir a b,
  )

  pub add_steps : AcceptsAdd s (Arc gap) dir a b → (next : Arcs) → next dir a b ≡ 1 → ((d u v : ℕ) → ¬ SameArc d u v dir a b → next d u v ≡ gap d u v) → OneStepEach (InForce s (add dir a b ∷ log)) next
  add_steps w next here others d u v = go (same_arc? dir a b d u v)
    where
      go : Dec (SameArc dir a b d u v) → (InForce s (add dir a b ∷ log) d u v × (next d u v ≡ 1)) ⊎ ((¬ InForce s (add dir a b ∷ log) d u v) × (next d u v ≡ 0))
      go (yes e) = inl (inr (e, add_accepted.0 w), onto (λ d u v. next d u v ≡ 1) e here)
      go (no n) =
          let q = others d u v (λ e. n (back e)) in
          elim (steps d u v) [
            | inl r ↦ inl (inl r.0, q ∙ r.1)
            | inr m ↦ inr ((λ z. elim z [ inl r ↦ m.0 r | inr x ↦ n x.0 ]), q ∙ m.1)
          ]

  pub add_refused_steps : ¬ AcceptsAdd s (Arc gap) dir a b → OneStepEach (InForce s (add dir a b ∷ log)) gap
  add_refused_steps w d u v =
      elim (steps d u v) [
        | inl r ↦ inl (inl r.0, r.1)
        | inr m ↦ inr ((λ z. elim z [ inl r ↦ m.0 r | inr x ↦ w (add_accepted.1 x.1) ]), m.1)
      ]

  pub strike_steps : AcceptsStrike s (Arc gap) dir a b → (next : Arcs) → next dir a b ≡ 0 → ((d u v : ℕ) → ¬ SameArc d u v dir a b → next d u v ≡ gap d u v) → OneStepEach (InForce s (strike dir a b ∷ log)) next
  strike_steps w next here others d u v = go (same_arc? dir a b d u v)
    where
      go : Dec (SameArc dir a b d u v) → (InForce s (strike dir a b ∷ log) d u v × (next d u v ≡ 1)) ⊎ ((¬ InForce s (strike dir a b ∷ log) d u v) × (next d u v ≡ 0))
      go (yes e) = inr ((λ z. z.1 (e, strike_accepted.0 w)), onto (λ d u v. next d u v ≡ 0) e here)
      go (no n) =
          let q = others d u v (λ e. n (back e)) in
          elim (steps d u v) [
            | inl r ↦ inl ((r.0, λ z. n z.0), q ∙ r.1)
            | inr m ↦ inr ((λ z. m.0 z.0), q ∙ m.1)
          ]

  pub strike_refused_steps : ¬ AcceptsStrike s (Arc gap) dir a b → OneStepEach (InForce s (strike dir a b ∷ log)) gap
  strike_refused_steps w d u v =
      elim (steps d u v) [
        | inl r ↦ inl ((r.0, λ z. w (strike_accepted.1 z.1)), r.1)
        | inr m ↦ inr ((λ z. m.0 z.0), m.1)
      ]

-- ---- what is refused is not accepted
first_without : (P Q : ℕ → Type 0) (a b x : ℕ) → FirstWithout P Q a b x → ¬ (P a × Q b)
first_without P Q a b x (inl n) w = n.1 w.0
first_without P Q a b x (inr n) w = n.2 w.1

pub arc_never_both : (s : Shape) (dir a b : ℕ) (e : Refusal) → RefusesArc s dir a b e → ¬ (Named s dir a × Named s dir b)
arc_never_both s dir a b e (no_direction h) w = omega (arith, w.0.0)
arc_never_both s dir a b e (no_segment x h n) w = first_without (Named s dir) (Named s dir) a b x n w

pub pair_never_both : (s : Shape) (r c : ℕ) (e : Refusal) → RefusesPair s r c e → ¬ (Named s 1 r × Named s 0 c)
pair_never_both s r c e (no_segment x n) w = first_without (Named s 1) (Named s 0) r c x n w

change_never_both : (s : Shape) (dir a b : ℕ) (e : Refusal) → RefusesChange s dir a b e → Named s dir a → Named s dir b → ¬ ¬ Contradictory s
change_never_both s dir a b e (by_arc x r) na nb fine = arc_never_both s dir a b x r (na, nb)
change_never_both s dir a b e (contradictory ma mb k) na nb fine = fine k

pub add_never_both : (s : Shape) (gap : Arcs) (dir a b : ℕ) (e : Refusal) → RefusesAdd s gap dir a b e → ¬ AcceptsAdd s (Arc gap) dir a b
add_never_both s gap dir a b e (by_change x r) w = change_never_both s dir a b x r w.from w.to w.drawable
add_never_both s gap dir a b e (closes_circle m p) w = w.no_circle p

pub strike_never_both : (s : Shape) (gap : Arcs) (dir a b : ℕ) (e : Refusal) → RefusesStrike s gap dir a b e → ¬ AcceptsStrike s (Arc gap) dir a b
strike_never_both s gap dir a b e (by_change x r) w = change_never_both s dir a b x r w.from w.to w.drawable
strike_never_both s gap dir a b e (not_in_force m n) w = n w.in_force
strike_never_both s gap dir a b e (given_by_shape m r o) w = w.not_own o

points_never_both : (s : Shape) (n : ℕ) (e : Refusal) → RefusesPoints s n e → ¬ Contradictory s → ¬ (n ≡ s.points)
points_never_both s n e (contradictory k) fine q = fine k
points_never_both s n e (wrong_points f m) fine q = m q

pub draft_never_both : (s : Shape) (gap : Arcs) (n : ℕ) (e : Refusal) → RefusesDraft s gap n e → ¬ AcceptsDraft s gap n
draft_never_both s gap n e (by_points x r) w = points_never_both s n x r w.fits.0 w.fits.1
draft_never_both s gap n e (open_pair f r c o) w = w.none_open r c o.is_open

pub lay_never_both : (s : Shape) (gap : Arcs) (n : ℕ) (across up : List ℕ) (e : Refusal) → RefusesLay s gap n across up e → ¬ AcceptsLay s gap n across up
lay_never_both s gap n across up e (by_points x r) w = points_never_both s n x r w.drawable w.fits.0
lay_never_both s gap n across up e (wrong_cells f c) w = c (w.fits.1, w.fits.2)
lay_never_both s gap n across up e (open_pair f m r c o) w = w.none_open r c o.is_open
lay_never_both s gap n across up e (off_arcs f m o dir a b x) w =
    x.off.0 ((w.greatest dir x.direction).flow.on_arcs a b x.from x.to (let h = x.off.1 in no_arc (gap dir a b) h))
  where
    no_arc : (g : ℕ) → ¬ (1 ≤ g) → g ≡ 0
    no_arc zero h = refl
    no_arc (suc g) h = absurd (h (omega arith))
lay_never_both s gap n across up e (out_of_balance f m o z dir a x) w = x.unbalanced ((w.greatest dir x.segment.0).flow.balanced a x.segment)
lay_never_both s gap n across up e (not_greatest f m o z dir h before x) w = x (w.greatest dir h)
