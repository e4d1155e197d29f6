-- A log of arcs that a drawing gives: each is accepted, and stays in force. Assumes nothing.
use Rattle.std.proofs.Common.{◌≡◌, ℕ, List, [], ◌∷◌, ◌++◌, sym, refl, ap, ◌∙◌, subst, inl, inr, append_assoc, arith}
use borrow.Author.Differences.{ints}
use Rattle.segments.specs.Shapes.{Shape, Lawful}
use Rattle.segments.specs.Segments.{ShapeArc}
use Rattle.segments.proofs.Lines.{own_named}
use Rattle.drawings.specs.Arcs.{Circle, NoneOpen}
use Rattle.drawings.specs.Drawings.{Drawing, Draws, SimpleDrawing, Gives}
use Rattle.drawings.proofs.Climbing.{path_climbs, climbs_no_circle, draws_climbs, contradictory_has_no_drawing}
use Rattle.drawings.proofs.Crossing.{given_none_open}
use Rattle.logs.specs.Lines.{Line, add, strike, arc, apart, draft, lay}
use Rattle.logs.specs.Force.{AcceptsAdd, SameArc, InForce}
use Rattle.logs.specs.Promise.{OnlyArcsOf, ArcsOf}
use Rattle.logs.proofs.Stepping.{onto}
use Rattle.logs.proofs.Telling.{holds}

module _ (s : Shape) (L : Lawful s) (e : Drawing) (draws : Draws s e) where
  -- ---- the end of such a log is such a log
  rest : (x : Line) (log : List Line) → OnlyArcsOf s e (x ∷ log) → OnlyArcsOf s e log
  rest x log o later earlier line q = o (x ∷ later) earlier line (ap (λ (t : List Line). x ∷ t) q)

  ends : (later earlier log : List Line) → log ≡ later ++ earlier → OnlyArcsOf s e log → OnlyArcsOf s e earlier
  ends later earlier log q o l m line f =
      o (later ++ l) m line (q ∙ ap (λ (t : List Line). later ++ t) f ∙ sym (append_assoc later l (line ∷ m)))

  -- ---- what is in force is given
  own_given : (dir a b : ℕ) → ShapeArc s dir a b → Gives s e dir a b
  own_given dir a b r = let n = own_named s L dir a b r in (n.0, n.1, draws_climbs s e draws dir a b r)

  same_add : (d p q dir a b : ℕ) → add d p q ≡ add dir a b → SameArc dir a b d p q
  same_add d p q dir a b f = ((cc), (cc), (cc))

  first_given : (log : List Line) (d p q : ℕ) → OnlyArcsOf s e (add d p q ∷ log) → Gives s e d p q
  first_given log d p q o =
      let r = o [] log (add d p q) refl in
      onto (Gives s e) (same_add d p q r.0 r.1 r.2 r.3) r.4

  pub given : (log : List Line) → OnlyArcsOf s e log → (dir a b : ℕ) → InForce s log dir a b → Gives s e dir a b
  given [] o dir a b r = own_given dir a b r
  given (add d p q ∷ log) o dir a b (inl r) = given log (rest _ log o) dir a b r
  given (add d p q ∷ log) o dir a b (inr z) = onto (Gives s e) z.0 (first_given log d p q o)
  given (strike d p q ∷ log) o dir a b r = given log (rest _ log o) dir a b r.0
  given (arc d p q ∷ log) o dir a b r = given log (rest _ log o) dir a b r
  given (apart x y ∷ log) o dir a b r = given log (rest _ log o) dir a b r
  given (draft n ∷ log) o dir a b r = given log (rest _ log o) dir a b r
  given (lay n across up ∷ log) o dir a b r = given log (rest _ log o) dir a b r

  pub given_no_circle : (log : List Line) → OnlyArcsOf s e log → ¬ Circle (InForce s log)
  given_no_circle log o = climbs_no_circle (InForce s log) e (λ dir a b r. (given log o dir a b r).2)

  -- ---- what is given is accepted
  pub given_accepted : (log : List Line) → OnlyArcsOf s e log → (dir a b : ℕ) → Gives s e dir a b → AcceptsAdd s (InForce s log) dir a b
  given_accepted log o dir a b g =
      let lt = g.2 in
      record {
        from = g.0;
        to = g.1;
        drawable = λ k. contradictory_has_no_drawing s k e draws;
        no_circle = λ r. elim r [
          | inl f ↦ (let z : e dir b ≡ e dir a = ap (e dir) f in omega (arith, ints))
          | inr p ↦ (let h = path_climbs (InForce s log dir) (e dir) (λ x y r. (given log o dir x y r).2) p in omega (arith, ints))
        ];
      }

  -- ---- and each that the log holds is in force
  no_strike : (log l m : List Line) (dir a b : ℕ) → OnlyArcsOf s e log → ¬ (log ≡ l ++ (strike dir a b ∷ m))
  no_strike log l m dir a b o q = let r = o l m (strike dir a b) q in let f = r.3 in cc

  pub all_in_force : (log : List Line) → ArcsOf s e log → (dir a b : ℕ) → Gives s e dir a b → InForce s log dir a b
  all_in_force log w dir a b g =
      let r = w.all dir a b g in
      let later = r.0 in
      let earlier = r.1 in
      let before = rest (add dir a b) earlier (ends later (add dir a b ∷ earlier) log r.2 w.only) in
      subst (λ (t : List Line). InForce s t dir a b) (sym r.2)
      (holds s earlier dir a b (given_accepted earlier before dir a b g) later
      (λ l m f z. no_strike log l (m ++ (add dir a b ∷ earlier)) dir a b w.only (r.2 ∙ ap (λ (t : List Line). t ++ (add dir a b ∷ earlier)) f ∙ append_assoc l (strike dir a b ∷ m) (add dir a b ∷ earlier))))

pub all_none_open : (s : Shape) → Lawful s → (e : Drawing) → SimpleDrawing s e → (log : List Line) → ArcsOf s e log → NoneOpen s (InForce s log)
all_none_open s L e simple log w = given_none_open s L e simple (InForce s log) (all_in_force s L e simple.draws log w)
