-- What is in force, as the log tells: the shape's arcs, and each that was added and not struck since. Assumes nothing.
use Rattle.std.proofs.Common.{◌≡◌, ℕ, ◌⊎◌, ◌↔◌, List, [], ◌∷◌, ◌++◌, sym, refl, ap, ◌∙◌, subst, inl, inr}
use Rattle.segments.specs.Shapes.{Shape}
use Rattle.segments.specs.Segments.{ShapeArc}
use Rattle.logs.specs.Lines.{Line, add, strike, arc, apart, draft, lay}
use Rattle.logs.specs.Force.{AcceptsAdd, AcceptsStrike, SameArc, InForce, AddedAndKept}
use Rattle.logs.proofs.Stepping.{onto, back, own_in_force}

pub never_empty : (line : Line) (l m : List Line) → ¬ ([] ≡ l ++ (line ∷ m))
never_empty line [] m f = cc
never_empty line (x ∷ l) m f = cc

module _ (s : Shape) where
  -- ---- what is in force is told
  -- one line more, which is no accepted strike of the arc
  kept_more : (log : List Line) (dir a b : ℕ) (line : Line) → (line ≡ strike dir a b → ¬ AcceptsStrike s (InForce s log) dir a b) → AddedAndKept s log dir a b → AddedAndKept s (line ∷ log) dir a b
  kept_more log dir a b line ok k =
      record { later = line ∷ k.later; earlier = k.earlier; is = ap (λ (t : List Line). line ∷ t) k.is; accepted = k.accepted; kept = keeps }
    where
      keeps : (l m : List Line) → line ∷ k.later ≡ l ++ (strike dir a b ∷ m) → ¬ AcceptsStrike s (InForce s (m ++ (add dir a b ∷ k.earlier))) dir a b
      keeps [] m e =
          let e1 : line ≡ strike dir a b = cc in
          let e2 : k.later ≡ m = cc in
          subst (λ (t : List Line). ¬ AcceptsStrike s (InForce s t) dir a b) (k.is ∙ ap (λ (t : List Line). t ++ (add dir a b ∷ k.earlier)) e2) (ok e1)
      keeps (x ∷ l) m e = let e2 : k.later ≡ l ++ (strike dir a b ∷ m) = cc in k.kept l m e2

  added : (log : List Line) (d p q dir a b : ℕ) → SameArc d p q dir a b → AcceptsAdd s (InForce s log) d p q → AddedAndKept s (add d p q ∷ log) dir a b
  added log d p q dir a b e w =
      record {
        later = [];
        earlier = log;
        is = onto (λ x y z. add d p q ∷ log ≡ add x y z ∷ log) e refl;
        accepted = onto (AcceptsAdd s (InForce s log)) e w;
        kept = λ l m f. absurd (never_empty (strike dir a b) l m f);
      }

  later_line : (log : List Line) (dir a b : ℕ) (line : Line) → (line ≡ strike dir a b → ¬ AcceptsStrike s (InForce s log) dir a b) → ShapeArc s dir a b ⊎ AddedAndKept s log dir a b → ShapeArc s dir a b ⊎ AddedAndKept s (line ∷ log) dir a b
  later_line log dir a b line ok (inl r) = inl r
  later_line log dir a b line ok (inr k) = inr (kept_more log dir a b line ok k)

  tells : (log : List Line) (dir a b : ℕ) → InForce s log dir a b → ShapeArc s dir a b ⊎ AddedAndKept s log dir a b
  tells [] dir a b r = inl r
  tells (add d p q ∷ log) dir a b (inl r) = later_line log dir a b (add d p q) (λ e w. cc) (tells log dir a b r)
  tells (add d p q ∷ log) dir a b (inr z) = inr (added log d p q dir a b z.0 z.1)
  tells (strike d p q ∷ log) dir a b r =
      later_line log dir a b (strike d p q)
      (λ e w. let o : SameArc d p q dir a b = ((cc), (cc), (cc)) in r.1 (o, onto (AcceptsStrike s (InForce s log)) (back o) w))
      (tells log dir a b r.0)
  tells (arc d p q ∷ log) dir a b r = later_line log dir a b (arc d p q) (λ e w. cc) (tells log dir a b r)
  tells (apart x y ∷ log) dir a b r = later_line log dir a b (apart x y) (λ e w. cc) (tells log dir a b r)
  tells (draft n ∷ log) dir a b r = later_line log dir a b (draft n) (λ e w. cc) (tells log dir a b r)
  tells (lay n across up ∷ log) dir a b r = later_line log dir a b (lay n across up) (λ e w. cc) (tells log dir a b r)

  -- ---- what is told is in force
  module _ (earlier : List Line) (dir a b : ℕ) (accepted : AcceptsAdd s (InForce s earlier) dir a b) where
    pub holds : (later : List Line) → ((l m : List Line) → later ≡ l ++ (strike dir a b ∷ m) → ¬ AcceptsStrike s (InForce s (m ++ (add dir a b ∷ earlier))) dir a b) → InForce s (later ++ (add dir a b ∷ earlier)) dir a b
    holds [] kept = inr ((refl, refl, refl), accepted)
    holds (add d p q ∷ later) kept = inl (holds later (λ l m e. kept (add d p q ∷ l) m (ap (λ (t : List Line). add d p q ∷ t) e)))
    holds (strike d p q ∷ later) kept = (
      holds later (λ l m e. kept (strike d p q ∷ l) m (ap (λ (t : List Line). strike d p q ∷ t) e)),
      λ z. kept [] later (onto (λ x y w. strike d p q ∷ later ≡ strike x y w ∷ later) z.0 refl) (onto (AcceptsStrike s (InForce s (later ++ (add dir a b ∷ earlier)))) z.0 z.1),
    )
    holds (arc d p q ∷ later) kept = holds later (λ l m e. kept (arc d p q ∷ l) m (ap (λ (t : List Line). arc d p q ∷ t) e))
    holds (apart x y ∷ later) kept = holds later (λ l m e. kept (apart x y ∷ l) m (ap (λ (t : List Line). apart x y ∷ t) e))
    holds (draft n ∷ later) kept = holds later (λ l m e. kept (draft n ∷ l) m (ap (λ (t : List Line). draft n ∷ t) e))
    holds (lay n across up ∷ later) kept = holds later (λ l m e. kept (lay n across up ∷ l) m (ap (λ (t : List Line). lay n across up ∷ t) e))

pub in_force_as_the_log_tells : (s : Shape) (log : List Line) (dir a b : ℕ) → InForce s log dir a b ↔ (ShapeArc s dir a b ⊎ AddedAndKept s log dir a b)
in_force_as_the_log_tells s log dir a b = (
  tells s log dir a b,
  λ r. elim r [
    | inl o ↦ own_in_force s log dir a b o
    | inr k ↦ subst (λ (t : List Line). InForce s t dir a b) (sym k.is) (holds s k.earlier dir a b k.accepted k.later k.kept)
  ],
)
