-- A log of all arcs that a drawing gives. Assumes nothing.
use Rattle.std.proofs.Common.{◌≡◌, ℕ, zero, suc, ◌<◌, Bool, true, false, ◌⊎◌, List, [], ◌∷◌, ◌++◌, ℤ, ◌<ℤ◌, sym, refl, ap, ◌∙◌, subst, inl, inr, append_assoc, arith}
use native.Mathlib.Decide.{ℕ_discrete, dec_le}
use lib.Signed.{lt_z}
use borrow.Author.Differences.{ints}
use Rattle.segments.specs.Shapes.{Shape}
use Rattle.segments.specs.Segments.{segment, Named}
use Rattle.drawings.specs.Drawings.{Drawing, Gives}
use Rattle.drawings.proofs.Deciding.{dec_and, dec_by, point?}
use Rattle.drawings.proofs.Nodes.{each_pair}
use Rattle.logs.specs.Lines.{Line, add}
use Rattle.logs.specs.Promise.{ArcsOf}
use Rattle.logs.proofs.Telling.{never_empty}

-- ---- the lines of a log
abbrev In : Line → List Line → Type 0
In line log = (later earlier : List Line) × (log ≡ later ++ (line ∷ earlier))

in_front : (line : Line) (l m : List Line) → In line l → In line (l ++ m)
in_front line l m r = (r.0, r.1 ++ m, ap (λ (t : List Line). t ++ m) r.2 ∙ append_assoc r.0 (line ∷ r.1) m)

in_back : (line : Line) (l m : List Line) → In line m → In line (l ++ m)
in_back line l m r = (l ++ r.0, r.1, ap (λ (t : List Line). l ++ t) r.2 ∙ sym (append_assoc l r.0 (line ∷ r.1)))

in_either : (line : Line) (l m : List Line) → In line (l ++ m) → In line l ⊎ In line m
in_either line [] m r = inr r
in_either line (x ∷ l) m r = go r.0 r.2 (in_either line l m)
  where
    go : (later : List Line) → x ∷ (l ++ m) ≡ later ++ (line ∷ r.1) → (In line (l ++ m) → In line l ⊎ In line m) → In line (x ∷ l) ⊎ In line m
    go [] e ih = inl ([], l, (let q : x ≡ line = cc in ap (λ (t : Line). t ∷ l) q))
    go (y ∷ later) e ih =
        let q : l ++ m ≡ later ++ (line ∷ r.1) = cc in
        elim (ih (later, r.1, q)) [
          | inl k ↦ inl (x ∷ k.0, k.1, ap (λ (t : List Line). x ∷ t) k.2)
          | inr k ↦ inr k
        ]

-- ---- f (n - 1), .. , f 0, one after the other
abbrev gather : ℕ → (ℕ → List Line) → List Line
gather zero f = []
gather (suc n) f = f n ++ gather n f

in_gather : (n : ℕ) (f : ℕ → List Line) (line : Line) (i : ℕ) → i < n → In line (f i) → In line (gather n f)
in_gather zero f line i h r = absurd (omega arith)
in_gather (suc n) f line i h r =
    elim (ℕ_discrete i n) [
      | yes e ↦ in_front line (f n) (gather n f) (subst (λ (t : ℕ). In line (f t)) e r)
      | no d ↦ in_back line (f n) (gather n f) (in_gather n f line i (omega arith) r)
    ]

from_gather : (n : ℕ) (f : ℕ → List Line) (line : Line) → In line (gather n f) → (i : ℕ) × In line (f i)
from_gather zero f line r = absurd (never_empty line r.0 r.1 r.2)
from_gather (suc n) f line r =
    elim (in_either line (f n) (gather n f) r) [
      | inl k ↦ (n, k)
      | inr k ↦ from_gather n f line k
    ]

-- ---- a line where P holds
abbrev single : {P : Type 0} → Dec P → Line → List Line
single (yes p) line = line ∷ []
single (no n) line = []

single_in : {P : Type 0} (d : Dec P) (line : Line) → P → In line (single d line)
single_in (yes p) line q = ([], [], refl)
single_in (no n) line q = absurd (n q)

single_from : {P : Type 0} (d : Dec P) (line x : Line) → In x (single d line) → P × (x ≡ line)
single_from (yes p) line x r = (p, go r.0 r.2)
  where
    go : (l : List Line) → line ∷ [] ≡ l ++ (x ∷ r.1) → x ≡ line
    go [] q = cc
    go (y ∷ l) q = absurd (let z : [] ≡ l ++ (x ∷ r.1) = cc in never_empty x l r.1 z)
single_from (no n) line x r = absurd (never_empty x r.0 r.1 r.2)

-- ---- the arcs of a drawing
module _ (s : Shape) (e : Drawing) where
  below? : (x y : ℤ) → Dec (x <ℤ y)
  below? x y = go (lt_z x y) refl
    where
      go : (t : Bool) → lt_z x y ≡ t → Dec (x <ℤ y)
      go true q = yes (omega (arith, ints))
      go false q = no (λ h. omega (arith, ints))

  named? : (dir a : ℕ) → Dec (Named s dir a)
  named? dir a = dec_by (λ t. (t.0, t.1.0, t.1.1)) (λ t. (t.0, (t.1, t.2))) (dec_and (dec_le dir 1) (dec_and (point? s a) (ℕ_discrete (segment s dir a) a)))

  pub gives? : (dir a b : ℕ) → Dec (Gives s e dir a b)
  gives? dir a b =
      dec_by (λ t. (t.0, t.1.0, t.1.1)) (λ t. (t.0, (t.1, t.2))) (dec_and (named? dir a) (dec_and (named? dir b) (below? (e dir a) (e dir b))))

  -- one add for each
  abbrev adds : ℕ → ℕ → ℕ → List Line
  adds dir i j = single (gives? dir (suc i) (suc j)) (add dir (suc i) (suc j))

  abbrev pub log_of : List Line
  log_of = gather 2 (λ dir. gather s.points (λ i. gather s.points (λ j. adds dir i j)))

  pub log_arcs : ArcsOf s e log_of
  log_arcs = record { only = λ later earlier line q. only line (later, earlier, q); all = all }
    where
      only : (line : Line) → In line log_of → (dir a b : ℕ) × (line ≡ add dir a b) × Gives s e dir a b
      only line r =
          let d = from_gather 2 (λ dir. gather s.points (λ i. gather s.points (λ j. adds dir i j))) line r in
          let i = from_gather s.points (λ i. gather s.points (λ j. adds d.0 i j)) line d.1 in
          let j = from_gather s.points (λ j. adds d.0 i.0 j) line i.1 in
          let k = single_from (gives? d.0 (suc i.0) (suc j.0)) (add d.0 (suc i.0) (suc j.0)) line j.1 in
          (d.0, suc i.0, suc j.0, k.1, k.0)

      all : (dir a b : ℕ) → Gives s e dir a b → In (add dir a b) log_of
      all dir a b g =
          each_pair s (λ a b. Gives s e dir a b → In (add dir a b) log_of)
          (λ i j hi hj g.
          in_gather 2 (λ dir. gather s.points (λ i. gather s.points (λ j. adds dir i j))) (add dir (suc i) (suc j)) dir (omega (arith, g.0.0))
          (in_gather s.points (λ i. gather s.points (λ j. adds dir i j)) (add dir (suc i) (suc j)) i hi
          (in_gather s.points (λ j. adds dir i j) (add dir (suc i) (suc j)) j hj
          (single_in (gives? dir (suc i) (suc j)) (add dir (suc i) (suc j)) g))))
          a b g.0.1 g.1.1 g
