-- Every greatest flow over the same arcs leads to the same coordinates. Assumes nothing.
use Rattle.std.proofs.Common.{◌≡◌, ℕ, zero, suc, ◌<◌, ◌≤◌, Bool, true, false, ℤ, pos, ◌+ℤ◌, ◌-ℤ◌, ◌*ℤ◌, ◌≤ℤ◌, sym, refl, subst, arith}
use native.Mathlib.Decide.{ℕ_discrete}
use lib.Signed.{lt_z}
use borrow.Author.Differences.{ints}
use Rattle.walks.specs.Nodes.{Gaps, worth}
use Rattle.walks.specs.Places.{Keeps}
use Rattle.walks.specs.Sums.{sumZ}
use Rattle.walks.specs.Flows.{OnArcs as NodeOnArcs, SameBalance, volume, Tight}
use Rattle.walks.proofs.Folds.{*ℤ-over, sumZ_le}
use Rattle.walks.proofs.Longest.{arc_le}
use Rattle.walks.proofs.Duality.{times_le, cell_arc, span_same, span_le_volume}
use Rattle.segments.specs.Shapes.{Shape, Lawful}
use Rattle.drawings.specs.Arcs.{Arcs, Arc, BetweenNames}
use Rattle.drawings.specs.Drawings.{Obeys}
use Rattle.drawings.specs.Flows.{Flow, Greatest, Coordinates, drawn, Exact}
use Rattle.drawings.specs.Graphs.{graph, cells}
use Rattle.drawings.specs.Theorems.{GreatestFlowsAgree}
use Rattle.drawings.proofs.Nodes.{obeys_keeps, on_arcs_nodes, volume_is_sum}
use Rattle.drawings.proofs.Greatest.{same_balance}
use Rattle.drawings.proofs.Coordinates.{exact_tight, tight_exact}

-- two sums that are equal, term by term at most, have equal terms
terms_equal : (n : ℕ) (f g : ℕ → ℤ) → ((i : ℕ) → i < n → f i ≤ℤ g i) → sumZ n g ≤ℤ sumZ n f → (i : ℕ) → i < n → g i ≤ℤ f i
terms_equal zero f g h e i l = absurd (omega arith)
terms_equal (suc m) f g h e i l =
    let a = sumZ_le m f g (λ j k. h j (omega arith)) in
    let b = h m (omega arith) in
    elim (ℕ_discrete i m) [
      | yes q ↦ subst (λ (t : ℕ). g t ≤ℤ f t) (sym q) (last _ _ _ _ a b e)
      | no d ↦ terms_equal m f g (λ j k. h j (omega arith)) (front _ _ _ _ a b e) i (omega arith)
    ]
  where
    last : (x y u v : ℤ) → x ≤ℤ y → u ≤ℤ v → (y +ℤ v) ≤ℤ (x +ℤ u) → v ≤ℤ u
    last x y u v p q r = omega (arith, ints)

    front : (x y u v : ℤ) → x ≤ℤ y → u ≤ℤ v → (y +ℤ v) ≤ℤ (x +ℤ u) → y ≤ℤ x
    front x y u v p q r = omega (arith, ints)

-- a product by a number above 0 tells the order
times_tells : (k : ℕ) (x y : ℤ) → 0 < k → (pos k *ℤ x) ≤ℤ (pos k *ℤ y) → x ≤ℤ y
times_tells k x y h e = go (lt_z y x) refl
  where
    once : (k : ℕ) → pos k *ℤ pos 1 ≡ pos k
    once k = omega (arith, ints)

    go : (t : Bool) → lt_z y x ≡ t → x ≤ℤ y
    go true q =
        let a = times_le k (y +ℤ pos 1) x (λ _. omega (arith, ints)) in
        let b = *ℤ-over (pos k) y (pos 1) in
        let c = once k in
        absurd (omega (arith, ints))
    go false q = omega (arith, ints)

-- coordinates that are tight for one flow are tight for another with its balance and no smaller sum
pub tight_for_other : (n : ℕ) (gap : Gaps) (f g : ℕ → ℕ → ℕ) (x : ℕ → ℤ) → Keeps n gap x → NodeOnArcs n gap g → SameBalance n f g → Tight n gap f x → volume n gap f ≤ℤ volume n gap g → Tight n gap g x
tight_for_other n gap f g x keeps on same tight more i j hi hj above =
    let whole = spans _ _ _ _ (span_le_volume n gap f x tight) (span_same n f g x same) more in
    let line = terms_equal n _ _ (λ a ha. sumZ_le n _ _ (λ b hb. cell a b ha hb)) whole i hi in
    let here = terms_equal n _ _ (λ b hb. cell i b hi hb) line j hj in
    let d = times_tells (g i j) (x j -ℤ x i) (worth gap i j) above here in
    omega (arith, ints)
  where
    spans : (sf vf vg sg : ℤ) → sf ≤ℤ vf → sg ≡ sf → vf ≤ℤ vg → sg ≤ℤ vg
    spans sf vf vg sg p q r = omega (arith, ints)

    cell : (a b : ℕ) → a < n → b < n → (pos (g a b) *ℤ worth gap a b) ≤ℤ (pos (g a b) *ℤ (x b -ℤ x a))
    cell a b ha hb =
        times_le (g a b) (worth gap a b) (x b -ℤ x a) (λ p.
        let s = arc_le n gap x keeps a b ha hb (cell_arc (gap a b) (g a b) (on a b ha hb) p) in
        omega (arith, ints))

-- coordinates that are exact for one greatest flow are exact for any
pub exact_for_other : (s : Shape) → Lawful s → (gap : Arcs) → BetweenNames s (Arc gap) → (f g : Flow) → Greatest s gap f → Greatest s gap g → (c : Coordinates) → Obeys gap (drawn c) → Exact s gap f c → Exact s gap g c
exact_for_other s L gap between f g bf bg c obeys exact =
    tight_exact s gap g (λ dir h. (bg dir h).flow.on_arcs) c obeys (λ dir h.
    tight_for_other s.points (graph gap dir) (cells (f dir)) (cells (g dir)) (λ i. pos (c dir (suc i))) (obeys_keeps s.points gap (drawn c) obeys dir)
    (on_arcs_nodes s gap dir (g dir) (bg dir h).flow.on_arcs) (same_balance s L gap between dir h (f dir) (g dir) (bf dir h).flow (bg dir h).flow) (exact_tight s gap f c exact dir h)
    (more _ _ _ _ ((bg dir h).most (f dir) (bf dir h).flow) (volume_is_sum s gap dir (f dir)) (volume_is_sum s gap dir (g dir))))
  where
    more : (m k : ℕ) (x y : ℤ) → m ≤ k → x ≡ pos m → y ≡ pos k → x ≤ℤ y
    more m k x y h p q = omega (arith, ints)

pub greatest_flows_agree : GreatestFlowsAgree
greatest_flows_agree s L gap between f g bf bg c e lc le dir a n =
    omega (
      arith,
      lc.least e (le.holds.0, exact_for_other s L gap between g f bg bf e le.holds.0 le.holds.1) dir a n,
      le.least c (lc.holds.0, exact_for_other s L gap between f g bf bg c lc.holds.0 lc.holds.1) dir a n,
    )
