-- Every simple drawing has a log of its arcs, and such a log a greatest flow that fits in bytes. Assumes nothing.
use Rattle.std.proofs.Common.{◌≡◌, ℕ, zero, suc, ◌+◌, ◌-◌, ◌*◌, ◌/◌, ◌%◌, ◌<◌, ◌≤◌, ◌⊎◌, List, map, length, pos, ◌-ℤ◌, sym, refl, ap, ◌∙◌, subst, ap₂, inl, inr, mod-lt, div-lt_iff_lt-mul, arith}
use lib.Arith.{digits_lt, digits_div, digits_mod}
use Rattle.std.specs.List.{range_with_len}
use Rattle.std.proofs.lemmas.List.FromFn.{length-map-range_with_len, get_or-map-range_with_len}
use Rattle.std.proofs.lemmas.List.{get_or_past}
use Rattle.std.proofs.lemmas.Bool.{cases_lt}
use Rattle.walks.proofs.Folds.{sum_same}
use Rattle.segments.specs.Shapes.{Shape, Lawful, Point, Within}
use Rattle.drawings.specs.Arcs.{Arcs, Arc, Circle}
use Rattle.drawings.specs.Drawings.{Drawing, SimpleDrawing}
use Rattle.drawings.specs.Flows.{Flow, incoming, outgoing, flow_sum, GreatestAlong, Greatest}
use Rattle.drawings.proofs.Climbing.{circle_map}
use Rattle.drawings.proofs.Listing.{each_direction}
use Rattle.drawings.proofs.Nodes.{node_point}
use Rattle.drawings.proofs.Sizes.{cells_within}
use Rattle.drawings.proofs.Units.{greatest_flow_exists}
use Rattle.logs.specs.Lines.{Line, cell_of, flow_of}
use Rattle.logs.specs.Force.{InForce, OneStepEach}
use Rattle.logs.specs.Promise.{Bytes, ArcsOf, Reachable}
use Rattle.logs.proofs.Stepping.{arc_in_force, gap_named, gap_own}
use Rattle.logs.proofs.Giving.{given, given_no_circle, all_in_force}
use Rattle.logs.proofs.Listing.{gives?, log_of, log_arcs}

-- ---- a flow that agrees with a greatest one at every two points is greatest
module _ (s : Shape) (gap : Arcs) (dir : ℕ) (f g : ℕ → ℕ → ℕ) (same : (a b : ℕ) → Point s a → Point s b → f a b ≡ g a b) where
  same_in : (a : ℕ) → Point s a → incoming s f a ≡ incoming s g a
  same_in a p = sum_same s.points _ _ (λ i hi. same (suc i) a (node_point s i hi) p)

  same_out : (a : ℕ) → Point s a → outgoing s f a ≡ outgoing s g a
  same_out a p = sum_same s.points _ _ (λ i hi. same a (suc i) p (node_point s i hi))

  same_flow_sum : flow_sum s gap dir f ≡ flow_sum s gap dir g
  same_flow_sum = sum_same s.points _ _ (λ i hi. sum_same s.points _ _ (λ j hj. ap (λ (t : ℕ). t * gap dir (suc i) (suc j)) (same (suc i) (suc j) (node_point s i hi) (node_point s j hj))))

  pub same_greatest : GreatestAlong s gap dir f → GreatestAlong s gap dir g
  same_greatest best =
      record {
        flow = record {
          balanced = λ a n. ap₂ (λ (x y : ℕ). pos x -ℤ pos y) (sym (same_in a n.1)) (sym (same_out a n.1)) ∙ best.flow.balanced a n;
          on_arcs = λ a b pa pb z. sym (same a b pa pb) ∙ best.flow.on_arcs a b pa pb z;
        };
        most = λ h over. let m = best.most h over in let e = same_flow_sum in omega arith;
      }

-- ---- a flow of one direction, written into n × n cells
module _ (n : ℕ) (f : ℕ → ℕ → ℕ) where
  abbrev at_cell : ℕ → ℕ
  at_cell k = f (k / n + 1) (k % n + 1)

  abbrev pub written : List ℕ
  written = map at_cell (range_with_len 0 (n * n))

  pub written_long : length written ≡ n * n
  written_long = length-map-range_with_len at_cell 0 (n * n)

  pub written_is : (a b : ℕ) → Within n a → Within n b → cell_of n written a b ≡ f a b
  written_is a b pa pb =
      let ha : a - 1 < n = omega (arith, pa.0, pa.1) in
      let hb : b - 1 < n = omega (arith, pb.0, pb.1) in
      get_or-map-range_with_len at_cell 0 (n * n) ((a - 1) * n + (b - 1)) ((a - 1) * n + (b - 1)) 0 (digits_lt ha hb) (omega arith) ∙ ap₂ f (next pa.0 (digits_div (a - 1) hb)) (next pb.0 (digits_mod (a - 1) hb))
    where
      next : {x y : ℕ} → 1 ≤ y → x ≡ y - 1 → x + 1 ≡ y
      next h e = omega arith

  pub written_bytes : ((i j : ℕ) → i < n → j < n → f (suc i) (suc j) ≤ 127) → Bytes written
  written_bytes low k =
      elim (cases_lt k (n * n)) [
        | inl h ↦ (let e = get_or-map-range_with_len at_cell 0 (n * n) k k 0 h (omega arith) in let m = small h in omega arith)
        | inr h ↦ (let e = get_or_past written k 0 (let l = written_long in omega arith) in omega arith)
      ]
    where
      some : (m : ℕ) → k < m * m → 0 < m
      some zero h = absurd (omega arith)
      some (suc m) h = omega arith

      small : k < n * n → f (k / n + 1) (k % n + 1) ≤ 127
      small h =
          let p = some n h in
          let e : suc (k / n) ≡ k / n + 1 = omega arith in
          let d : suc (k % n) ≡ k % n + 1 = omega arith in
          subst (λ (t : ℕ). f t (k % n + 1) ≤ 127) e (subst (λ (t : ℕ). f (suc (k / n)) t ≤ 127) d (low (k / n) (k % n) ((div-lt_iff_lt-mul p).1 h) (mod-lt k p)))

-- ---- the gaps of the arcs that a drawing gives
abbrev mark : {P : Type 0} → Dec P → ℕ
mark (yes p) = 1
mark (no n) = 0

marked : {P : Type 0} (d : Dec P) → (P × (mark d ≡ 1)) ⊎ ((¬ P) × (mark d ≡ 0))
marked (yes p) = inl (p, refl)
marked (no n) = inr (n, refl)

module _ (s : Shape) (L : Lawful s) (e : Drawing) (simple : SimpleDrawing s e) where
  abbrev given_gap : Arcs
  given_gap dir a b = mark (gives? s e dir a b)

  given_steps : (log : List Line) → ArcsOf s e log → OneStepEach (InForce s log) given_gap
  given_steps log w dir a b =
      elim (marked (gives? s e dir a b)) [
        | inl r ↦ inl (all_in_force s L e simple.draws log w dir a b r.0, r.1)
        | inr r ↦ inr ((λ q. r.0 (given s L e simple.draws log w.only dir a b q)), r.1)
      ]

  pub reached : (log : List Line) → ArcsOf s e log → Reachable s e
  reached log w =
      let gap = given_gap in
      let steps = given_steps log w in
      let between = gap_named s log gap steps L in
      let clear : ¬ Circle (Arc gap) = λ k. given_no_circle s L e simple.draws log w.only (circle_map (Arc gap) (InForce s log) (λ dir a b. (arc_in_force s log gap steps dir a b).0) k) in
      let best = greatest_flow_exists s L gap between (gap_own s log gap steps) clear in
      let n = s.points in
      let f = best.0 in
      let low : (dir : ℕ) → dir ≤ 1 → (i j : ℕ) → i < n → j < n → f dir (suc i) (suc j) ≤ 127 = λ dir h i j hi hj. cells_within n 127 (omega (arith, L.few)) s L refl gap between clear dir h (f dir) (best.1 dir h).flow (suc i) (suc j) (node_point s i hi) (node_point s j hj) in
      record {
        log = log;
        arcs = w;
        across = written n (f 0);
        up = written n (f 1);
        fits = (refl, written_long n (f 0), written_long n (f 1));
        bytes = (written_bytes n (f 0) (low 0 (omega arith)), written_bytes n (f 1) (low 1 (omega arith)));
        greatest = (gap, steps, all_greatest gap f best.1);
      }
    where
      agrees : (f : ℕ → ℕ → ℕ) (a b : ℕ) → Point s a → Point s b → f a b ≡ cell_of s.points (written s.points f) a b
      agrees f a b pa pb = sym (written_is s.points f a b pa pb)

      all_greatest : (gap : Arcs) (f : Flow) → Greatest s gap f → Greatest s gap (flow_of s (written s.points (f 0)) (written s.points (f 1)))
      all_greatest gap f best =
          each_direction (λ dir. GreatestAlong s gap dir (flow_of s (written s.points (f 0)) (written s.points (f 1)) dir))
          (same_greatest s gap 0 (f 0) _ (agrees (f 0)) (best 0 (omega arith)))
          (same_greatest s gap 1 (f 1) _ (agrees (f 1)) (best 1 (omega arith)))

pub reachable : (s : Shape) → Lawful s → (e : Drawing) → SimpleDrawing s e → Reachable s e
reachable s L e simple = reached s L e simple (log_of s e) (log_arcs s e)
