-- What draft and lay compute over the arcs in force, and what their checks amount to. Assumes nothing.
use Rattle.std.proofs.Common.{◌≡◌, ℕ, zero, suc, ◌-◌, ◌*◌, ◌<◌, ◌≤◌, List, length, get_or, ℤ, pos, Ok, Err, Result, sym, ap, ◌∙◌, subst, inl, inr, arith, MatchResult}
use native.Mathlib.Decide.{ℕ_discrete}
use Rattle.walks.specs.Nodes.{Gaps}
use Rattle.walks.specs.Places.{Least, GainingCircuit}
use Rattle.walks.specs.Flows.{layer}
use Rattle.segments.specs.Shapes.{Shape, Lawful, Point}
use Rattle.segments.specs.Segments.{segment}
use Rattle.drawings.specs.Arcs.{Arcs, Arc, BetweenNames, Circle, Contradictory, NoneOpen}
use Rattle.drawings.specs.Drawings.{Draws, Obeys}
use Rattle.drawings.specs.Flows.{OnArcs, Balanced, FlowOver, GreatestAlong, Flows, Coordinates, drawn, Draft, Lay}
use Rattle.drawings.specs.Graphs.{graph, cells}
use Rattle.drawings.proofs.Coordinates.{layers}
use Rattle.drawings.proofs.Leasts.{least_draft, least_lay, least_greatest, circuit_not_greatest}
use Rattle.drawings.proofs.Listing.{each_direction}
use Rattle.drawings.proofs.Obeying.{obeying_is_simple}
use Rattle.drawings.proofs.Reaching.{circuit_path}
use Rattle.propagation.specs.Layers.{cell}
use Rattle.propagation.specs.Tables.{arc_gaps}
use Rattle.propagation.specs.declared.arc_table.ArcTable.{ArcTable}
use Rattle.propagation.proofs.Pushing.{least_same}
use Rattle.shape.specs.Sources.{of_copy}
use Rattle.logs.specs.Lines.{Line, cell_of, flow_of}
use Rattle.logs.specs.Refusing.{PointsFit, CellsFit, MemoryFits, NoneOff, Off, RefusesLay, off_arcs, out_of_balance}
use Rattle.logs.specs.Answers.{HandsOut}
use Rattle.logs.specs.declared.refusal.Refusal.{Refusal}
use Rattle.logs.specs.declared.spot.Spot.{Spot}
use Rattle.logs.proofs.Stepping.{gap_own}
use Rattle.board.specs.Boards.{arcs_of, gap_of, Stands}
use Rattle.board.specs.Cells.{flow_in, Laid as FlowLaid}
use Rattle.board.specs.declared.board.flows.Flow.{Flow}
use Rattle.drawings.specs.Flows.{Flow as FlowOf}
use Rattle.board.specs.Flows.{OffAlong, BalancedOrLowest, FlowRefused}
use Rattle.board.specs.Measuring.{spot_along, span_sum}
use Rattle.shape.specs.declared.by_direction.ByDirection.{ByDirection}
use Rattle.board.specs.Placing.{coordinate_in}
use Rattle.board.specs.declared.board.Board.{Board}
use Rattle.board.proofs.CellSums.{node_cells}
use Rattle.board.proofs.Lengths.{sum_is_total}
use Rattle.board.proofs.Standing.{graph_is, shape_lawful, between_names}

-- ---- coordinates in two tables
-- those of a direction, over the nodes
pub least_both : (n : ℕ) (G : ℕ → Gaps) (pair : ByDirection (List ℕ)) → Least n (G 0) (λ v. pos (get_or pair.across v 0)) → Least n (G 1) (λ v. pos (get_or pair.up v 0)) → (dir : ℕ) → dir ≤ 1 → Least n (G dir) (λ i. pos (coordinate_in pair dir (suc i)))
least_both n G pair lx ly =
    each_direction (λ dir. Least n (G dir) (λ i. pos (coordinate_in pair dir (suc i))))
    (least_same n (G 0) (λ v. pos (get_or pair.across v 0)) _ (λ v h. ap (λ (k : ℕ). pos (get_or pair.across k 0)) (less_one v)) lx)
    (least_same n (G 1) (λ v. pos (get_or pair.up v 0)) _ (λ v h. ap (λ (k : ℕ). pos (get_or pair.up k 0)) (less_one v)) ly)
  where
    less_one : (i : ℕ) → suc i - 1 ≡ i
    less_one i = omega arith

-- only direction 0 comes before direction 1
pub before_up : (P : ℕ → Type 0) → P 0 → (d : ℕ) → d < 1 → P d
before_up P p zero h = p
before_up P p (suc d) h = absurd (omega arith)

module _ (s : Shape) (log : List Line) (b : Board) (stands : Stands s log b) where
  L : Lawful s
  L = shape_lawful s log b stands

  between : BetweenNames s (Arc (gap_of b))
  between = between_names s log b stands

  -- ---- what is computed over the arcs of a direction, lent as a table
  pub along_graph : (dir : ℕ) → dir ≤ 1 → (t : ArcTable) → t ≡ (arcs_of b dir).force → (P : ℕ → Gaps → Type 0) → P t.nodes (arc_gaps t) → P s.points (graph (gap_of b) dir)
  along_graph dir h t lent P p =
      let nodes : t.nodes ≡ s.points = ap (λ (x : ArcTable). x.nodes) lent ∙ stands.nodes dir h in
      let gaps : arc_gaps t ≡ graph (gap_of b) dir = ap arc_gaps lent ∙ sym (graph_is b dir h) in
      subst (P s.points) gaps (subst (λ (n : ℕ). P n (arc_gaps t)) nodes p)

  -- and over the flow layer
  pub along_layer : (dir : ℕ) → dir ≤ 1 → (t : ArcTable) → t ≡ (arcs_of b dir).force → (list : List ℕ) (P : ℕ → Gaps → Type 0) → P t.nodes (layer (arc_gaps t) (cell t.nodes list)) → P s.points (layer (graph (gap_of b) dir) (cells (cell_of s.points list)))
  along_layer dir h t lent list P p =
      subst (λ (f : ℕ → ℕ → ℕ). P s.points (layer (graph (gap_of b) dir) f)) (sym (node_cells s.points list)) (along_graph dir h t lent (λ n G. P n (layer G (cell n list))) p)

  pub circuit_circle : (dir : ℕ) → dir ≤ 1 → GainingCircuit s.points (graph (gap_of b) dir) → Circle (Arc (gap_of b))
  circuit_circle dir h k = let p = circuit_path (gap_of b) dir s.points k in (dir, p.0, h, p.1)

  pub circuit_less : (dir : ℕ) → dir ≤ 1 → (f : ℕ → ℕ → ℕ) → FlowOver s (gap_of b) dir f → GainingCircuit s.points (layer (graph (gap_of b) dir) (cells f)) → ¬ GreatestAlong s (gap_of b) dir f
  circuit_less dir h f flow = circuit_not_greatest s L (gap_of b) between dir h f flow

  -- ---- what is handed out
  pub hands_out : (c : Coordinates) → Draws s (drawn c) → (places : List Spot) → length places ≡ s.points → ((dir v : ℕ) → dir ≤ 1 → Point s v → spot_along places dir v ≡ c dir (segment s dir v)) → (sum : ℕ) → sum ≡ span_sum (of_copy b.shape) places (length places) → HandsOut s c sum places
  hands_out c draws places long placed sum is =
      record {
        one_for_each = long;
        each_x = λ v p. placed 0 v (omega arith) p;
        each_y = λ v p. placed 1 v (omega arith) p;
        sum_of_wires = ap pos (is ∙ ap (λ (t : Shape). span_sum t places (length places)) stands.shape) ∙ sum_is_total s L c draws places placed (length places) long;
      }

  module _ (OpenNone : NoneOpen s (Arc (gap_of b))) where
    pub obeys_draws : (c : Coordinates) → Obeys (gap_of b) (drawn c) → Draws s (drawn c)
    obeys_draws c obeys = (obeying_is_simple s L (gap_of b) (gap_own s log (gap_of b) stands.force) OpenNone (drawn c) obeys).draws

  -- ---- draft
  pub drafted : (pair : ByDirection (List ℕ)) → Least s.points (graph (gap_of b) 0) (λ v. pos (get_or pair.across v 0)) → Least s.points (graph (gap_of b) 1) (λ v. pos (get_or pair.up v 0)) → Draft s (gap_of b) (coordinate_in pair)
  drafted pair lx ly = least_draft s (gap_of b) between (coordinate_in pair) (least_both s.points (graph (gap_of b)) pair lx ly)

  -- ---- the memories of lay
  pub memory_fits : (n k : ℕ) (across up : List ℕ) → PointsFit s n → k ≡ s.points → (length across ≡ k * k) × (length up ≡ k * k) → MemoryFits s n across up
  memory_fits n k across up fit e long = (fit.1, long.0 ∙ ap (λ (i : ℕ). i * i) e, long.1 ∙ ap (λ (i : ℕ). i * i) e)

  -- a flow laid over the board has memories of the right sizes, and says of them what it says of its own
  pub laid_fits : (n : ℕ) (xs ys : List ℕ) (f : Flow) → FlowLaid b xs ys f → PointsFit s n → MemoryFits s n xs ys
  laid_fits n xs ys f over fit =
      let points : f.board.now.segments.points ≡ s.points = ap (λ (t : Board). t.segments.points) over.board ∙ stands.segments.points in
      memory_fits n f.board.now.segments.points xs ys fit points (sym (ap length over.across) ∙ f.across_fits, sym (ap length over.up) ∙ f.up_fits)

  pub laid_says : (xs ys : List ℕ) (f : Flow) → FlowLaid b xs ys f → (P : Arcs → FlowOf → Type 0) → (Stands s log f.board.now → P (gap_of f.board.now) (flow_in s f)) → P (gap_of b) (flow_of s xs ys)
  laid_says xs ys f over P says =
      subst (λ (list : List ℕ). P (gap_of b) (flow_of s xs list)) over.up
      (subst (λ (list : List ℕ). P (gap_of b) (flow_of s list f.cells.up.now)) over.across
      (subst (λ (t : Board). P (gap_of t) (flow_in s f)) over.board (says (subst (Stands s log) (sym over.board) stands))))

  pub cells_unfit : (k : ℕ) (across up : List ℕ) → k ≡ s.points → ¬ ((length across ≡ k * k) × (length up ≡ k * k)) → ¬ (CellsFit s across × CellsFit s up)
  cells_unfit k across up e n fit = n (fit.0 ∙ sym (ap (λ (i : ℕ). i * i) e), fit.1 ∙ sym (ap (λ (i : ℕ). i * i) e))

  -- ---- the flow of lay
  module _ (across up : List ℕ) where
    pub none_off : ((u v : ℕ) → Point s u → Point s v → ¬ OffAlong (gap_of b) 0 (cell_of s.points across) u v) → ((u v : ℕ) → Point s u → Point s v → ¬ OffAlong (gap_of b) 1 (cell_of s.points up) u v) → NoneOff s (gap_of b) (flow_of s across up)
    none_off x y dir u v h = each_direction (λ dir. Point s u → Point s v → ¬ Off (gap_of b) (flow_of s across up) dir u v) (x u v) (y u v) dir h

    on_arcs : (dir : ℕ) → ((u v : ℕ) → Point s u → Point s v → ¬ Off (gap_of b) (flow_of s across up) dir u v) → OnArcs s (gap_of b) dir (flow_of s across up dir)
    on_arcs dir none u v pu pv e =
        elim (ℕ_discrete (flow_of s across up dir u v) 0) [ yes z ↦ z | no d ↦ absurd (none u v pu pv (d, λ a. omega arith)) ]

    pub flow_over : (dir : ℕ) → ((u v : ℕ) → Point s u → Point s v → ¬ Off (gap_of b) (flow_of s across up) dir u v) → Balanced s dir (flow_of s across up dir) → FlowOver s (gap_of b) dir (flow_of s across up dir)
    flow_over dir none balanced = record { balanced = balanced; on_arcs = on_arcs dir none }

    -- the last of its checks, balance up, after all others have passed
    pub flow_checked : ((u v : ℕ) → Point s u → Point s v → ¬ OffAlong (gap_of b) 0 (cell_of s.points across) u v) → ((u v : ℕ) → Point s u → Point s v → ¬ OffAlong (gap_of b) 1 (cell_of s.points up) u v) → Balanced s 0 (cell_of s.points across) → (r : Result (Unit {0}) Refusal) → BalancedOrLowest s 1 (cell_of s.points up) r → MatchResult r (λ _. Flows s (gap_of b) (flow_of s across up)) (FlowRefused s (gap_of b) (flow_of s across up))
    flow_checked x y bx (Ok u) by = each_direction (λ dir. FlowOver s (gap_of b) dir (flow_of s across up dir)) (flow_over 0 x bx) (flow_over 1 y by)
    flow_checked x y bx (Err e) o = inr (none_off x y, (1, o.0, o.1, record { segment = o.2; unbalanced = o.3; first_direction = before_up (λ d. Balanced s d (flow_of s across up d)) bx; lowest = o.4 }))

    pub laid : Flows s (gap_of b) (flow_of s across up) → (pair : ByDirection (List ℕ)) → Least s.points (layer (graph (gap_of b) 0) (cells (cell_of s.points across))) (λ v. pos (get_or pair.across v 0)) → Least s.points (layer (graph (gap_of b) 1) (cells (cell_of s.points up))) (λ v. pos (get_or pair.up v 0)) → Lay s (gap_of b) (flow_of s across up) (coordinate_in pair)
    laid flows pair lx ly =
        least_lay s (gap_of b) between (flow_of s across up) (λ dir h. (flows dir h).on_arcs) (coordinate_in pair) (least_both s.points (layers (gap_of b) (flow_of s across up)) pair lx ly)

    pub greatest_along : (dir : ℕ) → dir ≤ 1 → FlowOver s (gap_of b) dir (flow_of s across up dir) → (x : ℕ → ℤ) → Least s.points (layer (graph (gap_of b) dir) (cells (flow_of s across up dir))) x → GreatestAlong s (gap_of b) dir (flow_of s across up dir)
    greatest_along dir h flow x least = least_greatest s L (gap_of b) between dir h (flow_of s across up dir) flow x least.keeps

-- ---- a flow that is refused
pub flow_refused : (s : Shape) (gap : Arcs) (n : ℕ) (across up : List ℕ) → ¬ Contradictory s → MemoryFits s n across up → NoneOpen s (Arc gap) → (e : Refusal) → FlowRefused s gap (flow_of s across up) e → RefusesLay s gap n across up e
flow_refused s gap n across up fine fits none e (inl o) = subst (RefusesLay s gap n across up) (sym o.3) (off_arcs fine fits none o.0 o.1 o.2 o.4)
flow_refused s gap n across up fine fits none e (inr o) = subst (RefusesLay s gap n across up) (sym o.1.2) (out_of_balance fine fits none o.0 o.1.0 o.1.1 o.1.3)

-- least coordinates with exact steps, over the same cells under another name
pub least_of : (s : Shape) (gap : Arcs) (dir : ℕ) (held list xs : List ℕ) → held ≡ list → (FlowOver s gap dir (cell_of s.points held) → Least s.points (layer (graph gap dir) (cells (cell_of s.points held))) (λ v. pos (get_or xs v 0))) → FlowOver s gap dir (cell_of s.points list) → Least s.points (layer (graph gap dir) (cells (cell_of s.points list))) (λ v. pos (get_or xs v 0))
least_of s gap dir held list xs same = subst (λ (l : List ℕ). FlowOver s gap dir (cell_of s.points l) → Least s.points (layer (graph gap dir) (cells (cell_of s.points l))) (λ v. pos (get_or xs v 0))) same
