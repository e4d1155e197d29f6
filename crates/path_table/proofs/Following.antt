-- The paths follow an arc that comes into force. Assumes nothing.
use Rattle.std.proofs.Common.{◌≡◌, ℕ, zero, suc, ◌<◌, T, ◌⊎◌, sym, refl, ap, ◌∙◌, inl, inr, arith}
use Rattle.std.specs.Bool.{passes}
use Rattle.walks.specs.Nodes.{Arc}
use Rattle.drawings.specs.Arcs.{Path, one, more, IsOrReaches}
use Rattle.drawings.proofs.Carrying.{path_parts}
use Rattle.drawings.proofs.Climbing.{path_map}
use Rattle.drawings.proofs.Reaching.{path_on, path_join}
use Rattle.propagation.specs.Tables.{arc_gaps}
use Rattle.propagation.specs.declared.arc_table.ArcTable.{ArcTable}
use Rattle.propagation.proofs.Leading.{true_by}
use Rattle.path_table.specs.Changes.{Widened}
use Rattle.path_table.specs.Joined.{joined, PathsOf}
use Rattle.path_table.proofs.Names.{PathAlong, path_within, tells_paths}

through : {S : ℕ → ℕ → Type 0} {x a b y : ℕ} → IsOrReaches S x a → S a b → IsOrReaches S b y → Path S x y
through (inl e) r (inl f) = rw (e, ← f) (one r)
through (inl e) r (inr q) = rw e (more r q)
through (inr p) r (inl f) = rw (← f) (path_on p r)
through (inr p) r (inr q) = path_join p (more r q)

-- The arc p→q, of nodes, comes to the arcs in force; to the paths come those from p, and what leads to it, to q, and what it leads to.
module _ (force force' paths paths' : ArcTable) (p q : ℕ) (in_p : p < force.nodes) (in_q : q < force.nodes) (was : PathsOf force paths) (arcs : Widened force force' (λ u v. (u ≡ p) × (v ≡ q))) (ways : Widened paths paths' (λ u v. ((u ≡ p) ⊎ Arc (arc_gaps paths) u p) × ((q ≡ v) ⊎ Arc (arc_gaps paths) q v))) where
  stays : (x y : ℕ) → T (joined force x y) → T (joined force' x y)
  stays zero y r = r
  stays (suc i) zero r = r
  stays (suc i) (suc j) r = arcs.arcs_stay i j r

  split : (x y : ℕ) → T (joined force' x y) → T (joined force x y) ⊎ ((suc p ≡ x) × (suc q ≡ y))
  split zero y r = inl r
  split (suc i) zero r = inl r
  split (suc i) (suc j) r = elim (arcs.no_others i j r) [ inl o ↦ inl o | inr e ↦ inr (ap suc (sym e.0), ap suc (sym e.1)) ]

  comes : T (joined force' (suc p) (suc q))
  comes = arcs.arcs_come p q in_p in_q (refl, refl)

  way_path : (i j : ℕ) → Arc (arc_gaps paths) i j → PathAlong force' (suc i) (suc j)
  way_path i j r = path_map stays ((was.told (suc i) (suc j)).0 (true_by _ r))

  path_way : (i j : ℕ) → PathAlong force (suc i) (suc j) → Arc (arc_gaps paths) i j
  path_way i j k = passes _ ((was.told (suc i) (suc j)).1 k)

  way_tells : (i j : ℕ) → Arc (arc_gaps paths') i j → PathAlong force' (suc i) (suc j)
  way_tells i j r =
      elim (ways.no_others i j r) [
        | inl o ↦ way_path i j o
        | inr w ↦ through {S = λ x y. T (joined force' x y)}
            (elim w.0 [ inl e ↦ inl (ap suc e) | inr o ↦ inr (way_path i p o) ])
            comes
            (elim w.1 [ inl e ↦ inl (ap suc e) | inr o ↦ inr (way_path q j o) ])
      ]

  path_told : (i j : ℕ) → PathAlong force' (suc i) (suc j) → Arc (arc_gaps paths') i j
  path_told i j k =
      let w = path_within force' k in
      let stay = arcs.nodes_stay in
      elim (path_parts (λ x y. T (joined force x y)) (λ x y. T (joined force' x y)) (suc p) (suc q) split k) [
        | inl o ↦ ways.arcs_stay i j (path_way i j o)
        | inr m ↦ ways.arcs_come i j (omega (arith, w.0.1)) (omega (arith, w.1.1)) (
          elim m.0 [ inl e ↦ inl (let f : i ≡ p = omega arith in f) | inr o ↦ inr (path_way i p o) ],
          elim m.1 [ inl e ↦ inl (let f : q ≡ j = omega arith in f) | inr o ↦ inr (path_way q j o) ],
        )
      ]

  pub paths_follow : PathsOf force' paths'
  paths_follow =
      record {
        nodes = ways.nodes_stay ∙ was.nodes ∙ sym arcs.nodes_stay;
        told = tells_paths paths' force' (λ i j. (λ e. way_tells i j (passes _ e), λ k. true_by _ (path_told i j k)));
      }
