-- Arcs that come to a table. Assumes nothing.
use Rattle.std.proofs.Common.{◌≡◌, ℕ, ◌<◌, Bool, true, false, List, get_or, Decides, pos, Some, inl, inr, arith}
use native.Mathlib.Decide.{ℕ_discrete}
use Rattle.drawings.proofs.Deciding.{dec_and}
use Rattle.walks.specs.Nodes.{Arc}
use Rattle.propagation.specs.Keeping.{table_bounds}
use Rattle.propagation.specs.Tables.{arc_gaps, Put}
use Rattle.propagation.specs.declared.arc_table.ArcTable.{ArcTable}
use Rattle.path_table.specs.Changes.{Widened}

pub put_widened : (t t' : ArcTable) (p q : ℕ) → Put t t' p q (Some (pos 1)) → Widened t t' (λ u v. (u ≡ p) × (v ≡ q))
put_widened t t' p q put =
    record {
      nodes_stay = put.nodes_stay;
      arcs_stay = λ u v r. elim (pair? u v) [
        | yes e ↦ (let n = table_bounds.arcs_join_nodes t u v r in there u v n.0 n.1 e)
        | no d ↦ rw (put.others_stay u v d) r
      ];
      arcs_come = there;
      no_others = λ u v r. elim (pair? u v) [ yes e ↦ inr e | no d ↦ inl (rw (put.others_stay u v d) at r) ];
    }
  where
    pair? : (u v : ℕ) → Dec ((u ≡ p) × (v ≡ q))
    pair? u v = dec_and (ℕ_discrete u p) (ℕ_discrete v q)

    there : (u v : ℕ) → u < t.nodes → v < t.nodes → (u ≡ p) × (v ≡ q) → Arc (arc_gaps t') u v
    there u v hu hv e = rw (e.0, e.1, put.gap_is_put (omega (arith, e.0)) (omega (arith, e.1))) tt

-- what comes, by what the marks of its beginning and of its end tell
pub widened_as : (t t' : ArcTable) {P Q : ℕ → Type 0} (before beyond : List Bool) → ((u : ℕ) → u < 128 → Decides (get_or before u false) (P u)) → ((v : ℕ) → v < 128 → Decides (get_or beyond v false) (Q v)) → Widened t t' (λ u v. (get_or before u false ≡ true) × (get_or beyond v false ≡ true)) → Widened t t' (λ u v. P u × Q v)
widened_as t t' before beyond leading led w =
    let few = t.at_most_128 in
    record {
      nodes_stay = w.nodes_stay;
      arcs_stay = w.arcs_stay;
      arcs_come = λ u v hu hv x. w.arcs_come u v hu hv ((leading u (omega arith)).1 x.0, (led v (omega arith)).1 x.1);
      no_others = λ u v r.
          let stay = w.nodes_stay in
          let n = table_bounds.arcs_join_nodes t' u v r in
          elim (w.no_others u v r) [ inl o ↦ inl o | inr x ↦ inr ((leading u (omega (arith, n.0))).0 x.0, (led v (omega (arith, n.1))).0 x.1) ];
    }
