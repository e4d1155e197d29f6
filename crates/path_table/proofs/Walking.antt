-- Walks over the nodes of a table are paths along its arcs. Assumes nothing.
use Rattle.std.proofs.Common.{◌≡◌, ℕ, zero, suc, ◌-◌, ◌<◌, T, List, [], ◌∷◌, ◌++◌, length, refl, ◌∙◌, arith, length-append}
use Rattle.std.specs.Bool.{passes}
use Rattle.std.proofs.ByRecursion.{All-append}
use Rattle.walks.specs.Nodes.{Arc, Walk, origin}
use Rattle.walks.proofs.Circuits.{origin_append, walk_append}
use Rattle.segments.specs.Shapes.{Within}
use Rattle.drawings.specs.Arcs.{one, more}
use Rattle.drawings.proofs.Reaching.{path_on}
use Rattle.propagation.specs.Subject.{Leads}
use Rattle.propagation.specs.Keeping.{table_bounds}
use Rattle.propagation.specs.Tables.{arc_gaps}
use Rattle.propagation.specs.declared.arc_table.ArcTable.{ArcTable}
use Rattle.path_table.specs.Changes.{Closed}
use Rattle.path_table.specs.Joined.{joined, PathsOf}
use Rattle.path_table.proofs.Names.{PathAlong, joined_within, path_within, tells_paths}

module _ (t : ArcTable) where
  walk_path : (j i : ℕ) (l : List ℕ) → Walk (Arc (arc_gaps t)) j (i ∷ l) → PathAlong t (suc (origin i l)) (suc j)
  walk_path j i [] w = one w.0
  walk_path j i (h ∷ l) w = path_on (walk_path i h l w.1) w.0

  pub leads_path : (i j : ℕ) → Leads t.nodes (arc_gaps t) i j → PathAlong t (suc i) (suc j)
  leads_path i j d = go d.walks.way d.walks.walk d.walks.from d.moves
    where
      go : (l : List ℕ) → Walk (Arc (arc_gaps t)) j l → origin j l ≡ i → 0 < length l → PathAlong t (suc i) (suc j)
      go [] w e m = absurd (omega arith)
      go (h ∷ l) w e m = rw (← e) (walk_path j h l w)

  -- an arc between names, over their nodes
  node_arc : (a b : ℕ) → T (joined t a b) → Arc (arc_gaps t) (a - 1) (b - 1)
  node_arc zero b h = absurd h
  node_arc (suc i) zero h = absurd h
  node_arc (suc i) (suc j) h =
      let ei : suc i - 1 ≡ i = omega arith in
      let ej : suc j - 1 ≡ j = omega arith in
      rw (ei, ej) h

  node_below : (a : ℕ) → Within t.nodes a → a - 1 < t.nodes
  node_below a w = omega (arith, w.0, w.1)

  nodes_lead : {a b : ℕ} → PathAlong t a b → Leads t.nodes (arc_gaps t) (a - 1) (b - 1)
  nodes_lead {a} {b} (one r) =
      record { walks = record { way = (a - 1) ∷ []; within = (node_below a (joined_within t a b r).0, tt); walk = (node_arc a b r, tt); from = refl }; moves = omega arith }
  nodes_lead {a} {b} (more {b = m} r p) =
      let q = (nodes_lead p).walks in
      let first = (a - 1) ∷ [] in
      record {
        walks = record {
          way = q.way ++ first;
          within = All-append (λ x. x < t.nodes) q.way first q.within (node_below a (joined_within t a m r).0, tt);
          walk = walk_append (Arc (arc_gaps t)) (b - 1) q.way first q.walk (rw q.from (node_arc a m r, tt));
          from = origin_append (b - 1) q.way first;
        };
        moves = (let e = length-append q.way first in omega arith);
      }

  pub path_leads : (i j : ℕ) → PathAlong t (suc i) (suc j) → Leads t.nodes (arc_gaps t) i j
  path_leads i j p =
      let ei : suc i - 1 ≡ i = omega arith in
      let ej : suc j - 1 ≡ j = omega arith in
      rw (ei, ej) at (nodes_lead p)

-- a table that was closed has the paths
pub closed_paths : (t before after : ArcTable) → before.nodes ≡ t.nodes → Closed t.nodes (arc_gaps t) before after → PathsOf t after
closed_paths t before after same closed =
    let stay = closed.nodes_stay in
    record {
      nodes = stay ∙ same;
      told = tells_paths after t (λ i j. (
        λ e. let n = table_bounds.arcs_join_nodes after i j (passes _ e) in leads_path t i j ((closed.walks i j (omega (arith, n.0)) (omega (arith, n.1)) (omega (arith, n.0)) (omega (arith, n.1))).0 e),
        λ p. let w = path_within t p in (closed.walks i j (omega (arith, w.0.1)) (omega (arith, w.1.1)) (omega (arith, w.0.1)) (omega (arith, w.1.1))).1 (path_leads t i j p),
      ));
    }
