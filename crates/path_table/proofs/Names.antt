-- Names of segments and nodes of a table: arcs, paths and tests. Assumes nothing.
use Rattle.std.proofs.Common.{ℕ, zero, suc, ◌≤◌, T, is_some, Decides, arith}
use Rattle.std.proofs.lemmas.Bool.{false≢true}
use Rattle.segments.specs.Shapes.{Within}
use Rattle.drawings.specs.Arcs.{Path, one, more}
use Rattle.propagation.specs.Keeping.{table_bounds}
use Rattle.propagation.specs.Tables.{arc_gaps}
use Rattle.propagation.specs.declared.arc_table.ArcTable.{ArcTable}
use Rattle.path_table.specs.Joined.{joined}

-- a path along the table's arcs leads from a to b
abbrev pub PathAlong : ArcTable → ℕ → ℕ → Type 0
PathAlong t a b = Path (λ x y. T (joined t x y)) a b

module _ (t : ArcTable) where
  -- arcs join segments, and so do paths
  pub joined_within : (a b : ℕ) → T (joined t a b) → Within t.nodes a × Within t.nodes b
  joined_within zero b h = absurd h
  joined_within (suc i) zero h = absurd h
  joined_within (suc i) (suc j) h = let n = table_bounds.arcs_join_nodes t i j h in ((omega arith, omega (arith, n.0)), (omega arith, omega (arith, n.1)))

  pub path_within : {a b : ℕ} → PathAlong t a b → Within t.nodes a × Within t.nodes b
  path_within {a} {b} (one r) = joined_within a b r
  path_within {a} (more {b = m} r p) = ((joined_within a m r).0, (path_within p).1)

module _ (t : ArcTable) where
  -- what a table tells between nodes, it tells of names, if it is of names, which are from 1
  pub tells_names : (P : ℕ → ℕ → Type 0) → ((a b : ℕ) → P a b → (1 ≤ a) × (1 ≤ b)) → ((i j : ℕ) → Decides (is_some (arc_gaps t i j)) (P (suc i) (suc j))) → (a b : ℕ) → Decides (joined t a b) (P a b)
  tells_names P names each zero b = (λ e. absurd (false≢true e), λ p. absurd (let n = names zero b p in omega (arith, n.0)))
  tells_names P names each (suc i) zero = (λ e. absurd (false≢true e), λ p. absurd (let n = names (suc i) zero p in omega (arith, n.1)))
  tells_names P names each (suc i) (suc j) = each i j

  pub tells_paths : (force : ArcTable) → ((i j : ℕ) → Decides (is_some (arc_gaps t i j)) (PathAlong force (suc i) (suc j))) → (a b : ℕ) → Decides (joined t a b) (PathAlong force a b)
  tells_paths force = tells_names (PathAlong force) (λ a b p. let w = path_within force p in (w.0.0, w.1.0))
