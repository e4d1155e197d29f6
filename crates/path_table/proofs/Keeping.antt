-- The paths that a direction keeps to, read back. Assumes nothing.
use Rattle.std.proofs.Common.{ℕ, zero, suc, Bool, true, Decides, inl, inr, arith}
use Rattle.std.proofs.Math.Bool.{Bool-discrete, Bool-set}
use Rattle.std.proofs.Math.Logic.{∥∥₁_elim, ∥∥₁_map}
use Rattle.std.proofs.Math.Nat.{ℕ_set}
use Rattle.std.proofs.lemmas.Bool.{cases_lt}
use Rattle.std.proofs.lemmas.Grind.{not_there}
use Rattle.std.specs.Bool.{passes}
use Rattle.drawings.proofs.Deciding.{dec_by}
use Rattle.propagation.specs.Keeping.{table_bounds}
use Rattle.propagation.specs.Tables.{arc_gaps}
use Rattle.propagation.specs.declared.arc_table.ArcTable.{ArcTable}
use Rattle.propagation.proofs.Leading.{true_by, rounds_decide_leads}
use Rattle.path_table.specs.Joined.{joined, PathsOf}
use Rattle.path_table.proofs.Names.{PathAlong, path_within}
use Rattle.path_table.proofs.Walking.{leads_path, path_leads}

path? : (t : ArcTable) (a b : ℕ) → Dec (PathAlong t a b)
path? t zero b = no (λ p. let w = (path_within t p).0 in omega (arith, w.0))
path? t (suc i) zero = no (λ p. let w = (path_within t p).1 in omega (arith, w.0))
path? t (suc i) (suc j) =
    elim (cases_lt j t.nodes) [
      | inl h ↦
          let d = rounds_decide_leads t.nodes (arc_gaps t) (table_bounds.arcs_join_nodes t) i j h in
          dec_by (λ e. leads_path t i j (d.0 (passes _ e))) (λ p. true_by _ (d.1 (path_leads t i j p))) (Bool-discrete _ true)
      | inr out ↦ no (λ p. let w = (path_within t p).1 in omega (arith, w.1))
    ]

decided : {P : Type 0} → Dec P → (t : Bool) → ∥ Decides t P ∥₁ → Decides t P
decided (yes p) t h = (λ _. p, λ _. ∥∥₁_elim h (Bool-set t true) (λ d. d.1 p))
decided (no n) t h = (λ e. absurd (not_there h (λ d. n (d.0 e))), λ p. absurd (n p))

pub paths_held : (force paths : ArcTable) → ∥ PathsOf force paths ∥₁ → PathsOf force paths
paths_held force paths h =
    record { nodes = ∥∥₁_elim h (ℕ_set paths.nodes force.nodes) (λ p. p.nodes); told = λ a b. decided (path? force a b) (joined paths a b) (∥∥₁_map h (λ p. p.told a b)) }
