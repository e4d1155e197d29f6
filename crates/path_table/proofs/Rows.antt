-- A table of arcs that is written row by row. Assumes nothing.
use Rattle.std.proofs.Common.{◌≡◌, ℕ, ◌+◌, ◌<◌, is_some, Decides, ◌∙◌, inl, inr, arith}
use Rattle.std.proofs.lemmas.Bool.{cases_eq}
use Rattle.walks.specs.Nodes.{Gaps}
use Rattle.propagation.specs.Subject.{Leads}
use Rattle.propagation.specs.Tables.{arc_gaps}
use Rattle.propagation.specs.declared.arc_table.ArcTable.{ArcTable}
use Rattle.path_table.specs.Changes.{RowPut}

-- the walks from the nodes below k are written
pub record ClosedBelow (k n : ℕ) (gaps : Gaps) (before after : ArcTable) : Type 0 where
  pub nodes_stay : after.nodes ≡ before.nodes
  pub walks : (u v : ℕ) → u < k → u < before.nodes → v < before.nodes → v < n → Decides (is_some (arc_gaps after u v)) (Leads n gaps u v)

pub closed_more : (k n : ℕ) (gaps : Gaps) (t t' t'' : ArcTable) → ClosedBelow k n gaps t t' → RowPut t' t'' k n (λ v. Leads n gaps k v) → ClosedBelow (k + 1) n gaps t t''
closed_more k n gaps t t' t'' so_far row =
    record {
      nodes_stay = row.nodes_stay ∙ so_far.nodes_stay;
      walks = λ u v h p q l.
          let same = so_far.nodes_stay in
          elim (cases_eq u k) [
            | inl e ↦ rw e (row.row_is v (omega arith) (omega arith) l)
            | inr d ↦ rw (row.others_stay u v d) (so_far.walks u v (omega arith) p q l)
          ];
    }
