-- The first cell above 0 off the arcs in force. Assumes nothing.
use Rattle.std.proofs.Common.{ℕ, ◌<◌, ◌≤◌, Some, None, Option, MatchOption, sym, ◌∙◌, subst, inl, inr, arith}
use Rattle.segments.specs.Shapes.{Within}
use Rattle.shape.specs.declared.ends.Arc.{Arc}
use Rattle.board.specs.Cells.{points_in, OffCell, OffFrom, OffFirst}
use Rattle.board.specs.declared.board.flows.Flow.{Flow}

-- the first of the arcs from the first point that has one
pub off_first : (f : Flow) (dir : ℕ) (o : Option Arc) → MatchOption o ((x : ℕ) → Within (points_in f) x → OffFrom f dir x None) (λ r. (x : ℕ) × Within (points_in f) x × OffFrom f dir x (Some r) × ((u : ℕ) → 1 ≤ u → u < x → OffFrom f dir u None)) → OffFirst f dir o
off_first f dir None none = λ a b ha hb. none a ha b hb
off_first f dir (Some r) first =
    let e = first.2.0 in (
      subst (Within (points_in f)) (sym e) first.1,
      first.2.1,
      subst (λ (z : ℕ). OffCell f dir z r.to) (sym e) first.2.2,
      λ u v hu hv before. elim before [
        | inl l ↦ first.3 u hu.0 (omega (arith, l, e)) v hv
        | inr k ↦ λ off. first.2.3 v hv.0 k.1 (subst (λ (z : ℕ). OffCell f dir z v) (k.0 ∙ e) off)
      ],
    )
