-- What the bounds of a graph say of an arc. Assumes nothing.
use Rattle.std.proofs.Common.{◌≡◌, ℕ, ◌<◌, ℤ, Some, sym}
use Rattle.walks.specs.Nodes.{Gaps}
use Rattle.walks.proofs.Longest.{gap_arc}
use Rattle.propagation.specs.Graphs.{Within, Bounds}

module _ {S : Type 0} {size : S → ℕ} {gaps : S → Gaps} (bounds : Bounds size gaps) (s : S) (a b : ℕ) (g : ℤ) (arc : Some g ≡ gaps s a b) where
  pub gap_inside : (a < size s) × (b < size s)
  gap_inside = bounds.arcs_join_nodes s a b (gap_arc (gaps s a b) g (sym arc)).0

  pub gap_within : Within 100 g
  gap_within = bounds.gaps_within_100 s a b g gap_inside.0 gap_inside.1 (sym arc)
