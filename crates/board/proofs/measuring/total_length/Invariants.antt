use Rattle.std.proofs.Common.{◌≡◌, ◌*◌, ◌≤◌}
use Rattle.board.specs.Measuring.{span_sum}
use Rattle.board.proofs.measuring.total_length.Given as goal

abbrev pub invariant-loop-index : goal.invariant-loop-index
invariant-loop-index g l = (l.total ≡ span_sum (g.S.ShapeSource.shape l.source) l.points l.index) × (l.total ≤ 131070 * l.index)
