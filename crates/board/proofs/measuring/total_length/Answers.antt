use Rattle.std.proofs.Common.{arith}
use Rattle.board.proofs.Lengths.{span_more}
use Rattle.board.proofs.measuring.total_length.Goals as goal

pub loop-index-preserved : goal.loop-index-preserved
loop-index-preserved g c = (
  span_more (g.S.ShapeSource.shape c.args.source.now) c.args.points.now c.loop-index.index c.loop-index.total c.wire_length-total.result c.wire_length-total-in-loop-index.result
      c.loop-index.invariant.0 c.wire_length-total.ensures.span c.wire_length-total-in-loop-index.ensures.span,
  omega (arith, c.loop-index.invariant.1, c.wire_length-total.ensures.small, c.wire_length-total-in-loop-index.ensures.small),
)
