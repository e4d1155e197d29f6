use Rattle.segment_table.proofs.Counting.{recorded}
use Rattle.segment_table.proofs.table.SegmentTable.of.Goals as goal

pub returns : goal.returns
returns g c = recorded (g.S.ShapeSource.shape c.args.source.now) _ c.points.ensures c.entries_along.ensures c.entries_along-2.ensures
