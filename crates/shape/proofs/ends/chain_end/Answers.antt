use Rattle.std.proofs.Common.{◌∙◌, rules}
use Rattle.shape.proofs.Following.{told_point, told_ahead, told_last, told_end}
use Rattle.shape.specs.Directions.{side_number}
use Rattle.shape.proofs.ends.chain_end.Goals as goal

pub loop-next-smaller : goal.loop-next-smaller
loop-next-smaller g c =
    told_ahead (g.S.ShapeSource.shape c.args.source.now) (g.met.S.ShapeSource.lawful c.args.source.now) (side_number c.args.side) c.loop-next.at c.loop-next.invariant.0 c.in-Some.next c.in-Some.ensures

pub loop-next-preserved : goal.loop-next-preserved
loop-next-preserved g c =
    let s = g.S.ShapeSource.shape c.args.source.now in
    let L = g.met.S.ShapeSource.lawful c.args.source.now in (
      told_point s L (side_number c.args.side) c.loop-next.at c.loop-next.invariant.0 c.in-Some.next c.in-Some.ensures,
      told_last s L (side_number c.args.side) c.loop-next.at c.loop-next.invariant.0 c.in-Some.next c.in-Some.ensures ∙ c.loop-next.invariant.1,
    )

pub returns : goal.returns
returns g c =
    let s = g.S.ShapeSource.shape c.args.source.now in
    told_end s (g.met.S.ShapeSource.lawful c.args.source.now) (side_number c.args.side) c.loop-next.at c.loop-next.invariant.0 c.args.point (search rules) c.in_default.ensures c.loop-next.invariant.1
