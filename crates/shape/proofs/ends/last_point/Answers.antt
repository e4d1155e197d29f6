use Rattle.std.proofs.Common.{sym, subst}
use Rattle.shape.specs.Ends.{TellsEnd}
use Rattle.shape.proofs.Following.{no_side}
use Rattle.shape.proofs.ends.last_point.Goals as goal

pub returns-in-Err : goal.returns-in-Err
returns-in-Err g c =
    let s = g.S.ShapeSource.shape c.args.source.now in
    subst (TellsEnd s c.args.side c.args.point) (sym c.then_some.ensures)
    (no_side s (g.met.S.ShapeSource.lawful c.args.source.now) c.args.side c.args.point c.in-Err.ensures c.is_point.result c.is_point.ensures)
