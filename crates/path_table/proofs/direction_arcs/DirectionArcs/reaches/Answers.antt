use Rattle.path_table.proofs.Keeping.{paths_held}
use Rattle.path_table.proofs.direction_arcs.DirectionArcs.reaches.Goals as goal

pub returns : goal.returns
returns c =
    let t = c.args.self.now in
    rw c.is_joined.ensures ((paths_held t.force t.paths t.tracks).told c.args.a c.args.b)
