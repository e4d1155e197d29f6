use Rattle.std.proofs.Common.{rules}
use Rattle.propagation.proofs.Pushing.{longest}
use Rattle.propagation.proofs.longest.longest_places.Goals as goal

pub returns : goal.returns
returns g c =
    let p = g.G.ConstraintGraph in
    let s = c.args.graph.now in
    let bounds = g.met.G.ConstraintGraph.bounds in
    longest (p.size s) (p.gaps s) (bounds.at_most_128 s) (bounds.gaps_within_100 s) c.start_at_zero.new.places (search rules)
    c.args.places.now _ c.propagate.new.newest c.propagate.new.before c.propagate.result (search rules) (search rules) (search rules) c.propagate.ensures
