use Rattle.std.proofs.Common.{rules}
use Rattle.constraints.proofs.Agreeing.{least_numbers}
use Rattle.constraints.proofs.least.least_over.Goals as goal

pub returns-in-Ok-true : goal.returns-in-Ok-true
returns-in-Ok-true g c =
    let p = g.G.ConstraintGraph in
    let s = c.args.graph.now in
    least_numbers (p.size s) (p.gaps s) (g.met.G.ConstraintGraph.bounds.at_most_128 s) (g.met.G.ConstraintGraph.bounds.gaps_within_100 s) c.longest_places.new.places _ (search rules) c.from_zero.result c.from_zero.ensures (c.longest_places.ensures.yes_gives_the_least_coordinates (search rules))
