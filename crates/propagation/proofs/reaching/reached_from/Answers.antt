use Rattle.std.proofs.Common.{rules}
use Rattle.propagation.proofs.Leading.{labels_mark_leads}
use Rattle.propagation.proofs.reaching.reached_from.Goals as goal

pub returns : goal.returns
returns g c =
    let p = g.G.ConstraintGraph in
    let s = c.args.graph.now in
    labels_mark_leads (p.size s) (p.gaps s) (g.met.G.ConstraintGraph.bounds.arcs_join_nodes s) c.args.from c.args.reached.now c.mark_heads.new.reached c.propagate.new.newest c.propagate.new.before _
    (search rules) (λ v h. c.mark_heads.ensures v (search rules)) (c.propagate.ensures.runs _ c.in_ok-propagate.was)
