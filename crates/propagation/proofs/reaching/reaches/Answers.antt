use Rattle.std.proofs.Common.{rules}
use Rattle.propagation.proofs.Leading.{nothing_leads_outside}
use Rattle.propagation.proofs.reaching.reaches.Goals as goal

pub returns-then-to-nodes : goal.returns-then-to-nodes
returns-then-to-nodes g c =
    let p = g.G.ConstraintGraph in
    let s = c.args.graph.now in
    nothing_leads_outside (p.size s) (p.gaps s) (g.met.G.ConstraintGraph.bounds.arcs_join_nodes s) c.args.from c.args.to (search rules)

pub returns-then-is_ok : goal.returns-then-is_ok
returns-then-is_ok g c = c.reached_from.ensures.marks_what_is_led_to (search rules) c.args.to
