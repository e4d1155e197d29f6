use Rattle.std.proofs.Common.{◌≢◌, Some, ap, ◌∙◌, arith, rules}
use borrow.Author.Differences.{ints}
use Rattle.propagation.specs.Layers.{cell}
use Rattle.propagation.proofs.Bounding.{gap_inside, gap_within}
use Rattle.propagation.proofs.Layering.{leads_back}
use Rattle.propagation.proofs.flow_layer.FlowLayerConstraintGraph.gap.Goals as goal

pub overflow_sub-result : goal.overflow_sub-result
overflow_sub-result g c =
    let within = gap_within g.met.G.ConstraintGraph.bounds c.args.self.now.below.now c.args.to c.args.from c.in_ok-back.back c.in_ok-back.ensures in
    let low = within.0 in
    let high = within.1 in
    search (rules, ints)

pub returns : goal.returns
returns g c =
    let p = g.G.ConstraintGraph in
    let l = c.args.self.now in
    let arc = c.in_ok-back.ensures in
    let inside = gap_inside g.met.G.ConstraintGraph.bounds l.below.now c.args.to c.args.from c.in_ok-back.back arc in
    let within = gap_within g.met.G.ConstraintGraph.bounds l.below.now c.args.to c.args.from c.in_ok-back.back arc in
    let low = within.0 in
    let high = within.1 in
    let is = c.cell.ensures.nodes inside.0 inside.1 in
    let flow : cell (p.size l.below.now) l.cells.now c.args.to c.args.from ≢ 0 = search (rules, is) in
    ap Some (omega (arith, ints)) ∙ leads_back (p.gaps l.below.now c.args.from c.args.to) (p.gaps l.below.now c.args.to c.args.from) _ c.in_ok-back.back (search rules) flow arc
