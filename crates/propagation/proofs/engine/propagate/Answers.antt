use Rattle.std.proofs.Common.{true, false, rules}
use Rattle.std.proofs.lemmas.Slice.Eq.{slice_eq-Decides}
use Rattle.propagation.proofs.Running.{reached_more, ran_settled, ran_all, propagated}
use Rattle.propagation.proofs.engine.propagate.Goals as goal

pub loop-earlier-preserved : goal.loop-earlier-preserved
loop-earlier-preserved g c =
    let p = g.G.ConstraintGraph in
    reached_more g.L.Label.meaning (p.size c.args.graph.now) (p.gaps c.args.graph.now) c.args.newest.now c.loop-earlier._earlier
    c.copy_from_slice.new.self c.round.new.new c.loop-earlier.invariant c.copy_from_slice.ensures.after (search rules) (search rules) c.round.ensures
    c.eq.result (slice_eq-Decides g.met.L.Label.equal_is_same _ _ c.eq.result c.eq.ensures) c.if-eq.false

pub returns-then-eq : goal.returns-then-eq
returns-then-eq g c =
    let p = g.G.ConstraintGraph in
    let m = g.L.Label.meaning in
    let n = p.size c.args.graph.now in
    let gaps = p.gaps c.args.graph.now in
    let start = c.args.newest.now in
    propagated m n gaps start c.args.before.now true (search rules) (search rules)
    (ran_settled m n gaps start c.loop-earlier._earlier c.copy_from_slice.new.self c.round.new.new c.loop-earlier.invariant c.copy_from_slice.ensures.after (search rules) (search rules) c.round.ensures
    c.eq.result (slice_eq-Decides g.met.L.Label.equal_is_same _ _ c.eq.result c.eq.ensures) g.met.L.Label.lawful (search rules) c.if-eq.true)

pub returns : goal.returns
returns g c =
    let p = g.G.ConstraintGraph in
    let m = g.L.Label.meaning in
    let n = p.size c.args.graph.now in
    let gaps = p.gaps c.args.graph.now in
    let start = c.args.newest.now in
    propagated m n gaps start c.args.before.now false (search rules) (search rules)
    (ran_all m n gaps start g.met.L.Label.lawful c.loop-earlier._earlier (search rules) (g.met.G.ConstraintGraph.bounds.one_or_more c.args.graph.now) (search rules) c.loop-earlier.invariant)
