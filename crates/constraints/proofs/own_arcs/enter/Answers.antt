use Rattle.std.proofs.Common.{arith}
use Rattle.constraints.proofs.Entering.{entered_more}
use Rattle.constraints.proofs.own_arcs.enter.Goals as goal

pub returns-in-Some-clause-enters : goal.returns-in-Some-clause-enters
returns-in-Some-clause-enters g c =
    let told = c.in-Some.ensures in
    let from = told.1.1 in
    let to = told.2.1 in
    rw (← c.from.ensures) (entered_more _ c.from.result c.args.point _ _ told.3 told.4 from.0 to.0 told.5 _ _ (c.set.ensures.gap_is_put (omega (arith, c.requires, from)) (omega (arith, c.requires, to))) c.set.ensures.others_stay)
