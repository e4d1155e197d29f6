use Rattle.std.proofs.Common.{arith}
use Rattle.segments.proofs.Forward.{unwired_lawful}
use Rattle.shape.specs.Tables.{of_links}
use Rattle.shape.specs.Keeping.{empty_next}
use Rattle.shape.proofs.neighbours.Neighbours.unjoined.Goals as goal

pub invariant_of-result : goal.invariant_of-result
invariant_of-result c =
    let l = c.unjoined.result in
    let points = c.unjoined.ensures.points in
    record { lawful = ∣ unwired_lawful (of_links l) (omega (arith, c.args.points.some)) (omega (arith, c.args.points.few)) (empty_next l c.unjoined.ensures.cells) ∣₁ }
