use Rattle.std.proofs.Common.{◌≡◌, ◌+◌, ◌∙◌, inl, inr, rules}
use Rattle.shape.specs.Directions.{direction_number}
use Rattle.shape.specs.Formats.{written}
use Rattle.shape.proofs.Firsts.{none_entered, entered, all_entered}
use Rattle.shape.proofs.record.Numbers.firsts.Goals as goal
use Rattle.shape.proofs.record.Numbers.firsts.Goals.{then-firsts-next-eq0, else-firsts-next-eq0}

pub loop-point-init : goal.loop-point-init
loop-point-init c = none_entered c.args.self.now.points.count (written c.args.self.now.bytes.now (direction_number c.args.direction))

pub loop-point-preserved : goal.loop-point-preserved
loop-point-preserved c =
    let number = written c.args.self.now.bytes.now (direction_number c.args.direction) in
    let here : c.from-next.result ≡ number c.loop-point.point = c.from-next.ensures ∙ c.number.ensures in
    let more = entered c.args.self.now.points.count number c.loop-point.point c.loop-point.firsts (c.loop-point.auto.point, c.loop-point-test.true) c.loop-point.invariant c.from-next.result here (search rules) in
    elim c.if-firsts-next-eq0.branch [
      | then-firsts-next-eq0 w ↦ more c.if-firsts-next-eq0.firsts (inl (w.if-firsts-next-eq0.true, w.firsts-is))
      | else-firsts-next-eq0 w ↦ more c.if-firsts-next-eq0.firsts (inr (w.if-firsts-next-eq0.false, w.firsts-is))
    ]

pub returns : goal.returns
returns c =
    all_entered c.args.self.now.points.count (written c.args.self.now.bytes.now (direction_number c.args.direction)) c.loop-point.point c.loop-point.firsts c.loop-point-test.false c.loop-point.invariant

pub returns-after-firsts-next-eq0 : goal.returns-after-firsts-next-eq0
returns-after-firsts-next-eq0 c =
    let n = c.args.self.now.points.count in
    let number = written c.args.self.now.bytes.now (direction_number c.args.direction) in
    let here : c.from-next.result ≡ number c.loop-point.point = c.from-next.ensures ∙ c.number.ensures in
    let more = entered n number c.loop-point.point c.loop-point.firsts (c.loop-point.auto.point, c.loop-point-test.true) c.loop-point.invariant c.from-next.result here (search rules) in
    let all = all_entered n number (c.loop-point.point + 1) c.if-firsts-next-eq0.firsts (search rules) in
    elim c.if-firsts-next-eq0.branch [
      | then-firsts-next-eq0 w ↦ all (more c.if-firsts-next-eq0.firsts (inl (w.if-firsts-next-eq0.true, w.firsts-is)))
      | else-firsts-next-eq0 w ↦ all (more c.if-firsts-next-eq0.firsts (inr (w.if-firsts-next-eq0.false, w.firsts-is)))
    ]
