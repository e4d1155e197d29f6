use Rattle.std.proofs.Common.{◌≡◌, length, vec_items, arith}
use Rattle.replaying.proofs.Replaying.{replayed_more, replayed_all}
use Rattle.replaying.proofs.replay.Goals as goal

pub loop-line-preserved : goal.loop-line-preserved
loop-line-preserved g c =
    replayed_more (g.S.ShapeSource.shape c.args.source.now) c.args.lines.now c.loop-line.line-index c.line-item.result c.loop-line-test.true c.line-item.is
    c.loop-line.board c.perform.new.board (vec_items c.loop-line.answers) (vec_items c.push.new.self) c.in_ok-answer.answer
    c.in_ok-push.ensures.items c.in_ok-answer.ensures c.loop-line.invariant

pub returns : goal.returns
returns g c =
    let all : c.loop-line.line-index ≡ length c.args.lines.now = omega arith in
    replayed_all (g.S.ShapeSource.shape c.args.source.now) c.args.lines.now c.loop-line.line-index c.loop-line.board (vec_items c.loop-line.answers)
    (g.met.S.ShapeSource.lawful c.args.source.now) all c.loop-line.invariant
