use Rattle.std.proofs.Common.{vec_items}
use Rattle.replaying.proofs.Replaying.{Replayed}
use Rattle.replaying.proofs.replay.Given as goal

abbrev pub invariant-loop-line : goal.invariant-loop-line
invariant-loop-line g l = Replayed (g.S.ShapeSource.shape l.source) l.lines l.line-index l.board (vec_items l.answers)
