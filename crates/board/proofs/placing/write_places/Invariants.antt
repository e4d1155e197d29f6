use Rattle.std.proofs.Common.{◌≡◌, ℕ, ◌+◌, ◌<◌, get_or}
use Rattle.logs.specs.Answers.{nowhere}
use Rattle.board.specs.Placing.{placed_at}
use Rattle.board.proofs.placing.write_places.Given as goal

abbrev pub invariant-loop-index : goal.invariant-loop-index
invariant-loop-index l =
    (k : ℕ) → k < l.index → get_or l.points k nowhere ≡ record { x = placed_at l.segments l.coordinates 0 (k + 1); y = placed_at l.segments l.coordinates 1 (k + 1) }
