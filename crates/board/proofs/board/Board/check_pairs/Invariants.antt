use Rattle.std.proofs.Common.{◌≡◌, List, None}
use Rattle.segments.specs.Shapes.{Shape}
use Rattle.logs.specs.Lines.{Line}
use Rattle.board.specs.Boards.{gap_of, Stands}
use Rattle.board.proofs.Pairing.{NoneBefore}
use Rattle.board.proofs.board.Board.check_pairs.Given as goal

abbrev pub invariant-loop-column : goal.invariant-loop-column
invariant-loop-column l = ((s : Shape) (log : List Line) → Stands s log l.self → NoneBefore s (gap_of l.self) l.row l.column) × (l.found ≡ None)

abbrev pub invariant-rows : goal.invariant-rows
invariant-rows l = ((s : Shape) (log : List Line) → Stands s log l.self → NoneBefore s (gap_of l.self) l.row 1) × (l.found ≡ None)
