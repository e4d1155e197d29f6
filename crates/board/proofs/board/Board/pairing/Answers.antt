use Rattle.std.proofs.lemmas.Bool.Decides.{not_from_Decides}
use Rattle.drawings.specs.Arcs.{Arc, Path}
use Rattle.board.specs.Boards.{gap_of}
use Rattle.board.proofs.Pairing.{no_way}
use Rattle.board.proofs.board.Board.pairing.Goals as goal
use Rattle.board.proofs.board.Board.pairing.Goals.{then-ends_before-via-then-ends_before, then-ends_before-via-else-ends_before+then-begins_beyond, then-ends_before-via-else-ends_before+else-begins_beyond+then-begins_beyond-2, then-ends_before-via-else-ends_before+else-begins_beyond+else-begins_beyond-2+then-ends_before-2}

pub returns-then-touch : goal.returns-then-touch
returns-then-touch c s log stands row column = (c.touch.ensures s stands.segments).0 c.if-touch.true

pub returns-then-ends_before : goal.returns-then-ends_before
returns-then-ends_before c s log stands row column = (
  not_from_Decides _ (c.touch.ensures s stands.segments) c.if-touch.false,
  elim c.then-ends_before.branch [
    | then-ends_before-via-then-ends_before w ↦ (1, (c.ends_before.ensures s log stands row).0 w.if-ends_before.true)
    | then-ends_before-via-else-ends_before+then-begins_beyond w ↦ (2, (w.begins_beyond.ensures s log stands row).0 w.if-begins_beyond.true)
    | then-ends_before-via-else-ends_before+else-begins_beyond+then-begins_beyond-2 w ↦ (3, (w.begins_beyond-else-begins_beyond.ensures s log stands column).0 w.if-begins_beyond-2.true)
    | then-ends_before-via-else-ends_before+else-begins_beyond+else-begins_beyond-2+then-ends_before-2 w ↦ (4, (w.ends_before-else-begins_beyond-2.ensures s log stands column).0 w.if-ends_before-2.true)
  ],
)

pub returns : goal.returns
returns c s log stands row column = (
  row,
  column,
  not_from_Decides _ (c.touch.ensures s stands.segments) c.if-touch.false,
  λ a. no_way s (λ dir. Path (Arc (gap_of c.args.self.now) dir)) c.args.row c.args.column
      (not_from_Decides _ (c.ends_before.ensures s log stands row) c.if-ends_before.false)
      (not_from_Decides _ (c.begins_beyond.ensures s log stands row) c.if-begins_beyond.false)
      (not_from_Decides _ (c.begins_beyond-else-begins_beyond.ensures s log stands column) c.if-begins_beyond-2.false)
      (not_from_Decides _ (c.ends_before-else-begins_beyond-2.ensures s log stands column) c.if-ends_before-2.false)
      a.1,
)
