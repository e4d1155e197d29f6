use Rattle.std.proofs.Common.{◌≡◌, ◌+◌, arith}
use Rattle.std.proofs.lemmas.Bool.Decides.{not_from_Decides}
use Rattle.logs.specs.declared.refusal.Refusal.TheVariants.{OpenPair}
use Rattle.board.specs.Boards.{gap_of}
use Rattle.board.proofs.Pairing.{column_passed, row_passed, row_ended, all_passed, lowest}
use Rattle.board.proofs.board.Board.check_pairs.Goals as goal
use Rattle.board.proofs.board.Board.check_pairs.Goals.{else-rows-test, then-rows-test+then-loop-column-test+then-is_open, then-rows-test+else-row-points, else-loop-column-test, then-loop-column-test+else-is_open+else-column-points}

pub loop-column-preserved : goal.loop-column-preserved
loop-column-preserved c = (
  λ s log stands. column_passed s (gap_of c.args.self.now) c.rows.row c.loop-column.column (c.loop-column.invariant.0 s log stands) (not_from_Decides _ (c.is_open.ensures s log stands) c.if-is_open.false),
  c.loop-column.invariant.1,
)

pub rows-preserved : goal.rows-preserved
rows-preserved c = (
  λ s log stands.
      let same = stands.segments.points in
      let before = c.loop-column.invariant.0 s log stands in
      elim c.loop-column-test.branch [
        | else-loop-column-test w ↦ row_passed s (gap_of c.args.self.now) c.rows.row c.loop-column.column (omega arith) before
        | then-loop-column-test+else-is_open+else-column-points w ↦
            row_ended s (gap_of c.args.self.now) c.rows.row c.loop-column.column (omega arith) before (not_from_Decides _ (w.is_open.ensures s log stands) w.if-is_open.false)
      ],
  c.loop-column.invariant.1,
)

pub returns-in-Some : goal.returns-in-Some
returns-in-Some c s log stands =
    elim c.rows-test.branch [
      | else-rows-test w ↦ absurd cc
      | then-rows-test+then-loop-column-test+then-is_open w ↦
          let e : c.in-Some.refusal ≡ OpenPair c.rows.row w.loop-column.column = cc in
          (c.rows.row, w.loop-column.column, e, lowest s (gap_of c.args.self.now) c.rows.row w.loop-column.column (w.loop-column.invariant.0 s log stands) ((w.is_open.ensures s log stands).0 w.if-is_open.true))
      | then-rows-test+else-row-points w ↦ absurd cc
    ]

pub returns-in-None : goal.returns-in-None
returns-in-None c s log stands =
    let same = stands.segments.points in
    elim c.rows-test.branch [
      | else-rows-test w ↦ all_passed s (gap_of c.args.self.now) c.rows.row 1 (omega arith) (c.rows.invariant.0 s log stands)
      | then-rows-test+then-loop-column-test+then-is_open w ↦ absurd cc
      | then-rows-test+else-row-points w ↦
          let before = w.loop-column.invariant.0 s log stands in
          all_passed s (gap_of c.args.self.now) (c.rows.row + 1) 1 (omega arith)
          (elim w.loop-column-test.branch [
            | else-loop-column-test w' ↦ row_passed s (gap_of c.args.self.now) c.rows.row w.loop-column.column (omega arith) before
            | then-loop-column-test+else-is_open+else-column-points w' ↦
                row_ended s (gap_of c.args.self.now) c.rows.row w.loop-column.column (omega arith) before (not_from_Decides _ (w'.is_open.ensures s log stands) w'.if-is_open.false)
          ])
    ]
