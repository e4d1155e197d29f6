-- Lines performed on a board, and whole logs. Assumes nothing.
use Rattle.std.specs.Prelude.{List, ◌∷◌, map}
use Rattle.segments.specs.Shapes.{Shape}
use Rattle.logs.specs.Lines.{Line}
use Rattle.logs.specs.Answers.{Answer, Answers}
use Rattle.calls.specs.Meaning.{line_of, answer_of}
use Rattle.calls.specs.declared.line.Line.{Line as LineValue}
use Rattle.calls.specs.declared.answer.Answer.{Answer as AnswerValue}
use Rattle.board.specs.Boards.{gap_of, Stands}
use Rattle.board.specs.declared.board.Board.{Board}

abbrev pub lines_of : List LineValue → List Line
lines_of = map line_of

abbrev pub answers_of : List AnswerValue → List Answer
answers_of = map answer_of

-- whatever log the board stands for: the line is answered by what is in force, and the board then stands for the log with the line
abbrev pub Performs : Board → Line → Answer → Board → Type 0
Performs before line answer after =
    (s : Shape) (log : List Line) → Stands s log before → Answers s (gap_of before) line answer × Stands s (line ∷ log) after
