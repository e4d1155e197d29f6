-- The line of a log, and its answer, that a value of the code stands for. Assumes nothing.
use Rattle.std.specs.Prelude.{vec_items}
use Rattle.logs.specs.Lines as log
use Rattle.logs.specs.Answers as answer
use Rattle.calls.specs.declared.line.Line.{Line}
use Rattle.calls.specs.declared.line.Line.TheVariants.{Add, Strike, Arc, Apart, Draft, Lay}
use Rattle.calls.specs.declared.answer.Answer.{Answer}
use Rattle.calls.specs.declared.answer.Answer.TheVariants.{Done, Told, Paired, Drew, Refused}

abbrev pub line_of : Line → log.Line
line_of (Add arc) = log.add arc.direction arc.from arc.to
line_of (Strike arc) = log.strike arc.direction arc.from arc.to
line_of (Arc arc) = log.arc arc.direction arc.from arc.to
line_of (Apart r c) = log.apart r c
line_of (Draft n) = log.draft n
line_of (Lay n across up) = log.lay n (vec_items across) (vec_items up)

abbrev pub answer_of : Answer → answer.Answer
answer_of Done = answer.done
answer_of (Told t) = answer.told t
answer_of (Paired k) = answer.paired k
answer_of (Drew sum places) = answer.drew sum (vec_items places)
answer_of (Refused e) = answer.refused e
