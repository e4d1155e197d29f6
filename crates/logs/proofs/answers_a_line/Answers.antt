use Rattle.std.proofs.Common.{refl}
use Rattle.logs.proofs.answers_a_line.Goals as goal
use Rattle.logs.proofs.Promises.{answered_exactly, one_answer_each}

pub returns : goal.returns
returns c = record { exactly = answered_exactly; promise = one_answer_each 1 refl }
