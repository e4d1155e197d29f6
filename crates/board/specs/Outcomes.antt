-- The results of a board's calls as answers to lines. Assumes nothing.
use Rattle.std.specs.Prelude.{ℕ, Bool, List, Ok, Err, Result}
use Rattle.logs.specs.Answers.{Answer, done, told, paired, drew, refused}
use Rattle.logs.specs.declared.pairing.Pairing.{Pairing}
use Rattle.logs.specs.declared.refusal.Refusal.{Refusal}
use Rattle.logs.specs.declared.spot.Spot.{Spot}

abbrev pub of_change : Result (Unit {0}) Refusal → Answer
of_change (Ok u) = done
of_change (Err e) = refused e

abbrev pub of_question : Result Bool Refusal → Answer
of_question (Ok t) = told t
of_question (Err e) = refused e

abbrev pub of_pair : Result Pairing Refusal → Answer
of_pair (Ok k) = paired k
of_pair (Err e) = refused e

-- with what the points memory holds at the return
abbrev pub of_drawing : Result ℕ Refusal → List Spot → Answer
of_drawing (Ok sum) places = drew sum places
of_drawing (Err e) places = refused e
