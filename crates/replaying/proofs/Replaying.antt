-- A replay's answers, one line after the other, keep the whole promise. Assumes nothing.
use Rattle.std.proofs.Common.{◌≡◌, ℕ, ◌+◌, ◌<◌, List, [], ◌∷◌, ◌++◌, reverse, length, get_or, take, sym, ap, ◌∙◌, subst, below_more}
use Rattle.std.proofs.lemmas.List.{length-map, length_push, map_push, get_or-map, get_or_push, get_or_append_left, take_more, reverse-append}
use Rattle.segments.specs.Shapes.{Shape, Lawful}
use Rattle.logs.specs.Lines.{Line, draft}
use Rattle.logs.specs.Answers.{Answer, done, Answers, AnsweredAfter}
use Rattle.logs.specs.Promise.{KeepsItsPromise, log_before, line_at, answer_at}
use Rattle.logs.proofs.Promises.{answers_keep_the_promise}
use Rattle.calls.specs.Meaning.{line_of, answer_of}
use Rattle.calls.specs.declared.line.Line.{Line as LineValue}
use Rattle.calls.specs.declared.answer.Answer.{Answer as AnswerValue}
use Rattle.board.specs.Boards.{gap_of, Stands}
use Rattle.replaying.specs.Replaying.{lines_of, answers_of, Performs}
use Rattle.board.specs.declared.board.Board.{Board}

-- ---- one line
pub performs_as : (before : Board) {after after' : Board} {line line' : Line} {answer answer' : Answer} → after ≡ after' → line ≡ line' → answer ≡ answer'
    → ((s : Shape) (log : List Line) → Stands s log before → Answers s (gap_of before) line' answer')
    → ((s : Shape) (log : List Line) → Stands s log before → Stands s (line' ∷ log) after')
    → Performs before line answer after
performs_as before {after} {after'} {line} {line'} {answer} {answer'} d e f answered stood s log stands = (
  subst (λ l. Answers s (gap_of before) l answer) (sym e) (subst (Answers s (gap_of before) line') (sym f) (answered s log stands)),
  subst (λ b. Stands s (line ∷ log) b) (sym d) (subst (λ l. Stands s (l ∷ log) after') (sym e) (stood s log stands)),
)

-- ---- the lines so far
-- of the first k lines: as many answers, each by what the lines before it left in force, and the board stands for these lines
pub record Replayed (s : Shape) (lines : List LineValue) (k : ℕ) (b : Board) (answers : List AnswerValue) : Type 0 where
  pub as_many : length answers ≡ k
  pub stands : Stands s (log_before (lines_of lines) k) b
  pub answered : (j : ℕ) → j < k → AnsweredAfter s (log_before (lines_of lines) j) (line_at (lines_of lines) j) (answer_at (answers_of answers) j)

reverse_more : {X : Type 0} (xs : List X) (i : ℕ) (d : X) → i < length xs → reverse (take (i + 1) xs) ≡ get_or xs i d ∷ reverse (take i xs)
reverse_more xs i d h = ap reverse (take_more xs i d h) ∙ reverse-append (take i xs) (get_or xs i d ∷ [])

module _ (s : Shape) (lines : List LineValue) where
  module _ (k : ℕ) (line : LineValue) (low : k < length lines) (is : line ≡ get_or lines k line) where
    line_is : (d : Line) → get_or (lines_of lines) k d ≡ line_of line
    line_is d = get_or-map line_of lines k line d low ∙ ap line_of (sym is)

    log_is : log_before (lines_of lines) (k + 1) ≡ line_of line ∷ log_before (lines_of lines) k
    log_is =
        let l : k < length (lines_of lines) = subst (λ n. k < n) (sym (length-map lines line_of)) low in
        reverse_more (lines_of lines) k (draft 0) l ∙ ap (λ (x : Line). x ∷ log_before (lines_of lines) k) (line_is (draft 0))

    module _ (answers more : List AnswerValue) (answer : AnswerValue) (long : length answers ≡ k) (pushed : more ≡ answers ++ (answer ∷ [])) where
      map_more_is : answers_of more ≡ answers_of answers ++ (answer_of answer ∷ [])
      map_more_is = ap answers_of pushed ∙ map_push answer_of answers answer

      long_map : length (answers_of answers) ≡ k
      long_map = length-map answers answer_of ∙ long

      earlier : (j : ℕ) → j < k → answer_at (answers_of more) j ≡ answer_at (answers_of answers) j
      earlier j h = ap (λ (l : List Answer). get_or l j done) map_more_is ∙ get_or_append_left (answers_of answers) (answer_of answer ∷ []) done j (subst (λ n. j < n) (sym long_map) h)

      newest : answer_at (answers_of more) k ≡ answer_of answer
      newest = ap (λ (l : List Answer). get_or l k done) map_more_is ∙ get_or_push (answers_of answers) (answer_of answer) done k long_map

    pub replayed_more : (b after : Board) (answers more : List AnswerValue) (answer : AnswerValue) → more ≡ answers ++ (answer ∷ []) → Performs b (line_of line) (answer_of answer) after → Replayed s lines k b answers → Replayed s lines (k + 1) after more
    replayed_more b after answers more answer pushed performed so_far =
        let done_now = performed s (log_before (lines_of lines) k) so_far.stands in
        record {
          as_many = ap length pushed ∙ length_push answers answer ∙ ap (λ (n : ℕ). n + 1) so_far.as_many;
          stands = subst (λ log. Stands s log after) (sym log_is) done_now.1;
          answered =
              below_more (λ (j : ℕ). AnsweredAfter s (log_before (lines_of lines) j) (line_at (lines_of lines) j) (answer_at (answers_of more) j)) k
              (λ j h. subst (AnsweredAfter s (log_before (lines_of lines) j) (line_at (lines_of lines) j)) (sym (earlier answers more answer so_far.as_many pushed j h)) (so_far.answered j h)) (
                gap_of b,
                so_far.stands.force,
                subst (λ x. Answers s (gap_of b) x (answer_at (answers_of more) k)) (sym (line_is (draft 0)))
                    (subst (Answers s (gap_of b) (line_of line)) (sym (newest answers more answer so_far.as_many pushed)) done_now.0),
              );
        }

  pub replayed_all : (k : ℕ) (b : Board) (answers : List AnswerValue) → Lawful s → k ≡ length lines → Replayed s lines k b answers → KeepsItsPromise s (lines_of lines) (answers_of answers)
  replayed_all k b answers L all so_far =
      answers_keep_the_promise s L (lines_of lines) (answers_of answers)
      (length-map answers answer_of ∙ so_far.as_many ∙ all ∙ sym (length-map lines line_of))
      (λ j h. so_far.answered j (subst (λ n. j < n) (length-map lines line_of ∙ sym all) h))
