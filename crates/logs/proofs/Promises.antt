-- Answers by the rules keep the whole promise. Assumes nothing.
use Rattle.std.proofs.Common.{◌≡◌, ℕ, ◌*◌, ◌<◌, List, length, inl, inr}
use Rattle.segments.specs.Shapes.{Shape, Lawful}
use Rattle.drawings.specs.Arcs.{Arcs}
use Rattle.logs.specs.Lines.{Line, add, strike, arc, apart, draft, lay}
use Rattle.logs.specs.Refusing.{RefusesArc, RefusesAdd, RefusesStrike, RefusesPair, RefusesDraft, RefusesLay}
use Rattle.logs.specs.Answers.{Answer, refused, Judged, Answers, Accepts, AnsweredExactly, AnsweredAfter}
use Rattle.logs.specs.declared.refusal.Refusal.{Refusal}
use Rattle.logs.specs.Promise.{log_before, line_at, answer_at, KeepsItsPromise, AnswersKeepThePromise}
use Rattle.logs.proofs.Keeping.{judged, RightAdd, RightStrike, RightArc, RightPair, RightDraft, RightLay, moment}
use Rattle.logs.proofs.Reaching.{reachable}
use Rattle.logs.proofs.Stepping.{arc_never_both, pair_never_both, add_never_both, strike_never_both, draft_never_both, lay_never_both}

pub answers_keep_the_promise : (s : Shape) → Lawful s → (lines : List Line) (answers : List Answer) → length answers ≡ length lines → ((k : ℕ) → k < length lines → AnsweredAfter s (log_before lines k) (line_at lines k) (answer_at answers k)) → KeepsItsPromise s lines answers
answers_keep_the_promise s L lines answers long by =
    record {
      one_answer_for_each_line = long;
      at_each_line = λ k h. moment s L _ _ _ (by k h);
      every_simple_drawing_can_be_reached = reachable s L;
    }

pub one_answer_each : (n : ℕ) → n ≡ 1 → AnswersKeepThePromise n
one_answer_each n e s L lines answers long = answers_keep_the_promise s L lines answers (once n (length answers) (length lines) e long)
  where
    once : (n a l : ℕ) → n ≡ 1 → a ≡ n * l → a ≡ l
    once n a l e h = rw (e, native.Mathlib.Nat.one-mul) at h

-- ---- a right answer is a refusal exactly where the line is not accepted
refused_only : (s : Shape) (gap : Arcs) (line : Line) (e : Refusal) → Answers s gap line (refused e) → ¬ Accepts s gap line
refused_only s gap (add dir a b) e r = add_never_both s gap dir a b e r
refused_only s gap (strike dir a b) e r = strike_never_both s gap dir a b e r
refused_only s gap (arc dir a b) e r = arc_never_both s dir a b e r
refused_only s gap (apart r c) e x = pair_never_both s r c e x
refused_only s gap (draft n) e r = draft_never_both s gap n e r
refused_only s gap (lay n across up) e r = lay_never_both s gap n across up e r

-- what is not refused is right
right : (Right : Answer → Type 0) (Refuses : Refusal → Type 0) (answer : Answer) → Judged Right Refuses answer → ((e : Refusal) → ¬ (answer ≡ refused e)) → Right answer
right R F answer j n = elim (judged R F answer j) [ inl r ↦ r | inr r ↦ absurd (n r.0 r.1) ]

accepted_only : (s : Shape) (gap : Arcs) (line : Line) (answer : Answer) → Answers s gap line answer → ((e : Refusal) → ¬ (answer ≡ refused e)) → Accepts s gap line
accepted_only s gap (add dir a b) answer j n = (right (RightAdd s gap dir a b) (RefusesAdd s gap dir a b) answer j n).1
accepted_only s gap (strike dir a b) answer j n = (right (RightStrike s gap dir a b) (RefusesStrike s gap dir a b) answer j n).1
accepted_only s gap (arc dir a b) answer j n = let r = right (RightArc s gap dir a b) (RefusesArc s dir a b) answer j n in (r.2, r.3)
accepted_only s gap (apart x y) answer j n = let r = right (RightPair s gap x y) (RefusesPair s x y) answer j n in (r.2, r.3)
accepted_only s gap (draft m) answer j n = (right (RightDraft s gap m) (RefusesDraft s gap m) answer j n).4
accepted_only s gap (lay m across up) answer j n = (right (RightLay s gap m across up) (RefusesLay s gap m across up) answer j n).4

pub answered_exactly : AnsweredExactly
answered_exactly = record { refused_only = refused_only; accepted_only = accepted_only }
