use Rattle.std.proofs.Common.{take}
use Rattle.std.specs.Fmt.{IsPlainFormatter, HasWritten}
use Rattle.std.specs.List.{flat_map}
use Rattle.calls.specs.Texts.{place_text}
use Rattle.calls.proofs.answer.AnswerDisplay.fmt.Given as goal

-- the places so far are written
abbrev pub invariant-loop-x : goal.invariant-loop-x
invariant-loop-x g l = IsPlainFormatter l.initial.f → HasWritten g.W.Write.write_str_gives l.initial.f (flat_map place_text (take l.x-index l.x-items)) l.f
