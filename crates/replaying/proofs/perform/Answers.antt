use Rattle.std.proofs.Common.{rules, sym, ap, ◌∙◌, length}
use Rattle.std.proofs.lemmas.List.{with_items_is}
use Rattle.logs.specs.Lines.{draft}
use Rattle.calls.specs.Meaning.{line_of}
use Rattle.replaying.proofs.Replaying.{performs_as}
use Rattle.replaying.proofs.perform.Goals as goal
use Rattle.replaying.proofs.perform.Goals.{in-Add, in-Strike, in-Arc, in-Apart, in-Draft+in_ok-places-in-Draft, in-Lay+in_ok-places-in-Lay}

pub returns : goal.returns
returns c = elim c.match-line.branch [
  | in-Add w ↦ performs_as c.args.board.now w.board-is (ap line_of w.in-Add.is) (search rules) w.add.ensures.answers w.add.ensures.stands
  | in-Strike w ↦ performs_as c.args.board.now w.board-is (ap line_of w.in-Strike.is) (search rules) w.strike.ensures.answers w.strike.ensures.stands
  | in-Arc w ↦ performs_as c.args.board.now w.board-is (ap line_of w.in-Arc.is) (search rules) w.arc.ensures.answers w.arc.ensures.stands
  | in-Apart w ↦ performs_as c.args.board.now w.board-is (ap line_of w.in-Apart.is) (search rules) w.apart.ensures.answers w.apart.ensures.stands
  | in-Draft+in_ok-places-in-Draft w ↦
      let held = with_items_is w.in_ok-places-in-Draft.places w.draft-total.new.points (w.draft-total.auto.points ∙ w.deref_mut.ensures.len) in
      let long = sym w.in_ok-places-in-Draft.ensures ∙ sym (ap length w.deref_mut.ensures.value) in
      performs_as c.args.board.now w.board-is (ap line_of w.in-Draft.is ∙ ap draft long) (search rules) w.draft-total.ensures.answers w.draft-total.ensures.stands
  | in-Lay+in_ok-places-in-Lay w ↦
      let held = with_items_is w.in_ok-places-in-Lay.places w.lay-total.new.points (w.lay-total.auto.points ∙ w.deref_mut-in-Lay.ensures.len) in
      let long = sym w.in_ok-places-in-Lay.ensures ∙ sym (ap length w.deref_mut-in-Lay.ensures.value) in
      performs_as c.args.board.now w.board-is (ap line_of w.in-Lay.is ∙ cc) (search rules) w.lay-total.ensures.answers w.lay-total.ensures.stands
]
