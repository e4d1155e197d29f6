use Rattle.std.proofs.Common.{◌≡◌, suc, refl, sym, ap, ◌∙◌, add-one, arith, rules}
use Rattle.segments.specs.Shapes.{Within, steps}
use Rattle.shape.specs.Directions.{direction_number, direction_low}
use Rattle.shape.specs.Formats.{as_written}
use Rattle.shape.proofs.Numbers.{next_written, in_range, written_onto}
use Rattle.shape.proofs.Returning.{decided_no, decided_yes, ended_no_return, one_step_more, long_no_return}
use Rattle.shape.proofs.record.Numbers.returns.Goals as goal

pub returns-in-None : goal.returns-in-None
returns-in-None c =
    let s = as_written c.args.self.now.points.count c.args.self.now.bytes.now in
    let d = direction_number c.args.direction in
    let at = c.loop-walked.invariant in
    let end = next_written c.args.self.now.points.count c.args.self.now.bytes.now d c.loop-walked.at at.0.0 ∙ c.in-None.ensures in
    decided_no (ended_no_return s d c.args.point refl c.requires.point c.loop-walked._walked at.2 (ap (s.next d) (sym at.1) ∙ end))

pub returns-in-Some : goal.returns-in-Some
returns-in-Some c =
    let s = as_written c.args.self.now.points.count c.args.self.now.bytes.now in
    let d = direction_number c.args.direction in
    let at = c.loop-walked.invariant in
    let there = next_written c.args.self.now.points.count c.args.self.now.bytes.now d c.loop-walked.at at.0.0 ∙ sym c.in-Some.ensures.0 in
    decided_yes (c.loop-walked._walked, ap (s.next d) (sym at.1) ∙ there ∙ c.if-next-point.true)

pub loop-walked-preserved : goal.loop-walked-preserved
loop-walked-preserved c =
    let n = c.args.self.now.points.count in
    let body = c.args.self.now.bytes.now in
    let s = as_written n body in
    let d = direction_number c.args.direction in
    let at = c.loop-walked.invariant in
    let told = c.in-Some.ensures in
    let led : c.in-Some.next ≡ steps s d (suc c.loop-walked._walked) c.args.point =
    told.0 ∙ sym (next_written n body d c.loop-walked.at at.0.0) ∙ ap (s.next d) at.1
    in
    let most = in_range n body c.requires.range d c.loop-walked.at (direction_low c.args.direction) at.0 in
    let point : Within n c.in-Some.next = (omega (arith, told.0, told.1), omega (arith, told.0, most)) in
    (point, rw add-one led, one_step_more s d c.args.point refl c.requires.point c.loop-walked._walked at.2 (λ e. c.if-next-point.false (led ∙ e)))

pub returns : goal.returns
returns c =
    let n = c.args.self.now.points.count in
    let body = c.args.self.now.bytes.now in
    let d = direction_number c.args.direction in
    decided_no (long_no_return (as_written n body) d c.args.point refl c.requires.point (written_onto n body c.requires.range d (direction_low c.args.direction)) c.loop-walked._walked (search rules) c.loop-walked.invariant.2)
