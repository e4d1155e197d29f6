use Rattle.std.proofs.Common.{◌≡◌, ◌+◌, ◌-◌, rules, arith}
use Rattle.std.proofs.Output.{has_written_to_eq}
use Rattle.report.proofs.Adding.{each_more}
use Rattle.report.proofs.lines.write_lines.Goals.{else-loop-point-test, then-loop-point-test+in_ok-write_line+else-point-point-end}
use Rattle.report.proofs.lines.write_lines.Goals as goal

pub loop-point-preserved : goal.loop-point-preserved
loop-point-preserved g c = (
  search rules,
  λ text lines plain. each_more g.W.Write.write_str_gives text _ _ _ c.loop-point.point (c.loop-point.point + 1 - 1) (omega arith) c.loop-point.invariant.0 (c.loop-point.invariant.1 text lines plain) _ (lines _ _ (search rules) c.line_of.ensures) c.in_ok-write_line.ensures,
)

pub returns : goal.returns
returns g c text lines plain ok =
    let some = (g.met.S.ShapeSource.lawful c.args.source.now).some in
    elim c.loop-point-test.branch [
      | else-loop-point-test w ↦ search rules
      | then-loop-point-test+in_ok-write_line+else-point-point-end w ↦
          let all : (g.S.ShapeSource.shape c.args.source.now).points ≡ c.loop-point.point = search rules in
          has_written_to_eq g.W.Write.write_str_gives _ _ _ _ w.f-is (each_more g.W.Write.write_str_gives text _ _ _ c.loop-point.point _ all c.loop-point.invariant.0 (c.loop-point.invariant.1 text lines plain) _ (lines _ _ (search rules) w.line_of.ensures) w.in_ok-write_line.ensures)
    ]
