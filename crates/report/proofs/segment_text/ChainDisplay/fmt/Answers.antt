use Rattle.std.proofs.Common.{true, ◌++◌, codes, decimal, refl, ap, ◌∙◌, append_assoc, sym}
use Rattle.std.proofs.Output.{has_written_append}
use Rattle.shape.specs.Directions.{side_number}
use Rattle.report.proofs.Chaining.{nearer, written_next}
use Rattle.report.proofs.segment_text.ChainDisplay.fmt.Goals as goal

pub loop-next-smaller : goal.loop-next-smaller
loop-next-smaller g c =
    nearer (g.S.ShapeSource.shape c.args.self.now.source.now) (g.met.S.ShapeSource.lawful c.args.self.now.source.now) (side_number c.args.self.now.side) c.loop-next.at c.in-Some.next c.in-Some.ensures

pub loop-next-preserved : goal.loop-next-preserved
loop-next-preserved g c plain =
    let so_far = c.loop-next.invariant plain in
    let onward = written_next (g.S.ShapeSource.shape c.args.self.now.source.now) (g.met.S.ShapeSource.lawful c.args.self.now.source.now) (side_number c.args.self.now.side) c.loop-next.at c.in-Some.next c.in-Some.ensures in (
      so_far.0 ++ (codes " " ++ decimal c.loop-next.at),
      has_written_append g.W.Write.write_str_gives _ _ _ _ _ so_far.1 (c.in_ok-write-2.ensures.writes so_far.1.plain (refl {a = true})),
      append_assoc so_far.0 (codes " " ++ decimal c.loop-next.at) _ ∙ ap (λ l. so_far.0 ++ l) (sym onward) ∙ so_far.2,
    )
