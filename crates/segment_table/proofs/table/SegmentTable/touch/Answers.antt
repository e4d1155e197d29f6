use Rattle.std.proofs.Common.{ℕ, ◌+◌, arith, rules}
use Rattle.std.proofs.lemmas.Bool.Decides.{Decides-like}
use Rattle.shape.proofs.Ranges.{any_passes}
use Rattle.segment_table.specs.Records.{Crossing}
use Rattle.segment_table.proofs.Touching.{touch_told}
use Rattle.segment_table.proofs.table.SegmentTable.touch.Goals as goal

pub returns : goal.returns
returns c s R =
    let t = c.args.self.now in
    let On = Crossing t c.args.row c.args.column in
    touch_told t c.args.row c.args.column s R c.any.result
    (Decides-like c.any.result (λ x. (x.0, (x.1, omega arith), x.3)) (λ x. (x.0, x.1.0, omega arith, x.2))
    (any_passes On (t.points + 1) _ _ _ c.any.result (search rules) (search rules) c.any.ensures.ran (λ x b q h. search rules)))
