use Rattle.std.proofs.Common.{ℕ, rules}
use Rattle.shape.specs.Formats.{SharesSpot}
use Rattle.shape.proofs.Ranges.{any_passes}
use Rattle.shape.proofs.old_sheet.Spots.is_taken.Goals as goal

pub returns : goal.returns
returns c =
    any_passes (λ (u : ℕ). SharesSpot c.args.self.now.bytes.now u c.args.point) c.args.point _ _ _ c.any.result (search rules) (search rules) c.any.ensures.ran (λ x b q t. search rules)
