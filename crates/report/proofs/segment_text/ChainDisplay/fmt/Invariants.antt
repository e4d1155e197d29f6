use Rattle.std.proofs.Common.{◌≡◌, ℕ, List, ◌++◌, codes, decimal}
use Rattle.std.specs.Fmt.{IsPlainFormatter, HasWritten}
use Rattle.segments.specs.Segments.{chain}
use Rattle.segments.proofs.Chains.{ahead}
use Rattle.shape.specs.Directions.{side_number}
use Rattle.report.specs.Texts.{spaced}
use Rattle.report.proofs.segment_text.ChainDisplay.fmt.Given as goal

-- the points up to this one are written, and what was written before it, with the chain from it, is the whole chain
abbrev pub invariant-loop-next : goal.invariant-loop-next
invariant-loop-next g l =
    let s = g.S.ShapeSource.shape l.self.source.now in
    let d = side_number l.self.side in
    IsPlainFormatter l.fn.f
    → (before : List ℕ) × HasWritten g.W.Write.write_str_gives l.fn.f (before ++ (codes " " ++ decimal l.at)) l.f × (before ++ spaced (chain s d l.at) ≡ spaced (chain s d l.self.point))

abbrev pub decreases-loop-next : goal.decreases-loop-next
decreases-loop-next g l = ahead (g.S.ShapeSource.shape l.self.source.now) (side_number l.self.side) l.at
