use Rattle.std.proofs.Common.{◌≡◌, ◌+◌, arith, rules}
use Rattle.logs.specs.Answers.{nowhere}
use Rattle.board.specs.Placing.{placed_at}
use Rattle.board.proofs.Places.{written_more, places_are}
use Rattle.board.proofs.placing.write_places.Goals as goal

pub loop-index-preserved : goal.loop-index-preserved
loop-index-preserved c =
    let x = c.coordinate_of.ensures in
    let y = c.coordinate_of-in-loop-index.ensures in
    written_more nowhere (λ k q. q ≡ record { x = placed_at c.args.segments.now c.args.coordinates.now 0 (k + 1); y = placed_at c.args.segments.now c.args.coordinates.now 1 (k + 1) })
    c.loop-index.points c.loop-index.index _ (search rules) c.loop-index.invariant (cc)

pub returns : goal.returns
returns c =
    record {
      long = search rules;
      places = λ s L R e.
          let ends : s.points ≡ c.loop-index.index = search rules in
          places_are s L c.args.segments.now R c.args.coordinates.now c.loop-index.points (λ k h. c.loop-index.invariant k (omega arith));
    }
