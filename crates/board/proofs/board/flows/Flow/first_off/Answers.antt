use Rattle.std.proofs.Common.{rules}
use Rattle.shape.specs.Directions.{direction_number}
use Rattle.shape.proofs.Searches.{first_mapped}
use Rattle.board.specs.Cells.{points_in, OffFrom}
use Rattle.board.proofs.Offs.{off_first}
use Rattle.board.proofs.board.flows.Flow.first_off.Goals as goal

pub returns : goal.returns
returns c =
    let f = c.args.self.now in
    let dir = direction_number c.args.direction in
    off_first f dir c.find_map.result (first_mapped c.new.result (points_in f) c.new.ensures.start (search rules) c.new.ensures.exhausted (OffFrom f dir) c.find_map.result c.find_map.ensures.runs (λ x o q h. search rules))
