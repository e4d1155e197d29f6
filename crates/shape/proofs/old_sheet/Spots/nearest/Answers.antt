use Rattle.std.proofs.Common.{◌≡◌, rules}
use Rattle.segments.specs.Shapes.{Within}
use Rattle.shape.specs.Directions.{direction_number}
use Rattle.shape.specs.Formats.{coordinate}
use Rattle.shape.proofs.Picking.{least_picked, may_pick}
use Rattle.shape.proofs.Ranges.{left}
use Rattle.shape.proofs.Spots.{beyond, decided_beyond, nearest_picked}
use Rattle.shape.proofs.old_sheet.Spots.nearest.Goals as goal

pub min_by_key-requires-clause-callable : goal.min_by_key-requires-clause-callable
min_by_key-requires-clause-callable c = may_pick 1 c.args.self.now.points.count c.filter.result _ (search rules) (search rules) (λ x k p q e. search rules) (λ x low high.
    let at : Within c.args.self.now.points.count x = (low, high) in
    search rules)

pub returns : goal.returns
returns c =
    let n = c.args.self.now.points.count in
    let body = c.args.self.now.bytes.now in
    let d = direction_number c.args.direction in
    let v = c.args.point in
    let all : left c.filter.result.iter ≡ n = search rules in
    let pick = least_picked (beyond body d v) (coordinate body d) n c.filter.result c.min_by_key.result c.min_by_key.ensures.runs c.filter.ensures.closure (search rules) all in
    nearest_picked n body d v c.min_by_key.result (pick (λ x b q t. (search rules, decided_beyond body d v x b (search rules))) (λ x k q t. search rules))
