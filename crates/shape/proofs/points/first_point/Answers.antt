use Rattle.std.proofs.Common.{◌≡◌, arith, rules}
use Rattle.segments.specs.Shapes.{Within}
use Rattle.shape.proofs.Ranges.{served}
use Rattle.shape.proofs.Searches.{first_found, finds}
use Rattle.shape.proofs.points.first_point.Goals as goal

pub find-requires-clause-callable : goal.find-requires-clause-callable
find-requires-clause-callable g c =
    let first : c.new.result.start ≡ 1 = search rules in
    let last : c.new.result.end ≡ c.args.points = search rules in
    served (λ x p q e. search rules) c.new.result _ (λ x low high.
    let point : Within c.args.points x = (omega arith, omega arith) in
    let may = c.requires x point in
    search rules)

pub returns : goal.returns
returns g c =
    finds c.args.points _ _ (first_found c.new.result c.args.points (search rules) (search rules) (search rules) (λ v r. goal.F-post g c.args.test v r) c.find.result c.find.ensures.runs (λ x b q e. search rules))
