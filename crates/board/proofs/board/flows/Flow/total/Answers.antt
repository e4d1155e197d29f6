use Rattle.std.proofs.Common.{◌≤◌, arith, rules}
use Rattle.board.specs.Cells.{points_in}
use Rattle.board.proofs.Adding.{added, stays_small, added_small}
use Rattle.board.proofs.board.flows.Flow.total.Goals as goal

pub sum-requires-clause-fits : goal.sum-requires-clause-fits
sum-requires-clause-fits g c p seen is =
    let few : points_in c.args.self.now ≤ 128 = search rules in
    let k = stays_small c.new.result (points_in c.args.self.now) c.new.ensures.start (search rules) c.new.ensures.exhausted c.map.result c.map.ensures.runs 255 (λ x y q h. search rules) p is in
    omega (arith, k.1, k.2)

pub returns : goal.returns
returns g c =
    let n = points_in c.args.self.now in
    let few : n ≤ 128 = search rules in
    let k = added_small c.new.result n c.new.ensures.start (search rules) c.new.ensures.exhausted c.map.result c.map.ensures.runs 255 c.sum.result c.sum.ensures.runs (λ x y q h. search rules) in
    record {
      sum = λ h gives. added c.new.result n c.new.ensures.start (search rules) c.new.ensures.exhausted c.map.result c.map.ensures.runs h c.sum.result c.sum.ensures.runs (λ x y q e. (search rules, gives x y (search rules)));
      small = omega (arith, k.1, k.2);
    }
