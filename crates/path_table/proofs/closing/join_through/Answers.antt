use Rattle.std.proofs.Common.{false, ◌≡◌, ◌⊎◌, Decides, arith, rules}
use Rattle.walks.specs.Nodes.{Arc}
use Rattle.propagation.specs.Tables.{arc_gaps}
use Rattle.shape.proofs.Searches.{made_from}
use Rattle.path_table.proofs.Widening.{widened_as}
use Rattle.path_table.proofs.closing.join_through.Goals as goal

pub returns : goal.returns
returns c =
    let gaps = arc_gaps c.args.paths.now in
    widened_as c.args.paths.now _ c.from_fn-before.result c.from_fn-beyond.result
    (λ u h. made_from (λ i t. Decides t ((i ≡ c.args.from) ⊎ Arc gaps i c.args.from)) _ c.from_fn-before.result false (λ i t q k. search rules) 0 128 c.from_fn-before.ensures.items.each u (omega arith) h)
    (λ v h. made_from (λ i t. Decides t ((c.args.to ≡ i) ⊎ Arc gaps c.args.to i)) _ c.from_fn-beyond.result false (λ i t q k. search rules) 0 128 c.from_fn-beyond.ensures.items.each v (omega arith) h)
    c.join_rows.ensures
