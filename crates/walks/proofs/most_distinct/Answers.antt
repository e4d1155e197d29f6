use Rattle.std.proofs.Common.{arith}
use Rattle.walks.proofs.Pigeonhole.{distinct_few, all_nodes, all_nodes_below, all_nodes_distinct, all_nodes_length}
use Rattle.walks.proofs.most_distinct.Goals as goal

pub returns : goal.returns
returns c =
    let n = c.args.n in
    record { few = λ l b d. omega (arith, distinct_few n l b d); attained = (all_nodes n, all_nodes_below n, all_nodes_distinct n, omega (arith, all_nodes_length n)) }
