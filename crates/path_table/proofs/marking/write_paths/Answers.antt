use Rattle.std.proofs.Common.{rules}
use Rattle.propagation.specs.Tables.{arc_gaps}
use Rattle.path_table.proofs.Rows.{closed_more}
use Rattle.path_table.proofs.marking.write_paths.Goals as goal

pub loop-from-preserved : goal.loop-from-preserved
loop-from-preserved c = closed_more c.loop-from.from c.args.force.now.nodes (arc_gaps c.args.force.now) c.args.paths.now c.loop-from.paths _ c.loop-from.invariant c.«write_row_of».ensures

pub returns : goal.returns
returns c = let done = c.loop-from.invariant in record { nodes_stay = done.nodes_stay; walks = λ u v p q hu hv. done.walks u v (search rules) p q hv }
