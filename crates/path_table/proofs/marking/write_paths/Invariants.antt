use Rattle.propagation.specs.Tables.{arc_gaps}
use Rattle.path_table.proofs.Rows.{ClosedBelow}
use Rattle.path_table.proofs.marking.write_paths.Given as goal

abbrev pub invariant-loop-from : goal.invariant-loop-from
invariant-loop-from l = ClosedBelow l.from l.force.nodes (arc_gaps l.force) l.initial.paths l.paths
