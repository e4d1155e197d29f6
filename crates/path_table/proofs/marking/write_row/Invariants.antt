use Rattle.std.proofs.Common.{◌≡◌, true}
use Rattle.propagation.specs.Engine.{at}
use Rattle.propagation.specs.Kinds.{reach_meaning}
use Rattle.path_table.specs.Changes.{RowPut}
use Rattle.path_table.proofs.marking.write_row.Given as goal

abbrev pub invariant-loop-to : goal.invariant-loop-to
invariant-loop-to l = RowPut l.initial.paths l.paths l.from l.to (λ v. (at reach_meaning l.reached v).yes ≡ true)
