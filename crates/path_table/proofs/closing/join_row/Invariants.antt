use Rattle.std.proofs.Common.{◌≡◌, ◌<◌, true, false, get_or}
use Rattle.path_table.specs.Changes.{Widened}
use Rattle.path_table.proofs.closing.join_row.Given as goal

abbrev pub invariant-loop-to : goal.invariant-loop-to
invariant-loop-to l = Widened l.initial.paths l.paths (λ u v. (u ≡ l.from) × (v < l.to) × (get_or l.beyond v false ≡ true))
