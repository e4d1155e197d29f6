use Rattle.std.proofs.Common.{◌≡◌, ◌<◌, true, false, get_or}
use Rattle.path_table.specs.Changes.{Widened}
use Rattle.path_table.proofs.closing.join_rows.Given as goal

abbrev pub invariant-loop-from : goal.invariant-loop-from
invariant-loop-from l = Widened l.initial.paths l.paths (λ u v. (u < l.from) × (get_or l.before u false ≡ true) × (get_or l.beyond v false ≡ true))
