use Rattle.std.proofs.Common.{◌≤◌}
use Rattle.engine_bench.proofs.yes_count.Given as goal

abbrev pub invariant-loop-run : goal.invariant-loop-run
invariant-loop-run g l = goal.F-IsAlwaysCallable g l.run × (l.count ≤ l._run)
