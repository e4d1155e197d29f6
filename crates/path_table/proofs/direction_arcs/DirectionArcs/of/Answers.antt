use Rattle.std.proofs.Common.{rules}
use Rattle.path_table.proofs.Owning.{of_shape}
use Rattle.path_table.proofs.Walking.{closed_paths}
use Rattle.path_table.proofs.direction_arcs.DirectionArcs.of.Goals as goal

pub invariant_of-result : goal.invariant_of-result
invariant_of-result g c =
    record { one_size = search rules; tracks = ∣ closed_paths _ _ c.write_paths.new.paths (search rules) c.write_paths.ensures ∣₁ }

pub returns : goal.returns
returns g c =
    let s = g.S.ShapeSource.shape c.args.source.now in
    let own = c.in_ok-own.ensures in
    (own.0, of_shape s (g.met.S.ShapeSource.lawful c.args.source.now) c.args.direction _ (own.1, own.2) (search rules, search rules))
