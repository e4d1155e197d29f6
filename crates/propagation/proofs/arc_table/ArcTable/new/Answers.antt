use Rattle.std.proofs.Common.{◌+◌, ◌*◌, ltb, refl}
use Rattle.propagation.proofs.Unset.{no_arc}
use Rattle.propagation.proofs.arc_table.ArcTable.new.Goals as goal

pub returns : goal.returns
returns c = (refl, λ a b. no_arc 16384 (a * 128 + b) (ltb a c.args.nodes) (ltb b c.args.nodes))
