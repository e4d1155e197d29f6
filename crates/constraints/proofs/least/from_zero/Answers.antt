use Rattle.std.proofs.Common.{rules}
use Rattle.propagation.specs.Kinds.{place_meaning}
use Rattle.constraints.proofs.least.from_zero.Goals as goal

pub returns : goal.returns
returns c = λ v h. let k = c.map.ensures.items.at v place_meaning.none 0 h in search rules
