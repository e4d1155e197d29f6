use Rattle.std.proofs.Common.{◌-◌}
use Rattle.shape.proofs.Filling.{fresh_rows}
use Rattle.shape.proofs.links.Links.unjoined.Goals as goal

pub returns-clause-cells : goal.returns-clause-cells
returns-clause-cells c = λ d v. fresh_rows 4 128 d (v - 1)
