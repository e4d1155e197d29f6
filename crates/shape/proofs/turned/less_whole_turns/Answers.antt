use Rattle.std.proofs.Common.{◌%◌}
use Rattle.shape.specs.TurningLemmas.{turned_lawful}
use Rattle.shape.proofs.turned.less_whole_turns.Goals as goal

pub returns-clause-keeps_the_laws : goal.returns-clause-keeps_the_laws
returns-clause-keeps_the_laws c = turned_lawful (c.args.turns % 4)
