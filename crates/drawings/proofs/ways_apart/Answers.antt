use Rattle.std.proofs.Common.{arith}
use Rattle.drawings.proofs.Reaching.{ways_are_numbered, pair_is_one_of_three, ways_by_reach}
use Rattle.drawings.proofs.ways_apart.Goals as goal

pub returns : goal.returns
returns c = record { numbered = ways_are_numbered _ (omega arith); either = pair_is_one_of_three; reach = ways_by_reach }
