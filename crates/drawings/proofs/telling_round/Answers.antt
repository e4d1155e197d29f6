use Rattle.std.proofs.Common.{arith}
use Rattle.drawings.proofs.Coordinates.{labels_tell_circles}
use Rattle.drawings.proofs.Greatest.{labels_tell_greatest}
use Rattle.drawings.proofs.Shortest.{lay_shows_greatest, without_lay_not_greatest}
use Rattle.drawings.proofs.telling_round.Goals as goal

pub returns : goal.returns
returns c = record { circles = labels_tell_circles _ _ (omega arith); tells = labels_tell_greatest _ _ (omega arith); shows = lay_shows_greatest; without = without_lay_not_greatest }
