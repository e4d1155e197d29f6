use Rattle.shape.specs.Directions.{direction_number}
use Rattle.shape.specs.Formats.{written}
use Rattle.shape.proofs.Firsts.{Entered}
use Rattle.shape.proofs.record.Numbers.firsts.Given as goal

-- the points so far are in the table
abbrev pub invariant-loop-point : goal.invariant-loop-point
invariant-loop-point l = Entered l.self.points.count (written l.self.bytes.now (direction_number l.direction)) l.point l.firsts
