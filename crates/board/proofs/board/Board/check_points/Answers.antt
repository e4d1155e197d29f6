use Rattle.std.proofs.Common.{ap, rules}
use Rattle.std.proofs.lemmas.Bool.Decides.{not_from_Decides}
use Rattle.segments.specs.Shapes.{Shape}
use Rattle.logs.specs.Refusing.{contradictory, wrong_points}
use Rattle.board.proofs.board.Board.check_points.Goals as goal

pub returns-then-self-clause-fits : goal.returns-then-self-clause-fits
returns-then-self-clause-fits c s log stands = contradictory (stands.contradictory.0 c.if-self.true)

pub returns-then-records-points-clause-fits : goal.returns-then-records-points-clause-fits
returns-then-records-points-clause-fits c s log stands = wrong_points (not_from_Decides _ stands.contradictory (search rules)) (λ e. let p = ap (λ (t : Shape). t.points) stands.shape in search rules)

pub returns-clause-fits : goal.returns-clause-fits
returns-clause-fits c s log stands = (not_from_Decides _ stands.contradictory (search rules), let p = ap (λ (t : Shape). t.points) stands.shape in search rules)
