use Rattle.std.proofs.Common.{ℕ, Some, None, ap, arith, rules}
use Rattle.shape.proofs.Searches.{first_found}
use Rattle.shape.specs.Directions.{direction_number}
use Rattle.logs.specs.declared.refusal.Refusal.TheVariants.{OutOfBalance}
use Rattle.board.specs.Cells.{points_in}
use Rattle.board.specs.Flows.{TellsBalance}
use Rattle.board.proofs.board.flows.Flow.check_balance.Goals as goal

pub returns-in-Some : goal.returns-in-Some
returns-in-Some c s log stands =
    let f = c.args.self.now in
    let dir = direction_number c.args.direction in
    let a = c.in-Some.segment in
    let found = first_found c.new.result (points_in f) c.new.ensures.start (search rules) c.new.ensures.exhausted (TellsBalance f dir) (Some a) c.in-Some.ensures.runs (λ x b q h. search rules) in
    let here = found.1.tells s log stands in
    (a, ap (λ (d : ℕ). OutOfBalance d a) c.from.ensures, here.0, here.1, λ u less n. (found.2 u n.1.0 less).tells s log stands n)

pub returns-in-None : goal.returns-in-None
returns-in-None c s log stands =
    let f = c.args.self.now in
    let dir = direction_number c.args.direction in
    let found = first_found c.new.result (points_in f) c.new.ensures.start (search rules) c.new.ensures.exhausted (TellsBalance f dir) None c.in-None.ensures.runs (λ x b q h. search rules) in
    λ a n. (found a (n.1.0, omega (arith, n.1.1, stands.segments.points))).tells s log stands n
