use Rattle.std.proofs.Common.{ℕ, subst, rules}
use Rattle.segments.specs.Segments.{Named}
use Rattle.board.proofs.board.Board.check_name.Goals as goal

pub returns : goal.returns
returns c s log stands = subst (λ (d : ℕ). Named s d c.args.number) c.from.ensures ((c.is_name.ensures s stands.segments).0 (search rules))
