use Rattle.std.proofs.Common.{◌≡◌, Ok, rules}
use Rattle.logs.specs.declared.pairing.Pairing.TheVariants.{Open}
use Rattle.board.specs.Boards.{gap_of}
use Rattle.board.proofs.Pairing.{decides_open, decides_not_open}
use Rattle.board.proofs.board.Board.is_open.Goals as goal

pub returns-in-Ok-Open : goal.returns-in-Ok-Open
returns-in-Ok-Open c s log stands =
    let e : c.apart.result ≡ Ok Open = search rules in
    decides_open s (gap_of c.args.self.now) c.args.row c.args.column c.apart.result (c.apart.ensures.answers s log stands) e

pub returns-in_default : goal.returns-in_default
returns-in_default c s log stands =
    let n : ¬ (c.apart.result ≡ Ok Open) = search rules in
    decides_not_open s (gap_of c.args.self.now) c.args.row c.args.column c.apart.result (c.apart.ensures.answers s log stands) n

pub returns-in_default-2 : goal.returns-in_default-2
returns-in_default-2 c s log stands =
    let n : ¬ (c.apart.result ≡ Ok Open) = search rules in
    decides_not_open s (gap_of c.args.self.now) c.args.row c.args.column c.apart.result (c.apart.ensures.answers s log stands) n
