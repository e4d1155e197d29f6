use Rattle.std.proofs.Common.{◌≡◌, ℕ, suc, sym, subst, rules}
use Rattle.walks.specs.Sums.{sum}
use Rattle.shape.specs.Directions.{direction_number}
use Rattle.logs.specs.Lines.{cell_of}
use Rattle.board.specs.Cells.{points_in, bytes_in}
use Rattle.board.proofs.CellSums.{balance_decided}
use Rattle.board.proofs.board.flows.Flow.is_balanced.Goals as goal

pub returns : goal.returns
returns c s L points near far =
    let dir = direction_number c.args.direction in
    let n = points_in c.args.self.now in
    let a = c.args.number in
    let cells = bytes_in c.args.self.now dir in
    let incoming = c.total-incoming.ensures.sum (λ v. cell_of n cells v a) (λ v x h. search rules) in
    let outgoing = c.total-outgoing.ensures.sum (λ v. cell_of n cells a v) (λ v x h. search rules) in
    balance_decided s dir L cells a c.total-incoming.result c.total-outgoing.result c.args.segment.now.near_ends c.args.segment.now.far_ends
    (subst (λ (n : ℕ). c.total-incoming.result ≡ sum n (λ i. cell_of n cells (suc i) a)) (sym points) incoming)
    (subst (λ (n : ℕ). c.total-outgoing.result ≡ sum n (λ i. cell_of n cells a (suc i))) (sym points) outgoing) c.total-incoming.ensures.small c.total-outgoing.ensures.small near far
    c.saturating_add.result c.saturating_add-2.result c.saturating_add.ensures c.saturating_add-2.ensures
