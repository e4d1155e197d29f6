use Rattle.std.proofs.Common.{arith, ◌*◌, ◌∙◌, ap, ℕ}
use Rattle.walks.proofs.Ends.{places_within, ends_unmet}
use Rattle.walks.proofs.highest_place.Goals as goal

pub returns : goal.returns
returns c =
    let same = ap (λ (a : ℕ). a * c.from-2.result) c.from.ensures ∙ ap (λ (b : ℕ). c.args.gap * b) c.from-2.ensures in
    record { within = places_within c.args.gap c.args.rounds _ (omega (arith, same)); unmet = ends_unmet c.args.gap c.args.rounds _ (omega (arith, same)) }
