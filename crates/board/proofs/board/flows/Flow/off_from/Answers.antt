use Rattle.std.proofs.Common.{Some, None, Option, Decides, sym, refl, subst, rules}
use Rattle.std.proofs.lemmas.Bool.{false≢true}
use Rattle.shape.proofs.Searches.{first_found}
use Rattle.shape.specs.declared.ends.Arc.{Arc}
use Rattle.shape.specs.Directions.{direction_number}
use Rattle.board.specs.Cells.{points_in, OffCell, OffFrom}
use Rattle.board.proofs.board.flows.Flow.off_from.Goals as goal

pub returns-in_err-to : goal.returns-in_err-to
returns-in_err-to c =
    let f = c.args.self.now in
    let dir = direction_number c.args.direction in
    let found = first_found c.new.result (points_in f) c.new.ensures.start (search rules) c.new.ensures.exhausted (λ x t. Decides t (OffCell f dir c.args.from x)) None c.in_err-to.ensures.runs (λ x t q h. search rules) in
    subst (λ (o : Option Arc). OffFrom f dir c.args.from o) (sym c.from_residual.ensures) (λ b h off. false≢true ((found b h).1 off))

pub returns : goal.returns
returns c =
    let f = c.args.self.now in
    let dir = direction_number c.args.direction in
    let to = c.in_ok-to.to in
    let found = first_found c.new.result (points_in f) c.new.ensures.start (search rules) c.new.ensures.exhausted (λ x t. Decides t (OffCell f dir c.args.from x)) (Some to) c.in_ok-to.ensures.runs (λ x t q h. search rules) in
    (refl, found.0, found.1.0 refl, λ v low less off. false≢true ((found.2 v low less).1 off))
