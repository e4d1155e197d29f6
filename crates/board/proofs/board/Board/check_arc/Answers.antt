use Rattle.std.proofs.Common.{ℕ, ◌≤◌, sym, refl, subst, inl, inr, arith}
use Rattle.segments.specs.Segments.{Named}
use Rattle.shape.proofs.Reading.{handed_on}
use Rattle.shape.specs.Directions.{direction_low}
use Rattle.logs.specs.Refusing.{RefusesArc, no_direction, no_segment}
use Rattle.board.proofs.board.Board.check_arc.Goals as goal

pub returns-in_err-direction-clause-names : goal.returns-in_err-direction-clause-names
returns-in_err-direction-clause-names c s log stands =
    let r = c.in_err-direction.ensures in
    handed_on _ _ _ _ c.from_residual.ensures.1 (subst (RefusesArc s c.args.direction c.args.from c.args.to) (sym r.0) (no_direction r.1))

pub returns-in_err-check_name-clause-names : goal.returns-in_err-check_name-clause-names
returns-in_err-check_name-clause-names c s log stands =
    let is = c.in_ok-direction.ensures in
    let low : c.args.direction ≤ 1 = omega (arith, is, direction_low c.in_ok-direction.direction) in
    let r = c.in_err-check_name.ensures s log stands in
    let unnamed : ¬ Named s c.args.direction c.args.from = subst (λ (d : ℕ). ¬ Named s d c.args.from) is r.1 in
    handed_on _ _ _ _ c.from_residual-in_err-check_name.ensures.1 (subst (RefusesArc s c.args.direction c.args.from c.args.to) (sym r.0) (no_segment c.args.from low (inl (refl, unnamed))))

pub returns-in_err-check_name-2-clause-names : goal.returns-in_err-check_name-2-clause-names
returns-in_err-check_name-2-clause-names c s log stands =
    let is = c.in_ok-direction.ensures in
    let low : c.args.direction ≤ 1 = omega (arith, is, direction_low c.in_ok-direction.direction) in
    let first = subst (λ (d : ℕ). Named s d c.args.from) is (c.in_ok-check_name.ensures s log stands) in
    let r = c.in_err-check_name-2.ensures s log stands in
    let unnamed : ¬ Named s c.args.direction c.args.to = subst (λ (d : ℕ). ¬ Named s d c.args.to) is r.1 in
    handed_on _ _ _ _ c.from_residual-in_err-check_name-2.ensures.1 (subst (RefusesArc s c.args.direction c.args.from c.args.to) (sym r.0) (no_segment c.args.to low (inr (refl, first, unnamed))))

pub returns-clause-names : goal.returns-clause-names
returns-clause-names c s log stands =
    subst (λ (d : ℕ). Named s d c.args.from × Named s d c.args.to) c.in_ok-direction.ensures (c.in_ok-check_name.ensures s log stands, c.in_ok-check_name-2.ensures s log stands)
