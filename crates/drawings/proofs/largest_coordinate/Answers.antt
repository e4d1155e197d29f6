use Rattle.std.proofs.Common.{arith, ◌*◌, sym, subst, ℕ}
use Rattle.drawings.specs.Theorems.{DraftWithin, LayWithin}
use Rattle.drawings.proofs.Coordinates.{draft_exists, draft_is_one, lay_exists, lay_is_one}
use Rattle.drawings.proofs.Sizes.{draft_within, lay_within}
use Rattle.drawings.proofs.largest_coordinate.Goals as goal

pub returns : goal.returns
returns c =
    let gap = c.args.gap in
    let points = c.args.points in
    let further = c.from-2.result in
    record {
      draft = (draft_exists, draft_is_one);
      lay = (lay_exists, lay_is_one);
      within = (
        subst (λ (k : ℕ). DraftWithin gap points (k * further)) (sym c.from.ensures) (draft_within gap points further (omega (arith, c.from-2.ensures))),
        subst (λ (k : ℕ). LayWithin gap points (k * further)) (sym c.from.ensures) (lay_within gap points further (omega (arith, c.from-2.ensures))),
      );
    }
