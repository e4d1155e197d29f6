use Rattle.std.proofs.Common.{arith, ◌*◌, ◌∙◌, ap, sym, subst, ℕ}
use Rattle.drawings.specs.Theorems.{TotalWithin}
use Rattle.drawings.proofs.Sizes.{total_within}
use Rattle.drawings.proofs.largest_total.Goals as goal

pub returns : goal.returns
returns c =
    let same = c.from-3.ensures ∙ ap (λ (k : ℕ). k * c.from-2.result) c.from.ensures in
    record {
      within = subst (λ (k : ℕ). TotalWithin c.args.coordinate c.args.points (2 * k)) (sym same)
          (total_within c.args.coordinate c.args.points c.from-2.result (omega (arith, c.from-2.ensures)));
    }
