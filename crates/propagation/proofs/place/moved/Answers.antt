use Rattle.std.proofs.Common.{◌≡◌, ℤ, pos, negsuc, ◌+ℤ◌, ◌≤ℤ◌, ap, ◌∙◌, arith, w16, w32, SFits, to_z, of_z, rules}
use Rattle.std.proofs.lemmas.Int.{to_z-of_z, ints}
use Rattle.walks.specs.Places.{clamp}
use Rattle.propagation.proofs.place.moved.Goals as goal

near : (z : ℤ) → negsuc 29999 ≤ℤ z → z ≤ℤ pos 30000 → SFits w16 z
near (pos n) low high = record { sfits = omega (arith, ints) }
near (negsuc n) low high = record { sfits = omega (arith, ints) }

pub returns : goal.returns
returns c =
    let r = c.clamp.result in
    let value = c.clamp.ensures.value in
    let low = c.clamp.ensures.lower_bound in
    let high = c.clamp.ensures.upper_bound in
    let wide : SFits w32 r = search rules in
    let narrow : SFits w16 r = near r low high in
    let sum : to_z w32 (of_z w32 (to_z w32 (of_z w32 c.from.result) +ℤ to_z w32 (of_z w32 c.from-2.result))) ≡ c.args.coordinate +ℤ c.args.gap = omega (arith, ints) in
    ap (λ z. to_z w16 (of_z w16 z)) (to_z-of_z w32 r wide) ∙ to_z-of_z w16 r narrow ∙ value ∙ ap (clamp 30000) sum
