-- The gap that leads back along an arc whose cell is above 0. Assumes nothing.
use Rattle.std.proofs.Common.{◌≡◌, ℕ, ◌<◌, false, cond, ltb, ◌≢◌, ℤ, neg_ℤ, is_some, Some, None, Option, refl, arith}
use Rattle.std.proofs.lemmas.Bool.{lt-ltb}
use Rattle.std.specs.Option.{option_or, option_map}

pub leads_back : (own back : Option ℤ) (flow : ℕ) (g : ℤ) → is_some own ≡ false → flow ≢ 0 → Some g ≡ back → Some (neg_ℤ g) ≡ option_or own (cond (ltb 0 flow) (option_map neg_ℤ back) None)
leads_back (Some h) back flow g none some arc = absurd cc
leads_back None back flow g none some arc =
    let above : 0 < flow = omega arith in
    let test = lt-ltb 0 flow above in
    rw (test, ← arc) refl
