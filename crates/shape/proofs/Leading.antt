-- The wires of a body without fault, in either format. Assumes nothing.
use Rattle.std.proofs.Common.{◌≡◌, ℕ, ◌*◌, ◌≤◌, List, Some, Option, Ok, Err, Result, sym, refl, subst, arith}
use Rattle.segments.specs.Shapes.{Within, Lawful}
use Rattle.shape.specs.declared.direction.Direction.{Direction}
use Rattle.shape.specs.declared.links.Links.{Links}
use Rattle.shape.specs.declared.refusal.Refusal.{Refusal}
use Rattle.shape.specs.Directions.{direction_number, direction_low}
use Rattle.shape.specs.Formats.{Format, TooHigh, Taken, UnendedAlong, Unended, Lowest, Leads, LeadsTo, TellsWire, Nowhere, Flawed, Tabled}
use Rattle.shape.specs.Formats.Format.{shape_record, old_sheet}
use Rattle.shape.specs.Tables.{Told, of_links, Filled, FailsFirst}
use Rattle.shape.proofs.Checking.{numbered}
use Rattle.shape.proofs.Entering.{told_same}
use Rattle.shape.proofs.Filling.{filled_leads, filled_weaker}
use Rattle.shape.proofs.Numbers.{in_range, written_apart, ended_lawful}
use Rattle.shape.proofs.Spots.{led_nearest, nearest_apart, rising_lawful}

led_onto : (f : Format) (n : ℕ) (body : List ℕ) → Nowhere n (TooHigh f n body) → (d v w : ℕ) → d ≤ 1 → Within n v → Leads f n body d v w → 1 ≤ w → Within n w
led_onto shape_record n body range d v w h p l some = let most = in_range n body range d v h p in (some, omega (arith, l))
led_onto old_sheet n body range d v w h p l some = (led_nearest n body d v w l (λ z. omega (arith, some))).point

led_apart : (f : Format) (n : ℕ) (body : List ℕ) → Nowhere n (Taken f n body) → (d v u w : ℕ) → d ≤ 1 → Within n v → Within n u → 1 ≤ w → Leads f n body d v w → Leads f n body d u w → v ≡ u
led_apart shape_record n body untaken d v u w h pv pu some a b = written_apart n body untaken d v u w h pv pu some a b
led_apart old_sheet n body untaken d v u w h pv pu some a b = nearest_apart n body untaken d v u w h pv pu (λ z. omega (arith, some)) a b

led_lawful : (f : Format) (n : ℕ) (body : List ℕ) → Nowhere n (Unended f n body) → 1 ≤ n → n ≤ 128 → (l : Links) → Filled (Leads f n body) n (n * 2) l → Lawful (of_links l)
led_lawful shape_record n body ended low high l F = ended_lawful n body ended low high l F
led_lawful old_sheet n body ended low high l F = rising_lawful n body low high l F

-- a point is unended where it is so in a direction
along_unended : (f : Format) (n : ℕ) (body : List ℕ) (v dir : ℕ) → dir ≤ 1 → UnendedAlong f n body dir v → Unended f n body v
along_unended shape_record n body v dir h u = (dir, h, u)
along_unended old_sheet n body v dir h u = (dir, h, u)

unended_along : (f : Format) (n : ℕ) (body : List ℕ) (v : ℕ) → Unended f n body v → (dir : ℕ) × (dir ≤ 1) × UnendedAlong f n body dir v
unended_along shape_record n body v u = u
unended_along old_sheet n body v u = u

module _ (f : Format) (n : ℕ) (body : List ℕ) (range : Nowhere n (TooHigh f n body)) (untaken : Nowhere n (Taken f n body)) where
  -- what an answer tells
  answer_leads : (d v w : ℕ) (o : Option ℕ) → LeadsTo f n body d v o → Told w o → Leads f n body d v w
  answer_leads d v w o a told = subst (Leads f n body d v) (told_same a.0 w o a.1 told) a.2

  pub answer_onto : (d v w : ℕ) → d ≤ 1 → Within n v → LeadsTo f n body d v (Some w) → Within n w
  answer_onto d v w h p a = subst (Within n) (sym a.1.0) (led_onto f n body range d v a.0 h p a.2 a.1.1)

  pub answer_apart : (d v u w : ℕ) → d ≤ 1 → Within n v → Within n u → LeadsTo f n body d v (Some w) → LeadsTo f n body d u (Some w) → v ≡ u
  answer_apart d v u w h pv pu a b =
      let some = (answer_onto d v w h pv a).0 in
      let told : Told w (Some w) = (refl, some) in
      led_apart f n body untaken d v u w h pv pu some (answer_leads d v w (Some w) a told) (answer_leads d u w (Some w) b told)

  -- a wire that ends, and where it leads
  abbrev pub Ended : ℕ → ℕ → ℕ → Type 0
  Ended d v w = (¬ UnendedAlong f n body d v) × Leads f n body d v w

  pub answer_ended : (d v w : ℕ) (o : Option ℕ) → TellsWire f n body d v (Ok o) → Told w o → Ended d v w
  answer_ended d v w o tells told = (tells.0, answer_leads d v w o tells.1 told)

  -- all wires end
  pub all_tabled : 1 ≤ n → n ≤ 128 → (l : Links) → Filled Ended n (n * 2) l → Tabled f n body (of_links l)
  all_tabled low high l F =
      let leads = filled_weaker (Leads f n body) n (n * 2) l F (λ d v w h p r. r.1) in
      let ended : Nowhere n (Unended f n body) = λ v p t. let u = unended_along f n body v t in (F.forward u.0 v u.1 p (omega (arith, u.1, p.0, p.1))).0 u.2 in
      record {
        flawless = (range, untaken, ended);
        lawful = led_lawful f n body ended low high l leads;
        points = leads.points;
        leads = filled_leads (Leads f n body) n l leads low high;
      }

  -- the first that does not
  pub first_unended : {Tells : ℕ → Direction → Result (Option ℕ) Refusal → Type 0} (m : ℕ) → m ≡ n → (e : Refusal) → FailsFirst m Tells e → ((v : ℕ) (d : Direction) (r : Result (Option ℕ) Refusal) → Tells v d r → TellsWire f n body (direction_number d) v r) → Flawed f n body e
  first_unended m same e t tells =
      let told = tells t.at t.direction (Err e) t.fails in
      let lowest : Lowest n (Unended f n body) t.at = record {
        point = subst (λ (k : ℕ). Within k t.at) same t.point;
        fault = along_unended f n body t.at (direction_number t.direction) (direction_low t.direction) told.1;
        first = λ u low less unended.
            let fault = unended_along f n body u unended in
            let d = numbered fault.0 fault.1 in
            let o = t.before u d.0 low less in
            (tells u d.0 (Ok o.0) o.1).0 (subst (λ (k : ℕ). UnendedAlong f n body k u) (sym d.1) fault.2);
      } in
      subst (Flawed f n body) (sym told.0) (range, untaken, lowest)
