-- The wires of an old sheet, each to the nearest point. Assumes nothing.
use Rattle.std.proofs.Common.{◌≡◌, ℕ, zero, suc, ◌-◌, ◌*◌, ◌<◌, ◌≤◌, Bool, true, ◌&&◌, ltb, ◌==◌, ◌≢◌, List, Some, None, Option, MatchOption, Decides, sym, ap, ◌∙◌, inl, inr, arith}
use native.Mathlib.Decide.{ℕ_discrete}
use Rattle.std.proofs.lemmas.Bool.Decides.{same_from_decides, Decides-and, Decides-eqb, Decides-ltb}
use Rattle.std.proofs.lemmas.Bool.{cases_order}
use Rattle.segments.specs.Shapes.{Within, Lawful, steps}
use Rattle.shape.specs.declared.links.Links.{Links}
use Rattle.shape.specs.Tables.{of_links, Filled}
use Rattle.shape.specs.Formats.{coordinate, Beyond, Nearest, SharesSpot, Taken, Leads, Nowhere}
use Rattle.shape.specs.Formats.Format.{old_sheet}
use Rattle.shape.proofs.Reading.{one_spot, joins?}
use Rattle.shape.proofs.Filling.{next_point, filled_leads, filled_lawful}

-- whether a point lies beyond another, as a test
abbrev pub beyond : List ℕ → ℕ → ℕ → ℕ → Bool
beyond body dir v w = (coordinate body (1 - dir) v == coordinate body (1 - dir) w) && ltb (coordinate body dir v) (coordinate body dir w)

beyond_decides : (body : List ℕ) (dir v w : ℕ) → Decides (beyond body dir v w) (Beyond body dir v w)
beyond_decides body dir v w =
    Decides-and _ _ (Decides-eqb (coordinate body (1 - dir) v) (coordinate body (1 - dir) w)) (Decides-ltb (coordinate body dir v) (coordinate body dir w))

pub decided_beyond : (body : List ℕ) (dir v w : ℕ) (b : Bool) → Decides b (Beyond body dir v w) → b ≡ beyond body dir v w
decided_beyond body dir v w b h = same_from_decides b (beyond body dir v w) h (beyond_decides body dir v w)

-- the least of the points beyond another is the nearest
pub nearest_picked : (n : ℕ) (body : List ℕ) (dir v : ℕ) (r : Option ℕ)
    → MatchOption r ((w : ℕ) → Within n w → beyond body dir v w ≡ true → ⊥) (λ m. Within n m × (beyond body dir v m ≡ true) × ((w : ℕ) → Within n w → beyond body dir v w ≡ true → coordinate body dir m ≤ coordinate body dir w))
    → MatchOption r ((w : ℕ) → Within n w → Beyond body dir v w → ⊥) (Nearest n body dir v)
nearest_picked n body dir v None none = λ w p b. none w p ((beyond_decides body dir v w).1 b)
nearest_picked n body dir v (Some m) h = record {
  point = h.0;
  beyond = (beyond_decides body dir v m).0 h.1;
  least = λ u p b. h.2 u p ((beyond_decides body dir v u).1 b);
}

module _ (n : ℕ) (body : List ℕ) where
  -- two points with one nearest point have one spot
  pub same_line : (dir v u w : ℕ) → dir ≤ 1 → Within n v → Within n u → Nearest n body dir v w → Nearest n body dir u w → SharesSpot body v u
  same_line dir v u w h pv pu a b d l =
      let across : coordinate body (1 - dir) v ≡ coordinate body (1 - dir) u = a.beyond.0 ∙ sym b.beyond.0 in
      let along : coordinate body dir v ≡ coordinate body dir u =
      elim (cases_order (coordinate body dir v) (coordinate body dir u)) [
        | inl e ↦ e
        | inr r ↦ elim r [
          | inl m ↦ absurd (let far = a.least u pu (across, m) in omega (arith, b.beyond.1))
          | inr m ↦ absurd (let far = b.least v pv (sym across, m) in omega (arith, a.beyond.1))
        ]
      ]
      in
      elim (ℕ_discrete d dir) [
        | yes e ↦ ap (λ (k : ℕ). coordinate body k v) e ∙ along ∙ ap (λ (k : ℕ). coordinate body k u) (sym e)
        | no e ↦ let o : d ≡ 1 - dir = omega arith in ap (λ (k : ℕ). coordinate body k v) o ∙ across ∙ ap (λ (k : ℕ). coordinate body k u) (sym o)
      ]

  -- a point that a wire leads to is the nearest
  pub led_nearest : (dir v w : ℕ) → Leads old_sheet n body dir v w → w ≢ 0 → Nearest n body dir v w
  led_nearest dir v w l h = elim (joins? body dir v) [ yes j ↦ l.0 j | no j ↦ absurd (h (l.1 j)) ]

  -- no two points have one nearest point, where no spot is taken
  pub nearest_apart : Nowhere n (Taken old_sheet n body) → (dir v u w : ℕ) → dir ≤ 1 → Within n v → Within n u → w ≢ 0 → Leads old_sheet n body dir v w → Leads old_sheet n body dir u w → v ≡ u
  nearest_apart spots dir v u w h pv pu some a b =
      one_spot n body spots v u pv pu (same_line dir v u w h pv pu (led_nearest dir v w a some) (led_nearest dir u w b some))

  -- ---- chains rise
  module _ (low : 1 ≤ n) (high : n ≤ 128) (l : Links) (F : Filled (Leads old_sheet n body) n (n * 2) l) (dir : ℕ) (h : dir ≤ 1) where
    rises : (v : ℕ) → (of_links l).next dir v ≢ 0 → coordinate body dir v < coordinate body dir ((of_links l).next dir v)
    rises v e =
        let p = next_point l dir v e in
        let led = filled_leads (Leads old_sheet n body) n l F low high dir v h (p.0, omega (arith, p.1, F.points)) in
        (led_nearest dir v _ led e).beyond.1

    chain_rises : (k v : ℕ) → steps (of_links l) dir (suc k) v ≢ 0 → coordinate body dir v < coordinate body dir (steps (of_links l) dir (suc k) v)
    chain_rises zero v e = rises v e
    chain_rises (suc k) v e =
        let u = steps (of_links l) dir (suc k) v in
        let p = next_point l dir u e in
        let before = chain_rises k v (λ z. omega (arith, p.0)) in
        let here = rises u e in
        omega arith

    pub rising_onward : (k v : ℕ) → Within l.points v → steps (of_links l) dir (suc k) v ≢ v
    rising_onward k v p e =
        let up = chain_rises k v (λ z. omega (arith, sym e ∙ z, p.0)) in
        let same = ap (coordinate body dir) e in
        omega arith

  pub rising_lawful : 1 ≤ n → n ≤ 128 → (l : Links) → Filled (Leads old_sheet n body) n (n * 2) l → Lawful (of_links l)
  rising_lawful low high l F = filled_lawful (Leads old_sheet n body) n l F low high (λ dir k v h p. rising_onward low high l F dir h k v p)
