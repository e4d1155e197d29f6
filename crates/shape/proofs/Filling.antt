-- Filling a table of neighbours wire by wire. Assumes nothing.
use Rattle.std.proofs.Common.{◌≡◌, ℕ, suc, ◌+◌, ◌-◌, ◌*◌, ◌<◌, ◌≤◌, ◌≢◌, ◌↔◌, List, [], get_or, replicate, sym, refl, ap, ◌∙◌, subst, inl, inr, arith}
use native.Mathlib.Decide.{ℕ_discrete}
use Rattle.std.proofs.lemmas.List.{get_or-replicate, get_or_past, length-replicate}
use Rattle.std.proofs.lemmas.Bool.{cases_lt}
use Rattle.std.proofs.lemmas.Bool.Decides.{nat_tests}
use Rattle.segments.specs.Shapes.{Lawful, Within, steps}
use Rattle.segments.proofs.Forward.{lawful_by_forward}
use Rattle.shape.specs.declared.links.Links.{Links}
use Rattle.shape.specs.Tables.{cell, of_links, Filled}

-- a fresh table holds its one value everywhere
pub get_d_fresh : {X : Type 0} (d : X) (n i : ℕ) → get_or (replicate n d) i d ≡ d
get_d_fresh d n i =
    elim (cases_lt i n) [
      | inl h ↦ get_or-replicate n i d d h
      | inr h ↦ get_or_past (replicate n d) i d (let e = length-replicate n d in omega arith)
    ]

-- and so does a fresh table of rows
pub fresh_rows : (rows n d i : ℕ) → (let none : ℕ = 0 in get_or (get_or (replicate rows (replicate n none)) d []) i none ≡ none)
fresh_rows rows n d i =
    let none : ℕ = 0 in
    elim (cases_lt d rows) [
      | inl h ↦ ap (λ (row : List ℕ). get_or row i 0) (get_or-replicate rows d (replicate n none) [] h) ∙ get_d_fresh 0 n i
      | inr h ↦
          ap (λ (row : List ℕ). get_or row i 0) (get_or_past (replicate rows (replicate n none)) d [] (let e = length-replicate rows (replicate n none) in omega arith)) ∙ get_or_past [] i 0 (omega arith)
    ]

-- ---- what a table answers
module _ (l : Links) (d v : ℕ) where
  pub next_is : d ≤ 3 → Within l.points v → (of_links l).next d v ≡ cell l d v
  next_is h p = let a = p.0 in let b = p.1 in grind (arith, nat_tests)

  pub next_side : (of_links l).next d v ≢ 0 → d ≤ 3
  next_side h = elim (cases_lt d 4) [ inl k ↦ omega arith | inr k ↦ absurd (h (grind (arith, nat_tests))) ]

  pub next_point : (of_links l).next d v ≢ 0 → Within l.points v
  next_point h =
      elim (cases_lt v 1) [
        | inl k ↦ absurd (h (grind (arith, nat_tests)))
        | inr k ↦ elim (cases_lt l.points v) [ inl m ↦ absurd (h (grind (arith, nat_tests))) | inr m ↦ (k, m) ]
      ]

-- ---- one wire more
module _ (R : ℕ → ℕ → ℕ → Type 0) (n : ℕ) where
  module _ (l : Links) (i dir v : ℕ) (F : Filled R n i l) (at : i ≡ (v - 1) * 2 + dir) (hd : dir ≤ 1) (pv : Within n v) where
    same_wire : (d u : ℕ) → d ≤ 1 → Within n u → (u - 1) * 2 + d ≡ i → (d ≡ dir) × (u ≡ v)
    same_wire d u h p e = (omega (arith, p.0, pv.0), omega (arith, p.0, pv.0))

    -- no wire there
    pub filled_skip : R dir v 0 → Filled R n (i + 1) l
    filled_skip r = record {
      points = F.points;
      forward = λ d u h p k. elim (cases_lt ((u - 1) * 2 + d) i) [
        | inl m ↦ F.forward d u h p m
        | inr m ↦
            let q = same_wire d u h p (omega arith) in
            let none : 0 ≡ cell l d u = sym (F.empty d u h p m) in
            subst (λ (x : ℕ). R d u x) none (subst (λ (x : ℕ). R d x 0) (sym q.1) (subst (λ (x : ℕ). R x v 0) (sym q.0) r))
      ];
      empty = λ d u h p k. F.empty d u h p (omega arith);
      inside = F.inside;
      opposite = F.opposite;
    }

    -- no wire of the table leads to where the next wire does, where no two lead to one point
    pub filled_free : ((u w : ℕ) → Within n u → Within n w → R dir v w → R dir u w → u ≡ v) → (w : ℕ) → Within n w → R dir v w → cell l (dir + 2) w ≡ 0
    filled_free apart w pw r =
        elim (ℕ_discrete (cell l (dir + 2) w) 0) [
          | yes e ↦ e
          | no e ↦
              let u = cell l (dir + 2) w in
              let pu : Within n u = (omega (arith, e), F.inside (dir + 2) w (omega arith) pw) in
              let on = (F.opposite dir u w hd pu pw).1 refl in
              absurd (elim (cases_lt ((u - 1) * 2 + dir) i) [
                | inl m ↦ let same = apart u w pu pw r (subst (λ (k : ℕ). R dir u k) on (F.forward dir u hd pu m)) in omega arith
                | inr m ↦ let none = F.empty dir u hd pu m in omega (arith, pw.0)
              ])
        ]

    -- a wire from v to w, which none leads to yet
    module _ (w : ℕ) (pw : Within n w) (free : cell l (dir + 2) w ≡ 0) (r : R dir v w) (l' : Links) (points : l'.points ≡ l.points) (there : cell l' dir v ≡ w) (back : cell l' (dir + 2) w ≡ v) (others : (d u : ℕ) → 1 ≤ u → ((d ≡ dir) × (u ≡ v) → ⊥) → ((d ≡ dir + 2) × (u ≡ w) → ⊥) → cell l' d u ≡ cell l d u) where
      -- another cell of the first two sides stays
      stays : (d u : ℕ) → d ≤ 1 → Within n u → ((d ≡ dir) × (u ≡ v) → ⊥) → cell l' d u ≡ cell l d u
      stays d u h p other = others d u p.0 other (λ e. omega (arith, e.0))

      -- another cell of the last two sides stays
      stays_back : (d u : ℕ) → Within n u → ((d ≡ dir) × (u ≡ w) → ⊥) → cell l' (d + 2) u ≡ cell l (d + 2) u
      stays_back d u p other = others (d + 2) u p.0 (λ e. omega (arith, e.0)) (λ e. other (omega (arith, e.0), e.1))

      this : (d u : ℕ) → Dec ((d ≡ dir) × (u ≡ v))
      this d u = elim (ℕ_discrete d dir) [ no a ↦ no (λ e. a e.0) | yes a ↦ elim (ℕ_discrete u v) [ no b ↦ no (λ e. b e.1) | yes b ↦ yes (a, b) ] ]

      -- the new wire's cell
      cell_there : (d u : ℕ) → (d ≡ dir) × (u ≡ v) → cell l' d u ≡ w
      cell_there d u e = ap (λ (x : ℕ). cell l' x u) e.0 ∙ ap (λ (x : ℕ). cell l' dir x) e.1 ∙ there

      cell_back : (d u : ℕ) → (d ≡ dir + 2) × (u ≡ w) → cell l' d u ≡ v
      cell_back d u e = ap (λ (x : ℕ). cell l' x u) e.0 ∙ ap (λ (x : ℕ). cell l' (dir + 2) x) e.1 ∙ back

      joined_forward : (d u : ℕ) → d ≤ 1 → Within n u → (u - 1) * 2 + d < i + 1 → R d u (cell l' d u)
      joined_forward d u h p k =
          elim (this d u) [
            | yes e ↦ subst (λ (x : ℕ). R d u x) (sym (cell_there d u e)) (subst (λ (x : ℕ). R d x w) (sym e.1) (subst (λ (x : ℕ). R x v w) (sym e.0) r))
            | no o ↦ elim (cases_lt ((u - 1) * 2 + d) i) [
              | inl m ↦ subst (λ (x : ℕ). R d u x) (sym (stays d u h p o)) (F.forward d u h p m)
              | inr m ↦ absurd (o (same_wire d u h p (omega arith)))
            ]
          ]

      joined_inside : (d u : ℕ) → d ≤ 3 → Within n u → cell l' d u ≤ n
      joined_inside d u h p =
          elim (this d u) [
            | yes e ↦ omega (arith, cell_there d u e, pw.1)
            | no o ↦ elim (ℕ_discrete d (dir + 2)) [
              | no a ↦ omega (arith, others d u p.0 o (λ e. a e.0), F.inside d u h p)
              | yes a ↦ elim (ℕ_discrete u w) [
                | yes b ↦ omega (arith, cell_back d u (a, b), pv.1)
                | no b ↦ omega (arith, others d u p.0 o (λ e. b e.1), F.inside d u h p)
              ]
            ]
          ]

      -- in the direction of the new wire
      joined_opposite : (u x : ℕ) → Within n u → Within n x → (cell l' dir u ≡ x) ↔ (cell l' (dir + 2) x ≡ u)
      joined_opposite u x pu px = (on, off)
        where
          on : cell l' dir u ≡ x → cell l' (dir + 2) x ≡ u
          on e =
              elim (ℕ_discrete u v) [
                | yes a ↦ let q : x ≡ w = sym e ∙ cell_there dir u (refl, a) in cell_back (dir + 2) x (refl, q) ∙ sym a
                | no a ↦
                    let old = (F.opposite dir u x hd pu px).0 (sym (stays dir u hd pu (λ f. a f.1)) ∙ e) in
                    elim (ℕ_discrete x w) [
                      | yes b ↦ absurd (omega (arith, sym old ∙ ap (λ (y : ℕ). cell l (dir + 2) y) b ∙ free, pu.0))
                      | no b ↦ stays_back dir x px (λ f. b f.1) ∙ old
                    ]
              ]

          off : cell l' (dir + 2) x ≡ u → cell l' dir u ≡ x
          off e =
              elim (ℕ_discrete x w) [
                | yes b ↦ let q : u ≡ v = sym e ∙ cell_back (dir + 2) x (refl, b) in cell_there dir u (refl, q) ∙ sym b
                | no b ↦
                    let old = (F.opposite dir u x hd pu px).1 (sym (stays_back dir x px (λ f. b f.1)) ∙ e) in
                    elim (ℕ_discrete u v) [
                      | yes a ↦ absurd (omega (arith, sym old ∙ ap (λ (y : ℕ). cell l dir y) a ∙ F.empty dir v hd pv (omega arith), px.0))
                      | no a ↦ stays dir u hd pu (λ f. a f.1) ∙ old
                    ]
              ]

      joined_opposites : (d u x : ℕ) → d ≤ 1 → Within n u → Within n x → (cell l' d u ≡ x) ↔ (cell l' (d + 2) x ≡ u)
      joined_opposites d u x h pu px =
          elim (ℕ_discrete d dir) [
            | yes a ↦ subst (λ (y : ℕ). (cell l' y u ≡ x) ↔ (cell l' (y + 2) x ≡ u)) (sym a) (joined_opposite u x pu px)
            | no a ↦
                let on = stays d u h pu (λ f. a f.0) in
                let off = stays_back d x px (λ f. a f.0) in
                (λ e. off ∙ (F.opposite d u x h pu px).0 (sym on ∙ e), λ e. on ∙ (F.opposite d u x h pu px).1 (sym off ∙ e))
          ]

      pub filled_join : Filled R n (i + 1) l'
      filled_join = record {
        points = points ∙ F.points;
        forward = joined_forward;
        empty = λ d u h p k. stays d u h p (λ e. omega (arith, e.0, e.1)) ∙ F.empty d u h p (omega arith);
        inside = joined_inside;
        opposite = joined_opposites;
      }

-- ---- a table with all its wires
module _ (R : ℕ → ℕ → ℕ → Type 0) (n : ℕ) (l : Links) (F : Filled R n (n * 2) l) (low : 1 ≤ n) (high : n ≤ 128) where
  at_points : {v : ℕ} → Within n v → Within l.points v
  at_points p = (p.0, omega (arith, p.1, F.points))

  of_points : {v : ℕ} → Within l.points v → Within n v
  of_points p = (p.0, omega (arith, p.1, F.points))

  pub filled_leads : (d v : ℕ) → d ≤ 1 → Within n v → R d v ((of_links l).next d v)
  filled_leads d v h p = subst (λ (x : ℕ). R d v x) (sym (next_is l d v (omega arith) (at_points p))) (F.forward d v h p (omega (arith, p.0, p.1)))

  to_points : (d v : ℕ) → (of_links l).next d v ≢ 0 → Within l.points ((of_links l).next d v)
  to_points d v h =
      let p = next_point l d v h in
      let e = next_is l d v (next_side l d v h) p in
      let bound = F.inside d v (next_side l d v h) (of_points p) in
      (omega (arith, h), omega (arith, F.points))

  opposite : (dir v w : ℕ) → dir ≤ 1 → Within l.points v → Within l.points w → ((of_links l).next dir v ≡ w) ↔ ((of_links l).next (dir + 2) w ≡ v)
  opposite dir v w h p q =
      let on = next_is l dir v (omega arith) p in
      let off = next_is l (dir + 2) w (omega arith) q in
      let both = F.opposite dir v w h (of_points p) (of_points q) in
      (λ e. off ∙ both.0 (sym on ∙ e), λ e. on ∙ both.1 (sym off ∙ e))

  pub filled_lawful : ((dir k v : ℕ) → dir ≤ 1 → Within l.points v → steps (of_links l) dir (suc k) v ≢ v) → Lawful (of_links l)
  filled_lawful onward =
      lawful_by_forward (of_links l) (λ d v h. (next_side l d v h, next_point l d v h)) to_points opposite (omega (arith, F.points)) (omega (arith, F.points)) onward

-- the same table, where the relation says less
pub filled_weaker : {R : ℕ → ℕ → ℕ → Type 0} (Q : ℕ → ℕ → ℕ → Type 0) (n i : ℕ) (l : Links) → Filled R n i l → ((d v w : ℕ) → d ≤ 1 → Within n v → R d v w → Q d v w) → Filled Q n i l
filled_weaker Q n i l F less = record {
  points = F.points;
  forward = λ d u h p k. less d u _ h p (F.forward d u h p k);
  empty = F.empty;
  inside = F.inside;
  opposite = F.opposite;
}
