-- The numbers of a shape record, followed as they are written and through the table. Assumes nothing.
use Rattle.std.proofs.Common.{◌≡◌, ℕ, zero, suc, ◌*◌, ◌≤◌, cond, ◌≢◌, ◌⊎◌, List, sym, refl, ap, ◌∙◌, inl, inr, arith}
use Rattle.segments.specs.Shapes.{Within, Lawful, steps}
use Rattle.std.proofs.lemmas.Bool.{cases_lt, cases_eq, cases_order, eq-eqb, ne_eqb}
use Rattle.std.proofs.lemmas.Bool.Decides.{nat_tests}
use Rattle.shape.specs.declared.links.Links.{Links}
use Rattle.shape.specs.Tables.{of_links, Filled}
use Rattle.shape.specs.Formats.{written, as_written, Unended, TooHigh, Taken, Leads, Nowhere}
use Rattle.shape.specs.Formats.Format.{shape_record}
use Rattle.shape.proofs.Filling.{next_is, filled_lawful}

module _ (n : ℕ) (body : List ℕ) where
  pub next_written : (d v : ℕ) → 1 ≤ v → (as_written n body).next d v ≡ written body d v
  next_written d v h = ap (λ t. cond t 0 (written body d v)) (ne_eqb v 0 (λ e. omega (arith, h)))

  pub in_range : Nowhere n (TooHigh shape_record n body) → (d v : ℕ) → d ≤ 1 → Within n v → written body d v ≤ n
  in_range range d v h p = elim (cases_lt n (written body d v)) [ inl m ↦ absurd (range v p (d, h, m)) | inr m ↦ m ]

  -- a step leads to a point
  pub written_onto : Nowhere n (TooHigh shape_record n body) → (d : ℕ) → d ≤ 1 → (v : ℕ) → Within n v → (as_written n body).next d v ≢ 0 → Within n ((as_written n body).next d v)
  written_onto range d h v p some =
      let is = next_written d v p.0 in
      let most = in_range range d v h p in
      (omega (arith, some), omega arith)

  -- no two points have one number, where none is taken
  pub written_apart : Nowhere n (Taken shape_record n body) → (d v u w : ℕ) → d ≤ 1 → Within n v → Within n u → 1 ≤ w → w ≡ written body d v → w ≡ written body d u → v ≡ u
  written_apart untaken d v u w h pv pu some a b =
      elim (cases_order v u) [
        | inl e ↦ e
        | inr r ↦ elim r [
          | inl m ↦ absurd (untaken u pu (d, v, h, pv.0, m, sym a ∙ b, omega arith))
          | inr m ↦ absurd (untaken v pv (d, u, h, pu.0, m, sym b ∙ a, omega arith))
        ]
      ]

  -- ---- chains through the table are those of the numbers
  module _ (l : Links) (F : Filled (Leads shape_record n body) n (n * 2) l) (dir : ℕ) (h : dir ≤ 1) where
    -- none, or a point
    abbrev Somewhere : ℕ → Type 0
    Somewhere v = (v ≡ 0) ⊎ Within n v

    next_alike : (v : ℕ) → Somewhere v → (of_links l).next dir v ≡ (as_written n body).next dir v
    next_alike v (inl e) = grind (arith, nat_tests)
    next_alike v (inr p) =
        next_is l dir v (omega arith) (p.0, omega (arith, p.1, F.points)) ∙ F.forward dir v h p (omega (arith, p.0, p.1)) ∙ sym (next_written dir v p.0)

    next_somewhere : (v : ℕ) → Somewhere v → Somewhere ((of_links l).next dir v)
    next_somewhere v (inl e) = inl (next_alike v (inl e) ∙ ap (λ t. cond t 0 (written body dir v)) (eq-eqb v 0 e))
    next_somewhere v (inr p) =
        let is = next_is l dir v (omega arith) (p.0, omega (arith, p.1, F.points)) in
        let most = F.inside dir v (omega arith) p in
        elim (cases_eq ((of_links l).next dir v) 0) [ inl e ↦ inl e | inr e ↦ inr (omega (arith, e), omega arith) ]

    pub walked : (k v : ℕ) → Within n v → (steps (of_links l) dir k v ≡ steps (as_written n body) dir k v) × Somewhere (steps (of_links l) dir k v)
    walked zero v p = (refl, inr p)
    walked (suc k) v p =
        let r = walked k v p in
        (next_alike _ r.1 ∙ ap ((as_written n body).next dir) r.0, next_somewhere _ r.1)

  pub ended_lawful : Nowhere n (Unended shape_record n body) → 1 ≤ n → n ≤ 128 → (l : Links) → Filled (Leads shape_record n body) n (n * 2) l → Lawful (of_links l)
  ended_lawful ended low high l F =
      filled_lawful (Leads shape_record n body) n l F low high (λ dir k v h p e.
      let at : Within n v = (p.0, omega (arith, p.1, F.points)) in
      ended v at (dir, h, (k, sym (walked l F dir h (suc k) v at).0 ∙ e)))
