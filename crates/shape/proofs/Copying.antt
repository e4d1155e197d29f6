-- A table filled with the wires of a lawful shape has that shape. Assumes nothing.
use Rattle.std.proofs.Common.{◌≡◌, ℕ, zero, suc, ◌*◌, ◌≤◌, ◌≢◌, Some, sym, refl, ap, ◌∙◌, arith}
use mathlib.Core.Path.{fun_ext}
use Rattle.segments.specs.Shapes.{Shape, Lawful, Point, Same, steps}
use Rattle.segments.proofs.Forward.{same_by_forward}
use Rattle.shape.specs.declared.links.Links.{Links}
use Rattle.shape.specs.Tables.{Told, of_links, Filled}
use Rattle.shape.specs.Sources.{LeadsAs}
use Rattle.shape.proofs.Filling.{next_point, filled_leads, filled_lawful}
use Rattle.shape.proofs.Following.{told_point}

-- shapes with the same answers are one
pub same_equal : (s t : Shape) → Same s t → s ≡ t
same_equal s t e = λ i. record { points = e.points i; next = fun_ext (λ d. fun_ext (λ v. e.next d v)) i }

module _ (s : Shape) (L : Lawful s) where
  -- no two points have one neighbour at a side
  pub source_apart : (dir v u w : ℕ) → dir ≤ 1 → Point s v → Point s u → Told (s.next dir v) (Some w) → Told (s.next dir u) (Some w) → v ≡ u
  source_apart dir v u w h pv pu a b =
      let pw = told_point s L dir v pv w a in
      sym ((L.opposite dir v w h pv pw).0 (sym a.0)) ∙ (L.opposite dir u w h pu pw).0 (sym b.0)

  module _ (l : Links) (F : Filled (LeadsAs s) s.points (s.points * 2) l) where
    leads : (dir v : ℕ) → dir ≤ 1 → Point s v → (of_links l).next dir v ≡ s.next dir v
    leads = filled_leads (LeadsAs s) s.points l F L.some L.few

    -- chains to the right and above are those of the shape
    steps_alike : (dir k v : ℕ) → dir ≤ 1 → Point s v → steps (of_links l) dir k v ≢ 0 → steps (of_links l) dir k v ≡ steps s dir k v
    steps_alike dir zero v h p e = refl
    steps_alike dir (suc k) v h p e =
        let u = steps (of_links l) dir k v in
        let pu = next_point l dir u e in
        let same = steps_alike dir k v h p (λ z. omega (arith, pu.0)) in
        leads dir u h (pu.0, omega (arith, pu.1, F.points)) ∙ ap (s.next dir) same

    pub copied_lawful : Lawful (of_links l)
    copied_lawful = filled_lawful (LeadsAs s) s.points l F L.some L.few (λ dir k v h p e.
        let pv : Point s v = (p.0, omega (arith, p.1, F.points)) in
        L.never_returns dir k v pv (sym (steps_alike dir (suc k) v h pv (λ z. omega (arith, sym e ∙ z, p.0))) ∙ e))

    pub copied : of_links l ≡ s
    copied = same_equal (of_links l) s (same_by_forward (of_links l) s copied_lawful L F.points (λ dir v h p. leads dir v h (p.0, omega (arith, p.1, F.points))))
