-- A chain written point by point. Assumes nothing.
use Rattle.std.proofs.Common.{◌≡◌, ℕ, ◌<◌, ◌≤◌, ◌∷◌, ◌++◌, codes, decimal, ap, ◌∙◌, sym, arith}
use Rattle.segments.specs.Shapes.{Shape, Lawful, Point}
use Rattle.segments.specs.Segments.{chain}
use Rattle.segments.proofs.Chains.{ahead, chain_next}
use Rattle.shape.proofs.Following.{told_ahead}
use Rattle.report.specs.Texts.{spaced}

module _ (s : Shape) (L : Lawful s) (d at next : ℕ) (told : (next ≡ s.next d at) × (1 ≤ s.next d at)) where
  joined : s.next d at ≡ 0 → ⊥
  joined e = omega (arith, told.1)

  here : Point s at
  here = (L.from_points d at joined).1

  -- one point, and then the rest
  pub written_next : spaced (chain s d at) ≡ (codes " " ++ decimal at) ++ spaced (chain s d next)
  written_next = ap spaced (chain_next s L d at here joined) ∙ ap (λ (k : ℕ). spaced (at ∷ chain s d k)) (sym told.0)

  pub nearer : ahead s d next < ahead s d at
  nearer = told_ahead s L d at here next told
