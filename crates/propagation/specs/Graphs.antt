-- What every constraint graph keeps to. Names no type of the crate. Assumes nothing.
use Rattle.std.specs.Prelude.{ℕ, ◌<◌, ◌≤◌, ℤ, pos, neg_ℤ, ◌≤ℤ◌}
use Rattle.walks.specs.Nodes.{Gaps, Arc}
use Rattle.walks.specs.Places.{EveryGap}

-- a gap lies from -s to s
abbrev pub Within : ℕ → ℤ → Type 0
Within s g = (neg_ℤ (pos s) ≤ℤ g) × (g ≤ℤ pos s)

-- 1 to 128 nodes, and gaps from -100 to 100; a number that is no node has no arc
pub record Bounds {S : Type 0} (size : S → ℕ) (gaps : S → Gaps) : Type 0 where
  pub one_or_more : (g : S) → 1 ≤ size g
  pub at_most_128 : (g : S) → size g ≤ 128
  pub gaps_within_100 : (g : S) → EveryGap (size g) (gaps g) (Within 100)
  pub arcs_join_nodes : (g : S) (a b : ℕ) → Arc (gaps g) a b → (a < size g) × (b < size g)
