-- Which nodes a walk leads to, by rounds. Assumes nothing.
use Rattle.std.specs.Prelude.{◌≡◌, ℕ, ◌<◌, ◌≤◌, Bool, false, ◌||◌, T, ◌↔◌, List, nat_eq}
use Rattle.walks.specs.Nodes.{Below, Gaps, Arc, Walk, origin}
use Rattle.walks.specs.Rounds.{Labels, round}

-- a label says whether a node is reached: it is joined by 'or', and goes along every arc as it is
abbrev pub reach_labels : Labels Bool
reach_labels = record { join = ◌||◌; none = false; carry = λ g x. x }

-- whether b is reached from a in k rounds
abbrev pub reached : ℕ → Gaps → ℕ → ℕ → ℕ → Bool
reached n gap a k b = round reach_labels n gap (λ v. nat_eq v a) k b

-- a walk leads from a to b
pub record Reaches (n : ℕ) (gap : Gaps) (a b : ℕ) : Type 0 where
  pub way : List ℕ
  pub within : Below n way
  pub walk : Walk (Arc gap) b way
  pub from : origin b way ≡ a

-- over n nodes, m rounds or more decide reach
abbrev pub RoundsDecideReach : ℕ → ℕ → Type 0
RoundsDecideReach n m = (k : ℕ) → m ≤ k → (gap : Gaps) (a b : ℕ) → b < n → T (reached n gap a k b) ↔ Reaches n gap a b
