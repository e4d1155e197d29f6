-- Flows along the arcs of a graph, and when one has the greatest sum of those with its balance. Assumes nothing.
use Rattle.std.specs.Prelude.{◌≡◌, ℕ, ◌+◌, ◌-◌, ◌*◌, ◌<◌, ◌≤◌, cond, ◌⊎◌, ◌↔◌, List, [], ◌∷◌, ℤ, pos, ◌+ℤ◌, ◌*ℤ◌, neg_ℤ, ◌≤ℤ◌, ◌<ℤ◌, is_some, Some, None, ◌==◌, nat_lt}
use Rattle.std.specs.Option.{option_or, option_map}
use Rattle.walks.specs.Nodes.{Gaps, worth}
use Rattle.walks.specs.Places.{Keeps, Settled, GainingCircuit}
use Rattle.walks.specs.Sums.{sumZ, inflow, outflow}

-- the cells f are a flow of the graph: a cell is 0 where there is no arc
abbrev pub OnArcs : ℕ → Gaps → (ℕ → ℕ → ℕ) → Type 0
OnArcs n gap f = (a b : ℕ) → a < n → b < n → gap a b ≡ None → f a b ≡ 0

-- at each node, what comes in less what goes out is the same for f and g
abbrev pub SameBalance : ℕ → (ℕ → ℕ → ℕ) → (ℕ → ℕ → ℕ) → Type 0
SameBalance n f g = (c : ℕ) → c < n → inflow n g c + outflow n f c ≡ inflow n f c + outflow n g c

-- a flow's sum: of cell times gap
abbrev pub volume : ℕ → Gaps → (ℕ → ℕ → ℕ) → ℤ
volume n gap f = sumZ n (λ a. sumZ n (λ b. pos (f a b) *ℤ worth gap a b))

-- no flow with the balance of f has a larger sum
abbrev pub Greatest : ℕ → Gaps → (ℕ → ℕ → ℕ) → Type 0
Greatest n gap f = (g : ℕ → ℕ → ℕ) → OnArcs n gap g → SameBalance n f g → volume n gap g ≤ℤ volume n gap f

-- wherever the cell is above 0, the coordinates x have nothing to spare beyond the gap
abbrev pub Tight : ℕ → Gaps → (ℕ → ℕ → ℕ) → (ℕ → ℤ) → Type 0
Tight n gap f x = (a b : ℕ) → a < n → b < n → 0 < f a b → x b ≤ℤ (x a +ℤ worth gap a b)

-- coordinates that satisfy every gap, and satisfy it exactly wherever the cell is above 0, show that a flow is the greatest
abbrev pub TightIsGreatest : Type 0
TightIsGreatest = (n : ℕ) (gap : Gaps) (f : ℕ → ℕ → ℕ) (x : ℕ → ℤ) → Keeps n gap x → Tight n gap f x → Greatest n gap f

-- the flow layer: the gaps below, and where there is none, minus the gap of the arc back if its cell is above 0
abbrev pub layer : Gaps → (ℕ → ℕ → ℕ) → Gaps
layer gap f a b = option_or (gap a b) (cond (nat_lt 0 (f b a)) (option_map neg_ℤ (gap b a)) None)

-- 1 at the cell from u to v, and 0 at the others
abbrev pub unit : ℕ → ℕ → ℕ → ℕ → ℕ
unit u v a b = cond (a == u) (cond (b == v) 1 0) 0

-- how often a walk of the layer goes along the arc from a to b
abbrev pub forth : Gaps → ℕ → List ℕ → ℕ → ℕ → ℕ
forth gap v [] a b = 0
forth gap v (u ∷ l) a b = forth gap u l a b + cond (is_some (gap u v)) (unit u v a b) 0

-- and how often it goes against it
abbrev pub back : Gaps → ℕ → List ℕ → ℕ → ℕ → ℕ
back gap v [] a b = 0
back gap v (u ∷ l) a b = back gap u l a b + cond (is_some (gap u v)) 0 (unit v u a b)

-- the cells f, raised by k where the walk l into v goes along an arc, and lowered by k where it goes against one
abbrev pub rerouted : Gaps → (ℕ → ℕ → ℕ) → ℕ → ℕ → List ℕ → ℕ → ℕ → ℕ
rerouted gap f k v l a b = (f a b + k * forth gap v l a b) - k * back gap v l a b

-- g is a flow with the balance of f and a larger sum
pub record Better (n : ℕ) (gap : Gaps) (f g : ℕ → ℕ → ℕ) : Type 0 where
  pub on : OnArcs n gap g
  pub balanced : SameBalance n f g
  pub more : volume n gap f <ℤ volume n gap g

-- a circuit of the layer with a sum above 0 yields a better flow, if each cell changes by k
abbrev pub CircuitBetters : ℕ → Type 0
CircuitBetters k =
    (n : ℕ) (gap : Gaps) (f : ℕ → ℕ → ℕ) → OnArcs n gap f → (c : GainingCircuit n (layer gap f)) → Better n gap f (rerouted gap f k c.node c.loop)

-- where two arcs go both ways between two nodes, their gaps sum to 0 or more
abbrev pub Opposed : ℕ → Gaps → Type 0
Opposed n gap = (a b : ℕ) (g h : ℤ) → a < n → b < n → gap a b ≡ Some g → gap b a ≡ Some h → pos 0 ≤ℤ (g +ℤ h)

-- coordinates that satisfy the gaps of the layer satisfy those below, and are tight
abbrev pub LayerIsTight : Type 0
LayerIsTight =
    (n : ℕ) (gap : Gaps) (f : ℕ → ℕ → ℕ) (x : ℕ → ℤ) → Opposed n gap → OnArcs n gap f → Keeps n (layer gap f) x → Keeps n gap x × Tight n gap f x

-- a flow is the greatest, or there is a better one
abbrev pub GreatestOrBetter : Type 0
GreatestOrBetter =
    (n : ℕ) (gap : Gaps) (f : ℕ → ℕ → ℕ) → Opposed n gap → OnArcs n gap f → Greatest n gap f ⊎ ((g : ℕ → ℕ → ℕ) × Better n gap f g)

-- over n nodes, round m or a later one changes no place of the layer exactly if the flow is the greatest
abbrev pub LayerTellsGreatest : ℕ → ℕ → Type 0
LayerTellsGreatest n m =
    (gap : Gaps) (f : ℕ → ℕ → ℕ) (k : ℕ) → m ≤ k + 1 → Opposed n gap → OnArcs n gap f → Settled n (layer gap f) k ↔ Greatest n gap f
