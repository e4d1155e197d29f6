-- The cells of a flow layer. Assumes nothing.
use Rattle.std.specs.Prelude.{ℕ, ◌+◌, ◌*◌, List, slice_index}

-- the cell from a to b, in n rows of n; one that is not there counts as 0
abbrev pub cell : ℕ → List ℕ → ℕ → ℕ → ℕ
cell n cells a b = slice_index cells (a * n + b)
