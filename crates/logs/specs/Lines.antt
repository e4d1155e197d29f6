-- The lines of a board's log: its calls with their arguments, refused ones too. Assumes nothing.
use Rattle.std.specs.Prelude.{ℕ, ◌+◌, ◌-◌, ◌*◌, cond, List, ◌==◌, slice_index}
use Rattle.segments.specs.Shapes.{Shape}
use Rattle.drawings.specs.Flows.{Flow}

-- A log is a list of lines, the newest first.
pub data Line : Type 0 where
  -- an arc: direction, from, to
  add : ℕ → ℕ → ℕ → Line
  strike : ℕ → ℕ → ℕ → Line
  arc : ℕ → ℕ → ℕ → Line
  -- a row and a column
  apart : ℕ → ℕ → Line
  -- how many records the points memory has
  draft : ℕ → Line
  -- likewise, and the cells across and up
  lay : ℕ → List ℕ → List ℕ → Line

-- the cell of a→b among n × n cells: number (a - 1) × n + (b - 1), counted from 0
abbrev pub cell_of : ℕ → List ℕ → ℕ → ℕ → ℕ
cell_of n cells a b = slice_index cells ((a - 1) * n + (b - 1))

-- the flow that the two memories hold
abbrev pub flow_of : Shape → List ℕ → List ℕ → Flow
flow_of s across up dir a b = cell_of s.points (cond (dir == 0) across up) a b
