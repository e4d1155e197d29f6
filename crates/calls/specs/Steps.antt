-- The lines of a replay's text, one after the other. Assumes nothing.
use Rattle.std.specs.Prelude.{◌≡◌, ℕ, ◌+◌, ◌^◌, ◌<◌, ◌⊎◌, List, [], ◌++◌, length, codes, Option, Some, None, Result, Ok, Err, ◌≢◌, slice_index}
use Rattle.calls.specs.Texts.{command_text}
use Rattle.calls.specs.declared.commands.Numbered.{Numbered}
use Rattle.calls.specs.declared.commands.ReadError.{ReadError}
use Rattle.calls.specs.declared.commands.ReadError.TheVariants.{Unreadable, Memory}

-- no byte of the line is a newline
abbrev pub OneLine : List ℕ → Type 0
OneLine line = (i : ℕ) → i < length line → slice_index line i ≢ 10

-- the text begins with the line, and the rest follows its newline; the last line may end without one
abbrev pub FirstLine : List ℕ → List ℕ → List ℕ → Type 0
FirstLine text line rest = OneLine line × ((text ≡ line ++ (codes "\n" ++ rest)) ⊎ ((text ≡ line) × (rest ≡ [])))

-- one line more is counted, as far as a usize counts
abbrev pub Counted : ℕ → ℕ → Type 0
Counted lines after = lines + 1 < 2 ^ 64 → after ≡ lines + 1

-- a step takes one line from the text, or finds the text at its end: the rest and the lines so far, before and after
abbrev pub Steps : Option (Result Numbered ReadError) → List ℕ → ℕ → List ℕ → ℕ → Type 0
Steps (Some (Ok read)) text n rest m = FirstLine text (command_text read.command) rest × Counted n m × (read.line ≡ m)
Steps (Some (Err (Unreadable number))) text n rest m = ((line : List ℕ) × FirstLine text line rest) × Counted n m × (number ≡ m)
Steps (Some (Err (Memory e))) text n rest m = ((line : List ℕ) × FirstLine text line rest) × Counted n m
Steps None text n rest m = (text ≡ []) × (rest ≡ text) × (m ≡ n)
