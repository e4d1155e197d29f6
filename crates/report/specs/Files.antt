-- What a shape file's bytes come to as text. Assumes nothing.
use Rattle.std.specs.Prelude.{◌≡◌, ℕ, ◌≤◌, ◌⊎◌, List, ◌++◌, length, Ok, Err, codes, Result, slice_index}
use Rattle.segments.specs.Shapes.{Shape}
use Rattle.shape.specs.declared.refusal.Refusal.{Refusal}
use Rattle.shape.specs.Refusals.{naming}
use Rattle.shape.specs.Formats.{Format, Sound, Refuses, Defines}
use Rattle.report.specs.Texts.{refusal_line}
use Rattle.report.specs.Parts.{shape_text}
use Rattle.report.specs.Least.{LeastText}

-- a file that begins with the letter O is taken for an old sheet, and any other for a shape record
abbrev pub BeginsWithO : List ℕ → Type 0
BeginsWithO file = (1 ≤ length file) × (slice_index file 0 ≡ 79)

-- the text on a shape, and then its least coordinates
abbrev pub WholeText : Shape → List ℕ → Type 0
WholeText s text = (least : List ℕ) × LeastText s least × (text ≡ shape_text s ++ least)

-- the line of a refusal, of layer s and no record
abbrev pub RefusalText : Refusal → List ℕ → Type 0
RefusalText e text = text ≡ refusal_line (codes "s") 0 (naming e)

-- the text on what was read, or the line of the refusal
abbrev pub OutcomeText : Result (Unit {0}) Refusal → Shape → List ℕ → Type 0
OutcomeText (Ok x) s text = WholeText s text
OutcomeText (Err e) s text = RefusalText e text

-- a sound file tells the shape that it defines, and any other its refusal
abbrev pub FileText : Format → List ℕ → List ℕ → Type 0
FileText f file text =
    (Sound f file × ((s : Shape) × Defines f file s × WholeText s text)) ⊎ ((¬ Sound f file) × ((e : Refusal) × Refuses f file e × RefusalText e text))
