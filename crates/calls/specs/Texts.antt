-- The calls on a board and their answers as text. Assumes nothing.
use Rattle.std.specs.Prelude.{ℕ, ◌/◌, ◌%◌, Bool, true, false, List, [], ◌∷◌, ◌++◌, vec_items, codes, decimal}
use Rattle.std.specs.Char.{digit_char}
use Rattle.std.specs.List.{flat_map}
use Rattle.shape.specs.declared.refusal.Naming.{Naming}
use Rattle.logs.specs.declared.spot.Spot.{Spot}
use Rattle.logs.specs.Pairings.{pairing_text}
use Rattle.logs.specs.Refusals.{naming}
use Rattle.calls.specs.declared.line.Arc.{Arc}
use Rattle.calls.specs.declared.line.Line.{Line}
use Rattle.calls.specs.declared.line.Line.TheVariants.{Add, Strike, Arc as ArcCall, Apart, Draft, Lay}
use Rattle.calls.specs.declared.command.Opening.{Opening}
use Rattle.calls.specs.declared.command.Command.{Command}
use Rattle.calls.specs.declared.command.Command.TheVariants.{Case, Call}
use Rattle.calls.specs.declared.answer.Answer.{Answer}
use Rattle.calls.specs.declared.answer.Answer.TheVariants.{Done, Told, Paired, Drew, Refused}

-- two lower-case hexadecimal digits
abbrev pub byte_text : ℕ → List ℕ
byte_text b = digit_char (b / 16) ∷ digit_char (b % 16) ∷ []

-- the digits of each byte, and a dash where there is no byte
abbrev pub bytes_text : List ℕ → List ℕ
bytes_text [] = codes "-"
bytes_text (b ∷ bs) = flat_map byte_text (b ∷ bs)

-- the two coordinates of a place, each after a space
abbrev pub place_text : Spot → List ℕ
place_text p = codes " " ++ (decimal p.x ++ (codes " " ++ decimal p.y))

-- "no", the number of the refusal, the direction, and the first and the second value
abbrev pub naming_text : Naming → List ℕ
naming_text n =
    codes "no " ++ (decimal n.number ++ (codes " " ++ (decimal n.direction ++ (codes " " ++ (decimal n.first ++ (codes " " ++ decimal n.second))))))

abbrev pub told_text : Bool → List ℕ
told_text true = codes "yes"
told_text false = codes "none"

-- a drawing is its total, and then its places
abbrev pub answer_text : Answer → List ℕ
answer_text Done = codes "ok"
answer_text (Told t) = told_text t
answer_text (Paired k) = pairing_text k
answer_text (Drew total places) = decimal total ++ flat_map place_text (vec_items places)
answer_text (Refused e) = naming_text (naming e)

-- a direction and two names
abbrev pub arc_text : Arc → List ℕ
arc_text arc = decimal arc.direction ++ (codes " " ++ (decimal arc.from ++ (codes " " ++ decimal arc.to)))

abbrev pub lay_text : ℕ → List ℕ → List ℕ → List ℕ
lay_text n across up = codes "lay " ++ (decimal n ++ (codes " " ++ (bytes_text across ++ (codes " " ++ bytes_text up))))

abbrev pub line_text : Line → List ℕ
line_text (Add arc) = codes "add " ++ arc_text arc
line_text (Strike arc) = codes "strike " ++ arc_text arc
line_text (ArcCall arc) = codes "arc " ++ arc_text arc
line_text (Apart r c) = codes "apart " ++ (decimal r ++ (codes " " ++ decimal c))
line_text (Draft n) = codes "draft " ++ decimal n
line_text (Lay n across up) = lay_text n (vec_items across) (vec_items up)

-- the word, the number, the bytes of the shape file and the quarters
abbrev pub opening_text : Opening → List ℕ
opening_text o = codes "case " ++ (decimal o.number ++ (codes " " ++ (bytes_text (vec_items o.shape) ++ (codes " " ++ decimal o.turns))))

abbrev pub command_text : Command → List ℕ
command_text (Case opening) = opening_text opening
command_text (Call line) = line_text line
