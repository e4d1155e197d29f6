use Rattle.std.proofs.Common.{rules}
use Rattle.std.proofs.lemmas.Bool.Decides.{Decides-like}
use Rattle.path_table.proofs.marking.write_row_of.Goals as goal

pub returns-then-is_ok : goal.returns-then-is_ok
returns-then-is_ok c =
    let row = c.write_row.ensures in
    let marks = c.reached_from.ensures.marks_what_is_led_to (search rules) in
    record { nodes_stay = row.nodes_stay; row_is = λ v p q h. Decides-like _ (marks v).0 (marks v).1 (row.row_is v p q (search rules)); others_stay = row.others_stay }
