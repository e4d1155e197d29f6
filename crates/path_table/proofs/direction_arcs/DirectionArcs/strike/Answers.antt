use Rattle.std.proofs.Common.{sym, ◌∙◌, refl, rules}
use Rattle.path_table.proofs.Changing.{struck}
use Rattle.path_table.proofs.Keeping.{paths_held}
use Rattle.path_table.proofs.Walking.{closed_paths}
use Rattle.path_table.proofs.direction_arcs.DirectionArcs.strike.Goals as goal

pub invariant_of-self : goal.invariant_of-self
invariant_of-self c =
    let t = c.args.self.now in
    let stay = sym c.clear.ensures.nodes_stay in
    record { one_size = t.one_size ∙ stay; tracks = ∣ closed_paths c.clear.new.self t.paths c.write_paths.new.paths ((paths_held t.force t.paths t.tracks).nodes ∙ stay) c.write_paths.ensures ∣₁ }

pub returns-in-Some : goal.returns-in-Some
returns-in-Some c =
    struck c.args.self.now _ c.args.a c.args.b c.in-Some.from c.in-Some.to (search rules) (search rules) (search rules) (search rules) refl c.write_paths.ensures.nodes_stay c.clear.ensures
