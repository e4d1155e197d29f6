use Rattle.std.proofs.Common.{sym, ◌∙◌, refl, rules}
use Rattle.std.proofs.Math.Logic.{∥∥₁_map}
use Rattle.path_table.proofs.Changing.{added}
use Rattle.path_table.proofs.Following.{paths_follow}
use Rattle.path_table.proofs.Widening.{put_widened}
use Rattle.path_table.proofs.direction_arcs.DirectionArcs.add.Goals as goal

pub invariant_of-self : goal.invariant_of-self
invariant_of-self c =
    let t = c.args.self.now in
    let widened = put_widened t.force c.set.new.self c.in-Some.from c.in-Some.to c.set.ensures in
    record {
      one_size = t.one_size ∙ sym c.set.ensures.nodes_stay;
      tracks = ∥∥₁_map t.tracks (λ was. paths_follow t.force c.set.new.self t.paths c.join_through.new.paths c.in-Some.from c.in-Some.to (search rules) (search rules) was widened c.join_through.ensures);
    }

pub returns-in-Some : goal.returns-in-Some
returns-in-Some c =
    added c.args.self.now _ c.args.a c.args.b c.in-Some.from c.in-Some.to (search rules) (search rules) (search rules) (search rules) refl c.join_through.ensures.nodes_stay c.set.ensures
