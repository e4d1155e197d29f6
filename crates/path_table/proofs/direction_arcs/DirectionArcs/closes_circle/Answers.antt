use Rattle.std.proofs.Common.{ℕ, sym, subst, rules}
use Rattle.segments.specs.Shapes.{Within}
use Rattle.shape.proofs.Searches.{any_decides}
use Rattle.path_table.proofs.Names.{PathAlong, path_within}
use Rattle.path_table.proofs.direction_arcs.DirectionArcs.closes_circle.Goals as goal

pub returns : goal.returns
returns c =
    let force = c.args.self.now.force in
    let n = c.nodes.result in
    let told = any_decides c.new.result n c.new.ensures.start c.new.ensures.end c.new.ensures.exhausted (λ a. PathAlong force a a) c.any.result c.any.ensures.runs (λ x b q h. search rules) in (
      (λ e. let found = told.0 e in (found.0, found.2)),
      λ p. told.1 (p.0, subst (λ (k : ℕ). Within k p.0) (sym c.nodes.ensures) (path_within force p.1).0, p.1),
    )
