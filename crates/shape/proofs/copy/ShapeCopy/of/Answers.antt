use Rattle.std.proofs.Common.{ap, ◌∙◌}
use Rattle.shape.specs.Tables.{of_links}
use Rattle.shape.proofs.Copying.{copied_lawful, copied}
use Rattle.shape.proofs.copy.ShapeCopy.of.Goals as goal

pub of-requires : goal.of-requires
of-requires g c = copied_lawful (g.S.ShapeSource.shape c.args.source.now) (g.met.S.ShapeSource.lawful c.args.source.now) c.links_of.result c.links_of.ensures

pub returns : goal.returns
returns g c =
    ap of_links c.of.ensures ∙ copied (g.S.ShapeSource.shape c.args.source.now) (g.met.S.ShapeSource.lawful c.args.source.now) c.links_of.result c.links_of.ensures
