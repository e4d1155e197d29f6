use Rattle.std.proofs.Common.{◌≡◌, ◌*◌, length, sym, ◌∙◌, subst, arith}
use Rattle.shape.specs.Formats.{bytes_a_point, points_of, body_of, Sound, Defines}
use Rattle.shape.specs.Tables.{of_links}
use Rattle.shape.proofs.Reading.{header_fits, body_defines}
use Rattle.shape.proofs.format.described.Goals as goal

pub returns : goal.returns
returns g c =
    let f = g.F.FileFormat.format in
    let file = c.args.file.now in
    let parts = c.in-Some.ensures in
    let sized = c.in_ok-points.ensures in
    let bytes = c.BYTES_A_POINT.ensures ∙ g.met.F.FileFormat.its_bytes in
    let long : length (body_of file) ≡ bytes_a_point f * points_of file = cc (parts.1, parts.2, sized.1, bytes) in
    let fits = header_fits f file parts.0 (omega (arith, parts.1, sized.0, c.in_ok-points.points.some)) (omega (arith, parts.1, sized.0, c.in_ok-points.points.few)) long in
    subst (λ l. Sound f file × Defines f file (of_links l)) (sym c.of.ensures) (body_defines f file _ _ (sized.0 ∙ parts.1) parts.2 fits (of_links c.in_ok-links.links) c.in_ok-links.ensures)
