use Rattle.std.proofs.Common.{ℕ, ◌*◌, Some, sym, subst, rules}
use Rattle.segments.specs.Shapes.{Within}
use Rattle.shape.specs.Directions.{direction_number, direction_low}
use Rattle.shape.specs.Sources.{LeadsAs}
use Rattle.shape.specs.Tables.{Told, Filled}
use Rattle.shape.proofs.Copying.{source_apart}
use Rattle.shape.proofs.Entering.{told_same}
use Rattle.shape.proofs.Filling.{filled_weaker}
use Rattle.shape.proofs.Following.{told_point}
use Rattle.shape.proofs.copy.links_of.Goals as goal

pub filled-requires-clause-to_points : goal.filled-requires-clause-to_points
filled-requires-clause-to_points g c = λ v w d p t.
    let s = g.S.ShapeSource.shape c.args.source.now in
    let same = c.points.ensures in
    let tells : Told (s.next (direction_number d) v) (Some w) = search rules in
    subst (λ (k : ℕ). Within k w) (sym same) (told_point s (g.met.S.ShapeSource.lawful c.args.source.now) (direction_number d) v (subst (λ (k : ℕ). Within k v) same p) w tells)

pub filled-requires-clause-apart : goal.filled-requires-clause-apart
filled-requires-clause-apart g c = λ v u w d pv pu t r.
    let s = g.S.ShapeSource.shape c.args.source.now in
    let same = c.points.ensures in
    let one : Told (s.next (direction_number d) v) (Some w) = search rules in
    let other : Told (s.next (direction_number d) u) (Some w) = search rules in
    source_apart s (g.met.S.ShapeSource.lawful c.args.source.now) (direction_number d) v u w (direction_low d) (subst (λ (k : ℕ). Within k v) same pv) (subst (λ (k : ℕ). Within k u) same pu) one other

pub returns : goal.returns
returns g c =
    let s = g.S.ShapeSource.shape c.args.source.now in
    let m = c.points.result in
    let weaker = filled_weaker (LeadsAs s) m (m * 2) c.in-Ok.links c.in-Ok.ensures in
    let table = weaker (λ d v w h p r.
    let tells : Told (s.next (direction_number r.0) v) r.1 = search rules in
    subst (λ (k : ℕ). LeadsAs s k v w) r.2 (told_same w (s.next (direction_number r.0) v) r.1 r.4 tells)) in
    subst (λ (k : ℕ). Filled (LeadsAs s) k (k * 2) c.in-Ok.links) c.points.ensures table
