use Rattle.std.proofs.Common.{ℕ, ◌*◌, Some, Ok, sym, subst, rules, ap}
use Rattle.shape.specs.declared.points.PointCount.{PointCount}
use Rattle.segments.specs.Shapes.{Within}
use Rattle.shape.specs.Directions.{direction_number, direction_low}
use Rattle.shape.specs.Formats.{TellsWire}
use Rattle.std.proofs.lemmas.Result.{MatchResult-weaker}
use Rattle.shape.specs.Tables.{Filled}
use Rattle.shape.proofs.Filling.{filled_weaker}
use Rattle.shape.proofs.Leading.{answer_onto, answer_apart, Ended, answer_ended, all_tabled, first_unended}
use Rattle.shape.proofs.body.tabled.Goals as goal

pub filled-requires-clause-to_points : goal.filled-requires-clause-to_points
filled-requires-clause-to_points g c = λ v w d p t.
    let f = g.B.Body.format in
    let n = (g.B.Body.count c.args.body.now).count in
    let body = g.B.Body.bytes c.args.body.now in
    let tells : TellsWire f n body (direction_number d) v (Ok (Some w)) = search rules in
    let same = ap (λ (k : PointCount). k.count) c.points.ensures in
    let ok = c.in_ok-check.ensures in
    subst (λ (k : ℕ). Within k w) (sym same)
    (answer_onto f n body ok.0 ok.1 (direction_number d) v w (direction_low d) (subst (λ (k : ℕ). Within k v) same p) tells.1)

pub filled-requires-clause-apart : goal.filled-requires-clause-apart
filled-requires-clause-apart g c = λ v u w d pv pu t s.
    let f = g.B.Body.format in
    let n = (g.B.Body.count c.args.body.now).count in
    let body = g.B.Body.bytes c.args.body.now in
    let one : TellsWire f n body (direction_number d) v (Ok (Some w)) = search rules in
    let other : TellsWire f n body (direction_number d) u (Ok (Some w)) = search rules in
    let same = ap (λ (k : PointCount). k.count) c.points.ensures in
    let ok = c.in_ok-check.ensures in
    answer_apart f n body ok.0 ok.1 (direction_number d) v u w (direction_low d) (subst (λ (k : ℕ). Within k v) same pv) (subst (λ (k : ℕ). Within k u) same pu) one.1 other.1

pub returns : goal.returns
returns g c =
    let f = g.B.Body.format in
    let count = g.B.Body.count c.args.body.now in
    let n = count.count in
    let body = g.B.Body.bytes c.args.body.now in
    let ok = c.in_ok-check.ensures in
    let m = c.points.result.count in
    let same = ap (λ (k : PointCount). k.count) c.points.ensures in
    let weaker = MatchResult-weaker c.filled.result c.filled.ensures in
    weaker (λ l F.
    let ended = filled_weaker (Ended f n body ok.0 ok.1) m (m * 2) l F in
    let table = ended (λ d v w h p r.
    let tells : TellsWire f n body (direction_number r.0) v (Ok r.1) = search rules in
    subst (λ (k : ℕ). Ended f n body ok.0 ok.1 k v w) r.2 (answer_ended f n body ok.0 ok.1 (direction_number r.0) v w r.1 tells r.4)) in
    all_tabled f n body ok.0 ok.1 count.some count.few l (subst (λ (k : ℕ). Filled (Ended f n body ok.0 ok.1) k (k * 2) l) same table)) (λ e t.
    let first = first_unended f n body ok.0 ok.1 m same e t in
    first (λ v d r told. search rules))
