use Rattle.std.proofs.Common.{ℕ, ◌-◌, Some, None, subst, arith}
use Rattle.shape.specs.Directions.{direction_number, direction_low}
use Rattle.shape.specs.Ends.{TellsArc}
use Rattle.segment_table.proofs.Counting.{no_wire, room, counted_skip, counted_wire}
use Rattle.segment_table.proofs.table.filling.count_from.Goals as goal

pub count-requires-clause-room : goal.count-requires-clause-room
count-requires-clause-room g c =
    let s = g.S.ShapeSource.shape c.args.source.now in
    let few = (g.met.S.ShapeSource.lawful c.args.source.now).few in
    let point = c.requires.point in
    let told = c.in-Some.ensures in
    let at = room s (direction_number c.args.direction) (c.args.point - 1) c.args.entries.now c.requires.before (omega arith) in
    ((at c.in-Some.arc.from told.1.1).0, (at c.in-Some.arc.to told.2.1).1)

pub returns-in-Some : goal.returns-in-Some
returns-in-Some g c =
    let s = g.S.ShapeSource.shape c.args.source.now in
    let dir = direction_number c.args.direction in
    let few = (g.met.S.ShapeSource.lawful c.args.source.now).few in
    let arc = c.in-Some.arc in
    let told : TellsArc s dir c.args.point (Some arc) = subst (λ (d : ℕ). TellsArc s d c.args.point (Some arc)) c.from.ensures c.in-Some.ensures in
    let after = c.count.ensures in
    counted_wire s dir c.args.point c.requires.point.0 c.args.entries.now c.requires.before arc.from arc.to few told.0.2 told.3 told.4 c.count.new.entries after.names after.ends after.near after.far

pub returns-in_default : goal.returns-in_default
returns-in_default g c =
    let s = g.S.ShapeSource.shape c.args.source.now in
    let dir = direction_number c.args.direction in
    let told : TellsArc s dir c.args.point None = subst (λ (d : ℕ). TellsArc s d c.args.point None) c.from.ensures c.in_default.ensures in
    counted_skip s dir c.args.point c.requires.point.0 c.args.entries.now c.requires.before (no_wire s dir c.args.point (direction_low c.args.direction) c.requires.point told)
