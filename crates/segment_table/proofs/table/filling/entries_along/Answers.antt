use Rattle.std.proofs.Common.{◌≡◌, ℕ, ◌+◌, ◌-◌, subst, arith, rules}
use Rattle.shape.proofs.Searches.{made_from}
use Rattle.shape.specs.Directions.{direction_number}
use Rattle.segment_table.specs.Records.{blank, entry_of, Along, Uncounted}
use Rattle.segment_table.proofs.Counting.{uncounted_all}
use Rattle.segment_table.proofs.table.filling.entries_along.Goals as goal

pub loop-point-init : goal.loop-point-init
loop-point-init g c =
    let s = g.S.ShapeSource.shape c.args.source.now in
    let dir = direction_number c.args.direction in
    let few = (g.met.S.ShapeSource.lawful c.args.source.now).few in
    uncounted_all s dir c.from_fn-entries.result
    (λ v p.
    let back : v - 1 + 1 ≡ v = omega (arith, p.0) in
    subst (λ (u : ℕ). Uncounted s dir u (entry_of c.from_fn-entries.result v)) back
    (made_from (λ k e. Uncounted s dir (k + 1) e) _ c.from_fn-entries.result blank (λ x y q h. search rules) 0 128 c.from_fn-entries.ensures.items.each (v - 1) (omega arith) (omega (arith, p.0, p.1, few))))

pub returns-2 : goal.returns-2
returns-2 g c =
    let s = g.S.ShapeSource.shape c.args.source.now in
    let all : c.loop-point.point ≡ s.points = search rules in
    subst (λ (k : ℕ). Along s (direction_number c.args.direction) k c.count_from.new.entries) all c.count_from.ensures
