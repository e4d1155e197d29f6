use Rattle.std.proofs.Common.{◌≡◌, ℕ, ◌+◌, ◌-◌, ◌*◌, [], ◌∷◌, get_or, Option, Ok, sym, subst, arith, rules}
use Rattle.shape.specs.declared.direction.Direction.{Direction}
use Rattle.shape.specs.declared.direction.Direction.TheVariants.{Across, Up}
use Rattle.shape.specs.Directions.{direction_number}
use Rattle.shape.specs.Tables.{Filled, LeadsBy}
use Rattle.shape.proofs.Entering.{nth_direction, told_before, entered, skipped}
use Rattle.shape.proofs.Reading.{handed_on}
use Rattle.shape.proofs.wires.filled.Goals as goal
use Rattle.shape.proofs.wires.filled.Goals.{in-Some, in_default, else-loop-point-test, then-loop-point-test+else-loop-direction-test+else-point-count}

pub returns-in_err-next : goal.returns-in_err-next
returns-in_err-next g c =
    let Tells = λ (v : ℕ) (d : Direction) (o : Option ℕ). goal.F-post g c.args.wire v d (Ok o) in
    let v = c.loop-point.point in
    let k = c.loop-direction.direction-index in
    let pv = c.loop-direction.invariant.0 in
    let before = told_before Tells c.args.points.count c.requires.apart ((v - 1) * 2 + k) v c.loop-direction.links c.loop-direction.invariant.1 pv (omega arith) in
    handed_on c.from_residual.result _ _ c.in_err-next.field-0.0 c.from_residual.ensures.1 (record {
      at = v;
      direction = get_or (Across ∷ Up ∷ []) k Across;
      point = pv;
      fails = c.in_err-next.ensures;
      before = before;
    })

pub loop-direction-preserved : goal.loop-direction-preserved
loop-direction-preserved g c =
    let Tells = λ (v : ℕ) (d : Direction) (o : Option ℕ). goal.F-post g c.args.wire v d (Ok o) in
    let n = c.args.points.count in
    let v = c.loop-point.point in
    let k = c.loop-direction.direction-index in
    let i = (v - 1) * 2 + k in
    let d = get_or (Across ∷ Up ∷ []) k Across in
    let pv = c.loop-direction.invariant.0 in
    let F = c.loop-direction.invariant.1 in
    let at : i ≡ (v - 1) * 2 + direction_number d = omega (arith, nth_direction k (search rules)) in
    let more : i + 1 ≡ (v - 1) * 2 + (k + 1) = omega arith in
    let R = Filled (LeadsBy Tells) n in
    elim c.match-branch-2.branch [
      | in-Some w ↦
          let e = w.join.ensures in
          let tells = subst (Tells v d) w.in-Some.is c.in_ok-next.ensures in (
            pv,
            subst (R ((v - 1) * 2 + (k + 1))) (sym w.links-is) (subst (λ (j : ℕ). R j w.join.new.self) more
                (entered Tells n c.requires.apart i v d c.loop-direction.links F at pv w.in-Some.next (c.requires.to_points v w.in-Some.next d pv tells) tells w.join.new.self e.points e.there e.back e.others)),
          )
      | in_default w ↦ (
        pv,
        subst (R ((v - 1) * 2 + (k + 1))) (sym w.links-is) (subst (λ (j : ℕ). R j c.loop-direction.links) more
            (skipped Tells n c.requires.apart i v d c.loop-direction.links F at pv (subst (Tells v d) w.in_default.is c.in_ok-next.ensures))),
      )
    ]

pub returns : goal.returns
returns g c =
    let R = Filled (LeadsBy (λ (v : ℕ) (d : Direction) (o : Option ℕ). goal.F-post g c.args.wire v d (Ok o))) c.args.points.count in
    elim c.loop-point-test.branch [
      | else-loop-point-test w ↦
          let whole : (c.loop-point.point - 1) * 2 ≡ c.args.points.count * 2 = let a = w.loop-point-test.false in omega arith in
          subst (R (c.args.points.count * 2)) (sym w.links-is) (subst (λ (j : ℕ). R j c.loop-point.links) whole c.loop-point.invariant.2)
      | then-loop-point-test+else-loop-direction-test+else-point-count w ↦
          subst (R (c.args.points.count * 2)) (sym w.links-is) (subst (λ (j : ℕ). R j w.loop-direction.links) (omega arith) w.loop-direction.invariant.1)
    ]
