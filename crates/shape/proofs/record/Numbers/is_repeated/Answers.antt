use Rattle.std.proofs.Common.{◌≡◌, ℕ, ltb, get_or, sym, ap, ◌∙◌, subst, arith}
use Rattle.std.proofs.lemmas.Bool.Decides.{Decides-ltb}
use Rattle.shape.specs.Directions.{direction_number}
use Rattle.shape.specs.Formats.{written, Lowest}
use Rattle.shape.proofs.Firsts.{repeated}
use Rattle.shape.proofs.record.Numbers.is_repeated.Goals as goal

pub returns-then-next-gt0 : goal.returns-then-next-gt0
returns-then-next-gt0 c =
    let n = c.args.self.now.points.count in
    let number = written c.args.self.now.bytes.now (direction_number c.args.direction) in
    let v = c.args.point in
    let r = c.from-then-next-gt0.result in
    let here : c.from.result ≡ number v = c.from.ensures ∙ c.number-next.ensures in
    let entry : get_or c.args.firsts.now (number v) 0 ≡ r = sym (c.from-then-next-gt0.ensures ∙ ap (λ (k : ℕ). get_or c.args.firsts.now k 0) here) in
    let first : Lowest n (λ u. number u ≡ number v) r = subst (Lowest n (λ u. number u ≡ number v)) entry (c.requires.firsts v c.requires.point) in
    repeated n number v r first (omega (arith, c.if-next-gt0.true, c.number-next.ensures)) (ltb r v) (Decides-ltb r v)
