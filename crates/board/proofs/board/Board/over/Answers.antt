use Rattle.std.proofs.Common.{[], refl, subst}
use Rattle.shape.specs.Sources.{of_copy}
use Rattle.board.specs.Boards.{Stands}
use Rattle.board.proofs.Making.{circle_across, circle_up, fresh_stands}
use Rattle.board.proofs.board.Board.over.Goals as goal

pub returns-then-closes_circle : goal.returns-then-closes_circle
returns-then-closes_circle g c =
    let s = of_copy c.of-shape.result in
    let x = c.own_arcs-across.result in
    let y = c.own_arcs-up.result in
    subst (λ s. Stands s [] (record { shape = c.of-shape.result; segments = c.of-segments.result; arcs = record { across = x; up = y }; contradictory = c.closes_circle.result })) c.of-shape.ensures
    (fresh_stands s x y c.own_arcs-across.ensures c.own_arcs-up.ensures c.of-shape.result c.of-segments.result c.closes_circle.result refl c.of-segments.ensures
    (circle_across s x y c.own_arcs-across.ensures c.own_arcs-up.ensures c.closes_circle.result c.closes_circle.ensures c.if-closes_circle.true))

pub returns-else-closes_circle : goal.returns-else-closes_circle
returns-else-closes_circle g c =
    let s = of_copy c.of-shape.result in
    let x = c.own_arcs-across.result in
    let y = c.own_arcs-up.result in
    subst (λ s. Stands s [] (record { shape = c.of-shape.result; segments = c.of-segments.result; arcs = record { across = x; up = y }; contradictory = c.closes_circle-contradictory.result })) c.of-shape.ensures
    (fresh_stands s x y c.own_arcs-across.ensures c.own_arcs-up.ensures c.of-shape.result c.of-segments.result c.closes_circle-contradictory.result refl c.of-segments.ensures
    (circle_up s x y c.own_arcs-across.ensures c.own_arcs-up.ensures c.closes_circle.result c.closes_circle-contradictory.result c.closes_circle.ensures c.if-closes_circle.false c.closes_circle-contradictory.ensures))
