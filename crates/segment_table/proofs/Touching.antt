-- A row and a column that touch, by the names in a table. Assumes nothing.
use Rattle.std.proofs.Common.{ℕ, Bool, Decides, sym, ◌∙◌, arith}
use Rattle.segments.specs.Shapes.{Shape, Within, Point}
use Rattle.drawings.specs.Arcs.{Touch}
use Rattle.segment_table.specs.declared.table.SegmentTable.{SegmentTable}
use Rattle.segment_table.specs.Records.{Recorded, Crossing}

pub touch_told : (t : SegmentTable) (row column : ℕ) (s : Shape) → Recorded s t → (r : Bool) → Decides r ((v : ℕ) × Within t.points v × Crossing t row column v) → Decides r (Touch s row column)
touch_told t row column s R r d = (
  λ e. let x = d.0 e in
      let p : Point s x.0 = (x.1.0, omega (arith, x.1.1, R.points)) in
      (x.0, p, sym (R.names 1 x.0 (omega arith) p) ∙ x.2.0, sym (R.names 0 x.0 (omega arith) p) ∙ x.2.1),
  λ x. let p = x.1 in d.1 (x.0, (p.0, omega (arith, p.1, R.points)), (R.names 1 x.0 (omega arith) p ∙ x.2, R.names 0 x.0 (omega arith) p ∙ x.3)),
)
