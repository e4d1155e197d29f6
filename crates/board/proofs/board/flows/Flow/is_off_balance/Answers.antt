use Rattle.std.proofs.Common.{ℕ, sym, ap, ◌∙◌, subst, rules}
use Rattle.segments.specs.Segments.{Named}
use Rattle.shape.specs.Directions.{direction_number}
use Rattle.segment_table.specs.Records.{record_in}
use Rattle.segment_table.specs.declared.table.Segment.{Segment}
use Rattle.logs.specs.Lines.{cell_of}
use Rattle.board.specs.Cells.{bytes_in}
use Rattle.board.proofs.CellSums.{off_balance}
use Rattle.board.proofs.Standing.{shape_lawful}
use Rattle.board.proofs.board.flows.Flow.is_off_balance.Goals as goal

pub returns : goal.returns
returns c =
    record {
      tells = λ s log stands.
          let f = c.args.self.now in
          let b = f.board.now in
          let dir = direction_number c.args.direction in
          let a = c.args.number in
          let named = subst (λ (d : ℕ). Named s d a) c.from.ensures ((c.is_name.ensures s stands.segments).0 (search rules)) in
          let told = c.in-Some.ensures.2 ∙ ap (λ (d : ℕ). record_in b.segments d a) c.from-2.ensures in
          let d = c.is_balanced.ensures s (shape_lawful s log b stands) (sym stands.segments.points) (ap (λ (t : Segment). t.near_ends) told ∙ stands.segments.near dir a named.0 named.1) (ap (λ (t : Segment). t.far_ends) told ∙ stands.segments.far dir a named.0 named.1) in
          off_balance s dir (cell_of s.points (bytes_in f dir)) a c.is_balanced.result named d;
    }
