-- A chain whose arcs all have one gap, as a graph. Assumes nothing.
use Rattle.std.specs.Prelude.{◌-◌, ◌<◌, ◌&&◌, ◌==◌, nat_lt}
use Rattle.std.proofs.Common.{arith, ltb→lt}
use Rattle.std.specs.Bool.{then_some}
use Rattle.walks.specs.Nodes.{Gaps}
use Rattle.propagation.specs.Graphs.{Bounds}
use Rattle.propagation.specs.Keeping.{first_two, own_gap}
use Rattle.engine_trials.specs.declared.slope.Slope.{Slope}

-- one arc from each node to the next
abbrev pub slope_gaps : Slope → Gaps
slope_gaps s a b = then_some (nat_lt a b && (nat_lt b s.nodes && b - a == 1)) s.gap

pub slope_bounds : Bounds (λ s. s.nodes) slope_gaps
slope_bounds =
    record {
      one_or_more = λ s. s.one_or_more;
      at_most_128 = λ s. s.at_most_128;
      gaps_within_100 = λ s a b g ha hb e. own_gap (nat_lt a b && (nat_lt b s.nodes && b - a == 1)) s.gap g e (s.low, s.high);
      arcs_join_nodes = λ s a b arc.
          let t = first_two (nat_lt a b) (nat_lt b s.nodes) (b - a == 1) s.gap arc in
          let p = ltb→lt a b t.0 in
          let q = ltb→lt b s.nodes t.1 in
          let r : a < s.nodes = omega arith in
          (r, q);
    }
