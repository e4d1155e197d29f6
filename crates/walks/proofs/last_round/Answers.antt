use Rattle.std.proofs.Common.{arith}
use Rattle.walks.proofs.Longest.{settled_is_least, least_is_one, late_rise_is_driven, settled_or_circuit, circuit_refutes, closed_walk_has_circuit}
use Rattle.walks.proofs.last_round.Goals as goal

pub returns : goal.returns
returns c =
    let split = c.arcs_to_repeat.ensures.splits in
    record {
      least = settled_is_least _;
      one = least_is_one _;
      driven = late_rise_is_driven _ _ _ split (omega arith);
      either = settled_or_circuit _ _ _ split (omega arith);
      refutes = circuit_refutes _;
      circuit = closed_walk_has_circuit _ _ split;
    }
