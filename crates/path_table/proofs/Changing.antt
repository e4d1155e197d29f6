-- What an arc more, or one less, leaves of the arcs of a direction. Assumes nothing.
use Rattle.std.proofs.Common.{◌≡◌, ℕ, zero, suc, ◌+◌, ◌<◌, ℤ, pos, is_some, Some, None, Option, add-one, refl, ap, arith}
use Rattle.propagation.specs.Tables.{Put}
use Rattle.propagation.specs.declared.arc_table.ArcTable.{ArcTable}
use Rattle.path_table.specs.Joined.{joined}
use Rattle.path_table.specs.Tracks.{Added, Struck}
use Rattle.path_table.specs.declared.direction_arcs.DirectionArcs.{DirectionArcs}

-- ---- an arc between two names, put into a table between their nodes
module _ (t t' : ArcTable) (a b p q : ℕ) (gap : Option ℤ) (at_a : a ≡ p + 1) (at_b : b ≡ q + 1) (put : Put t t' p q gap) where
  put_joined : p < t.nodes → q < t.nodes → joined t' a b ≡ is_some gap
  put_joined in_p in_q = rw (at_a, at_b, add-one p, add-one q) (ap is_some (put.gap_is_put in_p in_q))

  put_others : (u v : ℕ) → ((u ≡ a) × (v ≡ b) → ⊥) → joined t' u v ≡ joined t u v
  put_others zero v d = refl
  put_others (suc i) zero d = refl
  put_others (suc i) (suc j) d = ap is_some (put.others_stay i j (λ e. let ei = e.0 in let ej = e.1 in d (omega arith, omega arith)))

-- ---- the arcs of a direction, once one between the nodes of two segments has changed
module _ (t after : DirectionArcs) (a b p q : ℕ) (at_a : a ≡ p + 1) (at_b : b ≡ q + 1) (in_p : p < t.force.nodes) (in_q : q < t.force.nodes) (own : after.own ≡ t.own) (size : after.paths.nodes ≡ t.paths.nodes) where
  pub added : Put t.force after.force p q (Some (pos 1)) → Added t after a b
  added put =
      record {
        own_stays = own;
        nodes_stay = (put.nodes_stay, size);
        arc_is_there = λ _ _. put_joined t.force after.force a b p q (Some (pos 1)) at_a at_b put in_p in_q;
        others_stay = put_others t.force after.force a b p q (Some (pos 1)) at_a at_b put;
        no_segments_leave_all = λ none. absurd (none ((omega arith, omega arith), (omega arith, omega arith)));
      }

  pub struck : Put t.force after.force p q None → Struck t after a b
  struck put =
      record {
        own_stays = own;
        nodes_stay = (put.nodes_stay, size);
        arc_is_gone = put_joined t.force after.force a b p q None at_a at_b put in_p in_q;
        others_stay = put_others t.force after.force a b p q None at_a at_b put;
      }
