-- The graphs of the code keep to the bounds of every graph. Assumes nothing.
-- Each proof is the value of a ghost member.
use Rattle.std.specs.Prelude.{◌≡◌, ℕ, ◌+◌, ◌*◌, Bool, true, false, cond, ◌&&◌, T, ◌⊎◌, List, ℤ, pos, neg_ℤ, is_some, Some, None, Option, nat_lt, slice_index_or}
use Rattle.std.proofs.Common.{subst, inl, inr, arith, ltb→lt}
use Rattle.std.proofs.lemmas.Int.{ints}
use Rattle.std.specs.Option.{option_or, option_map}
use Rattle.std.specs.Bool.{then_some}
use Rattle.walks.specs.Nodes.{Gaps}
use Rattle.walks.specs.Flows.{layer}
use Rattle.walks.proofs.Greatest.{layer_within}
use Rattle.propagation.specs.Graphs.{Within, Bounds}
use Rattle.propagation.specs.Layers.{cell}
use Rattle.propagation.specs.Tables.{arc_gaps}

-- ---- one gap wherever a test holds
-- the first two tests hold where there is a gap
pub first_two : (p q r : Bool) (g : ℤ) → T (is_some (then_some (p && (q && r)) g)) → T p × T q
first_two true true true g t = (tt, tt)
first_two true true false g t = absurd t
first_two true false r g t = absurd t
first_two false q r g t = absurd t

-- the gap that is there is that one
pub own_gap : (t : Bool) (h g : ℤ) → then_some t h ≡ Some g → Within 100 h → Within 100 g
own_gap true h g e w = subst (Within 100) (let i : h ≡ g = cc in i) w
own_gap false h g e w = absurd cc

-- ---- a table of arcs
pub table_bounds : Bounds (λ t. t.nodes) arc_gaps
table_bounds =
    record {
      one_or_more = λ t. t.one_or_more;
      at_most_128 = λ t. t.at_most_128;
      gaps_within_100 = λ t a b g ha hb e. own_gap (nat_lt a t.nodes && (nat_lt b t.nodes && slice_index_or t.arcs (a * 128 + b) false)) (pos 1) g e (omega (arith, ints), omega (arith, ints));
      arcs_join_nodes = λ t a b arc.
          let i = first_two (nat_lt a t.nodes) (nat_lt b t.nodes) (slice_index_or t.arcs (a * 128 + b) false) (pos 1) arc in (ltb→lt a t.nodes i.0, ltb→lt b t.nodes i.1);
    }

-- ---- a flow layer over any graph
own_or_back : (o p : Option ℤ) (t : Bool) → T (is_some (option_or o (cond t (option_map neg_ℤ p) None))) → T (is_some o) ⊎ T (is_some p)
own_or_back (Some g) p t a = inl tt
own_or_back None (Some g) t a = inr tt
own_or_back None None true a = inl a
own_or_back None None false a = inl a

pub layer_bounds : {S B : Type 0} {size : B → ℕ} {gaps : B → Gaps} → Bounds size gaps → (below : S → B) (cells : S → List ℕ) → Bounds {S = S} (λ l. size (below l)) (λ l. layer (gaps (below l)) (cell (size (below l)) (cells l)))
layer_bounds {size = size} {gaps = gaps} bounds below cells =
    record {
      one_or_more = λ l. bounds.one_or_more (below l);
      at_most_128 = λ l. bounds.at_most_128 (below l);
      gaps_within_100 = λ l. layer_within (size (below l)) (gaps (below l)) (cell (size (below l)) (cells l)) 100 (bounds.gaps_within_100 (below l));
      arcs_join_nodes = λ l a b arc.
          elim (own_or_back (gaps (below l) a b) (gaps (below l) b a) (nat_lt 0 (cell (size (below l)) (cells l) b a)) arc) [
            | inl own ↦ bounds.arcs_join_nodes (below l) a b own
            | inr back ↦ (let i = bounds.arcs_join_nodes (below l) b a back in (i.1, i.0))
          ];
    }
