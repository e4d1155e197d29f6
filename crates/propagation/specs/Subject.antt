-- What the calls for reach and for longest places answer, in the words of graphs. Assumes nothing.
use Rattle.std.specs.Prelude.{◌≡◌, ℕ, ◌<◌, Bool, true, false, ◌↔◌, List, length, ℤ, pos, is_ok, is_err, Some, Ok, Err, Decides, Result}
use Rattle.std.specs.Option.{unwrap_or}
use Rattle.walks.specs.Nodes.{Gaps}
use Rattle.walks.specs.Reach.{Reaches}
use Rattle.walks.specs.Places.{Keeps, Least, GainingCircuit, place}
use Rattle.propagation.specs.Engine.{at}
use Rattle.propagation.specs.Kinds.{reach_meaning, place_meaning}
use Rattle.propagation.specs.declared.place.Place.{Place}
use Rattle.propagation.specs.declared.reach.Reach.{Reach}
use Rattle.propagation.specs.declared.refusal.Refusal.{Refusal}
use Rattle.propagation.specs.declared.refusal.Refusal.TheVariants.{WrongMemory}

-- a walk of one or more arcs leads from a to b
pub record Leads (n : ℕ) (gaps : Gaps) (a b : ℕ) : Type 0 where
  pub walks : Reaches n gaps a b
  pub moves : 0 < length walks.way

-- from the memory `given` to `left`: marked are the nodes that a walk of one or more arcs leads to from a
pub record ReachedFrom (n : ℕ) (gaps : Gaps) (a : ℕ) (given left : List Reach) (r : Result (Unit {0}) Refusal) : Type 0 where
  pub runs_exactly_when_the_memory_fits : (is_ok r ≡ true) ↔ (length given ≡ n)
  pub refusal_is_of_the_memory : (e : Refusal) → r ≡ Err e → e ≡ WrongMemory
  pub wrong_memory_leaves_all : is_err r ≡ true → left ≡ given
  pub marks_what_is_led_to : is_ok r ≡ true → (b : ℕ) → Decides (at reach_meaning left b).yes (Leads n gaps a b)

-- the coordinate of v in a memory of places; 0 where it has none
abbrev pub coordinate : List Place → ℕ → ℤ
coordinate places v = unwrap_or (at place_meaning places v).at (pos 0)

-- from the memory `given` to `left`: yes, and the least coordinates from 0 up, or no where there are none
pub record LongestPlaces (n : ℕ) (gaps : Gaps) (given left : List Place) (r : Result Bool Refusal) : Type 0 where
  pub runs_exactly_when_the_memory_fits : (is_ok r ≡ true) ↔ (length given ≡ n)
  pub refusal_is_of_the_memory : (e : Refusal) → r ≡ Err e → e ≡ WrongMemory
  pub wrong_memory_leaves_all : is_err r ≡ true → left ≡ given
  pub every_node_has_a_place : is_ok r ≡ true → (v : ℕ) → v < n → (at place_meaning left v).at ≡ Some (coordinate left v)
  pub yes_gives_the_least_coordinates : r ≡ Ok true → Least n gaps (coordinate left)
  pub no_says_that_there_are_none : r ≡ Ok false → (x : ℕ → ℤ) → ¬ Keeps n gaps x
  pub no_comes_of_a_circuit : r ≡ Ok false → GainingCircuit n gaps
  pub no_leaves_the_places_of_the_last_round : r ≡ Ok false → (v : ℕ) → v < n → coordinate left v ≡ place n gaps n v
