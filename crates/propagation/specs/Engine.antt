-- What the engine leaves in its two memories, and what it answers. Assumes nothing.
use Rattle.std.specs.Prelude.{◌≡◌, ℕ, ◌+◌, ◌<◌, ◌≤◌, Bool, true, ◌⊎◌, ◌↔◌, List, length, is_ok, is_err, Ok, Err, Decides, Result, slice_index_or}
use Rattle.walks.specs.Nodes.{Gaps}
use Rattle.walks.specs.Rounds.{Labels, round, JoinOfWalks, Quiet}
use Rattle.propagation.specs.declared.refusal.Refusal.{Refusal}
use Rattle.propagation.specs.declared.refusal.Refusal.TheVariants.{WrongMemory}

-- the label of v in a memory
abbrev pub at : {L : Type 0} → Labels L → List L → ℕ → L
at ops memory v = slice_index_or memory v ops.none

-- from `start`, some rounds and then a last one were run; `first` holds what that one made, and `second` what it was made from
pub record Ran {L : Type 0} (ops : Labels L) (n : ℕ) (gaps : Gaps) (start first second : List L) (settled : Bool) : Type 0 where
  -- how many rounds came before the last one
  pub earlier : ℕ
  pub runs_at_most_as_many_rounds_as_nodes : earlier + 1 ≤ n
  pub goes_on_while_labels_change : (k : ℕ) → k < earlier → ¬ Quiet ops n gaps (at ops start) k 1
  pub stops_at_no_change_or_after_as_many_rounds_as_nodes : Quiet ops n gaps (at ops start) earlier 1 ⊎ (earlier + 1 ≡ n)
  pub settled_exactly_when_unchanged : Decides settled (Quiet ops n gaps (at ops start) earlier 1)
  pub memories_keep_their_length : (length first ≡ n) × (length second ≡ n)
  pub first_holds_the_newest : (v : ℕ) → v < n → at ops first v ≡ round ops n gaps (at ops start) (earlier + 1) v
  pub second_is_one_round_behind : (v : ℕ) → v < n → at ops second v ≡ round ops n gaps (at ops start) earlier v
  pub settled_memories_are_equal : settled ≡ true → first ≡ second
  pub labels_join_walks : (v : ℕ) → v < n → JoinOfWalks ops n gaps (at ops start) (earlier + 1) v (at ops first v)
  pub settled_labels_join_all_walks : settled ≡ true → (k v : ℕ) → earlier ≤ k → v < n → JoinOfWalks ops n gaps (at ops start) k v (at ops first v)

-- from the memories `start` and `spare` to `first` and `second`
pub record Propagates {L : Type 0} (ops : Labels L) (n : ℕ) (gaps : Gaps) (start spare first second : List L) (r : Result Bool Refusal) : Type 0 where
  pub runs_exactly_when_memories_fit : (is_ok r ≡ true) ↔ ((length start ≡ n) × (length spare ≡ n))
  pub refusal_is_of_the_memory : (e : Refusal) → r ≡ Err e → e ≡ WrongMemory
  pub wrong_memory_leaves_all : is_err r ≡ true → (first ≡ start) × (second ≡ spare)
  pub runs : (settled : Bool) → r ≡ Ok settled → Ran ops n gaps start first second settled
