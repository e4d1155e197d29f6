-- How a row and a column lie, by what a board that stands holds; the lowest pair that is open. Assumes nothing.
use Rattle.std.proofs.Common.{◌≡◌, ℕ, zero, suc, ◌+◌, ◌-◌, ◌<◌, ◌≤◌, true, false, List, Ok, Err, Decides, Result, sym, refl, ap, ◌∙◌, subst, inl, inr, arith}
use Rattle.std.proofs.lemmas.Bool.{cases_lt}
use Rattle.segments.specs.Shapes.{Shape, Within, Point}
use Rattle.segments.specs.Segments.{last, segment}
use Rattle.segments.proofs.Lines.{last_point}
use Rattle.drawings.specs.Arcs.{Arcs, Arc, Way, Open, NoneOpen}
use Rattle.segment_table.specs.Records.{name_in, record_in}
use Rattle.segment_table.specs.declared.table.Segment.{Segment}
use Rattle.logs.specs.Lines.{Line, apart}
use Rattle.logs.specs.Refusing.{RefusesPair, no_segment, LowestOpen}
use Rattle.logs.specs.Answers.{Answers, paired, Pairs}
use Rattle.logs.specs.declared.pairing.Pairing.{Pairing}
use Rattle.logs.specs.declared.pairing.Pairing.TheVariants.{Touch as Touching, Apart as KeptApart, Open as LeftOpen}
use Rattle.logs.specs.declared.refusal.Refusal.{Refusal}
use Rattle.board.specs.Boards.{Stands}
use Rattle.board.specs.Outcomes.{of_pair}
use Rattle.board.specs.declared.board.Board.{Board}
use Rattle.board.proofs.Standing.{shape_lawful}

-- ---- the two ends of a line along the direction
module _ (s : Shape) (log : List Line) (b : Board) (stands : Stands s log b) (dir line : ℕ) (low : dir ≤ 1) (p : Point s line) where
  -- d is the direction, and m the other, by their numbers
  module _ (d : ℕ) (this : d ≡ dir) where
    pub begins_at : (first : ℕ) → first ≡ name_in b.segments d line → first ≡ segment s dir line
    begins_at first e = e ∙ ap (λ (k : ℕ). name_in b.segments k line) this ∙ stands.segments.names dir line low p

    module _ (m : ℕ) (other : m ≡ 1 - dir) (held : Segment) (e : held ≡ record_in b.segments m line) where
      ends_at : held.end ≡ last s dir line
      ends_at =
          let back : 1 - m ≡ dir = omega arith in
          ap (λ (t : Segment). t.end) e ∙ stands.segments.ends m line (omega arith) p ∙ ap (λ (k : ℕ). last s k line) back

      end_point : Point s held.end
      end_point = subst (Point s) (sym ends_at) (last_point s (shape_lawful s log b stands) dir line p)

      pub end_within : Within b.segments.points held.end
      end_within = subst (λ (n : ℕ). Within n held.end) (sym stands.segments.points) end_point

      pub ends_on : (final : ℕ) → final ≡ name_in b.segments d held.end → final ≡ segment s dir (last s dir line)
      ends_on final f = f ∙ ap (λ (k : ℕ). name_in b.segments k held.end) this ∙ stands.segments.names dir held.end low end_point ∙ ap (segment s dir) ends_at

-- ---- a pair
-- none of the four ways
pub no_way : (s : Shape) (leads : ℕ → ℕ → ℕ → Type 0) (r c : ℕ) → ¬ Way s leads 1 r c → ¬ Way s leads 2 r c → ¬ Way s leads 3 r c → ¬ Way s leads 4 r c → ¬ ((k : ℕ) × Way s leads k r c)
no_way s leads r c n1 n2 n3 n4 (zero, w) = w
no_way s leads r c n1 n2 n3 n4 (suc zero, w) = n1 w
no_way s leads r c n1 n2 n3 n4 (suc (suc zero), w) = n2 w
no_way s leads r c n1 n2 n3 n4 (suc (suc (suc zero)), w) = n3 w
no_way s leads r c n1 n2 n3 n4 (suc (suc (suc (suc zero))), w) = n4 w
no_way s leads r c n1 n2 n3 n4 (suc (suc (suc (suc (suc k)))), w) = w

-- ---- what an answer tells of the pair
module _ (s : Shape) (gap : Arcs) (r c : ℕ) where
  answered : (k : Pairing) → Answers s gap (apart r c) (paired k) → Pairs s gap r c k
  answered k h = let same : h.0 ≡ k = cc h.1 in subst (Pairs s gap r c) same h.4

  not_refused : (e : Refusal) → RefusesPair s r c e → ¬ Open s (Arc gap) r c
  not_refused e (no_segment x (inl h)) pair = h.1 pair.0
  not_refused e (no_segment x (inr h)) pair = h.2 pair.1

  open_told : (o : Result Pairing Refusal) → Answers s gap (apart r c) (of_pair o) → Open s (Arc gap) r c → o ≡ Ok LeftOpen
  open_told (Ok Touching) h pair = absurd (pair.2 (answered Touching h))
  open_told (Ok KeptApart) h pair = absurd (pair.3 (answered KeptApart h))
  open_told (Ok LeftOpen) h pair = refl
  open_told (Err e) h pair = absurd (not_refused e h pair)

  pub decides_open : (o : Result Pairing Refusal) → Answers s gap (apart r c) (of_pair o) → o ≡ Ok LeftOpen → Decides true (Open s (Arc gap) r c)
  decides_open o h e = ((λ t. answered LeftOpen (subst (λ (x : Result Pairing Refusal). Answers s gap (apart r c) (of_pair x)) e h)), λ pair. refl)

  pub decides_not_open : (o : Result Pairing Refusal) → Answers s gap (apart r c) (of_pair o) → ¬ (o ≡ Ok LeftOpen) → Decides false (Open s (Arc gap) r c)
  decides_not_open o h n = ((λ t. absurd cc), λ pair. absurd (n (open_told o h pair)))

-- ---- the pairs in order: by rows, and by columns in a row
-- no pair before the row r and the column c is open
abbrev pub NoneBefore : Shape → Arcs → ℕ → ℕ → Type 0
NoneBefore s gap r c = ((q d : ℕ) → q < r → ¬ Open s (Arc gap) q d) × ((d : ℕ) → d < c → ¬ Open s (Arc gap) r d)

module _ (s : Shape) (gap : Arcs) where
  pub column_passed : (r c : ℕ) → NoneBefore s gap r c → ¬ Open s (Arc gap) r c → NoneBefore s gap r (c + 1)
  column_passed r c before here = (
    before.0,
    λ d h pair. elim (cases_lt d c) [
      | inl l ↦ before.1 d l pair
      | inr l ↦ let e : d ≡ c = omega arith in here (subst (Open s (Arc gap) r) e pair)
    ],
  )

  -- the numbers of columns begin at 1 and end at the number of points
  pub row_passed : (r c : ℕ) → s.points < c → NoneBefore s gap r c → NoneBefore s gap (r + 1) 1
  row_passed r c late before = (
    λ q d h pair. elim (cases_lt q r) [
      | inl l ↦ before.0 q d l pair
      | inr l ↦ let e : q ≡ r = omega arith in before.1 d (omega (arith, pair.1.1.1)) (subst (λ (t : ℕ). Open s (Arc gap) t d) e pair)
    ],
    λ d h pair. omega (arith, pair.1.1.0),
  )

  pub row_ended : (r c : ℕ) → s.points ≤ c → NoneBefore s gap r c → ¬ Open s (Arc gap) r c → NoneBefore s gap (r + 1) 1
  row_ended r c late before here = row_passed r (c + 1) (omega arith) (column_passed r c before here)

  pub all_passed : (r c : ℕ) → s.points < r → NoneBefore s gap r c → NoneOpen s (Arc gap)
  all_passed r c late before q d pair = before.0 q d (omega (arith, pair.0.1.1)) pair

  pub lowest : (r c : ℕ) → NoneBefore s gap r c → Open s (Arc gap) r c → LowestOpen s gap r c
  lowest r c before pair = record { is_open = pair; lowest_row = before.0; lowest_column = before.1 }
