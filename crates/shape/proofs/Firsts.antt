-- The lowest point with each number, found point by point. Assumes nothing.
use Rattle.std.proofs.Common.{◌≡◌, ℕ, ◌+◌, ◌<◌, ◌≤◌, ◌≢◌, ◌⊎◌, Bool, List, length, get_or, replicate, set, Decides, sym, ap, ◌∙◌, subst, inl, inr, arith, get_or-set_other, get_or-set_same, below_more}
use native.Mathlib.Decide.{ℕ_discrete}
use Rattle.std.proofs.lemmas.List.{length-replicate, length-set}
use Rattle.std.proofs.lemmas.Bool.{cases_lt}
use Rattle.std.proofs.lemmas.Bool.Decides.{Decides-like}
use Rattle.segments.specs.Shapes.{Within}
use Rattle.shape.specs.Formats.{Lowest}
use Rattle.shape.proofs.Filling.{get_d_fresh}

module _ (n : ℕ) (number : ℕ → ℕ) where
  -- at each number the table has the lowest point with it, or 0, which is not there for a point below k
  pub record Entered (k : ℕ) (table : List ℕ) : Type 0 where
    pub long : length table ≡ 256
    pub lowest : (b : ℕ) → (get_or table b 0 ≡ 0) ⊎ Lowest n (λ u. number u ≡ b) (get_or table b 0)
    pub some : (u : ℕ) → u < k → 1 ≤ u → get_or table (number u) 0 ≢ 0

  pub none_entered : Entered 1 (replicate {A = ℕ} 256 0)
  none_entered = record { long = length-replicate {A = ℕ} 256 0; lowest = λ b. inl (get_d_fresh 0 256 b); some = λ u less low. omega arith }

  module _ (v : ℕ) (table : List ℕ) (p : Within n v) (E : Entered v table) where
    at_number : number v < 256 → get_or (set table (number v) v) (number v) 0 ≡ v
    at_number byte = get_or-set_same table (number v) v 0 (omega (arith, E.long, byte))

    -- the point is the first with its number
    entered_first : number v < 256 → get_or table (number v) 0 ≡ 0 → Entered (v + 1) (set table (number v) v)
    entered_first byte free = record {
      long = length-set table (number v) v ∙ E.long;
      lowest = λ b. elim (ℕ_discrete b (number v)) [
        | yes e ↦
            let here : get_or (set table (number v) v) b 0 ≡ v = ap (λ (k : ℕ). get_or (set table (number v) v) k 0) e ∙ at_number byte in
            let first : Lowest n (λ u. number u ≡ b) v = record {
              point = p;
              fault = sym e;
              first = λ u low less same. E.some u less low (ap (λ (k : ℕ). get_or table k 0) (same ∙ e) ∙ free);
            } in
            inr (subst (Lowest n (λ u. number u ≡ b)) (sym here) first)
        | no other ↦ subst (λ (x : ℕ). (x ≡ 0) ⊎ Lowest n (λ u. number u ≡ b) x) (sym (get_or-set_other table (number v) b v 0 other)) (E.lowest b)
      ];
      some = λ u less low. elim (ℕ_discrete (number u) (number v)) [
        | yes e ↦ λ z. omega (arith, sym (ap (λ (k : ℕ). get_or (set table (number v) v) k 0) e ∙ at_number byte) ∙ z, p.0)
        | no other ↦ λ z.
            let below : u < v = let same : u ≢ v = λ e. other (ap number e) in omega arith in
            E.some u below low (sym (get_or-set_other table (number v) (number u) v 0 other) ∙ z)
      ];
    }

    -- a lower point has its number
    entered_later : get_or table (number v) 0 ≢ 0 → Entered (v + 1) table
    entered_later taken = record { long = E.long; lowest = E.lowest; some = below_more (λ u. 1 ≤ u → get_or table (number u) 0 ≢ 0) v E.some (λ low. taken) }

    -- the table after the point, whose number b is
    pub entered : (b : ℕ) → b ≡ number v → b < 256 → (table' : List ℕ) → ((get_or table b 0 ≡ 0) × (table' ≡ set table b v)) ⊎ ((get_or table b 0 ≢ 0) × (table' ≡ table)) → Entered (v + 1) table'
    entered b is byte table' now =
        let at : (c : ℕ) → c ≡ b → get_or table c 0 ≡ get_or table b 0 = λ c e. ap (λ (k : ℕ). get_or table k 0) e in
        elim now [
          | inl w ↦ subst (Entered (v + 1)) (sym (w.1 ∙ ap (λ (k : ℕ). set table k v) is)) (entered_first (omega (arith, is, byte)) (at (number v) (sym is) ∙ w.0))
          | inr w ↦ subst (Entered (v + 1)) (sym w.1) (entered_later (λ z. w.0 (sym (at (number v) (sym is)) ∙ z)))
        ]

  pub all_entered : (k : ℕ) (table : List ℕ) → n < k → Entered k table → (v : ℕ) → Within n v → Lowest n (λ u. number u ≡ number v) (get_or table (number v) 0)
  all_entered k table more E v p = elim (E.lowest (number v)) [ inl z ↦ absurd (E.some v (omega (arith, p.1)) p.0 z) | inr l ↦ l ]

  -- the lowest point with v's number tells whether a lower one than v has it
  pub repeated : (v r : ℕ) → Lowest n (λ u. number u ≡ number v) r → 1 ≤ number v → (b : Bool) → Decides b (r < v) → Decides b ((u : ℕ) × (1 ≤ u) × (u < v) × (number u ≡ number v) × (1 ≤ number v))
  repeated v r L some b =
      Decides-like b (λ less. (r, L.point.0, less, L.fault, some)) (λ t. elim (cases_lt r v) [ inl less ↦ less | inr more ↦ absurd (L.first t.0 t.1 (omega (arith, t.2, more)) t.3) ])
