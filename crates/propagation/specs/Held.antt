-- Labels in a type of the code's own keep the laws of those that it holds, and their rounds are the same. Assumes nothing.
use Rattle.std.specs.Prelude.{◌≡◌, ℕ, ◌+◌, ◌<◌, ◌≤◌, ◌↔◌, ℤ, Some, None, Option}
use Rattle.std.proofs.Common.{sym, ap, ◌∙◌, arith}
use Rattle.walks.specs.Nodes.{Gaps}
use Rattle.walks.specs.Rounds.{Labels, Lawful, carried, round, Quiet}
use Rattle.walks.proofs.Labels.{lawful_along, round_agree}
use Rattle.propagation.specs.Kinds.{held}

module _ {L H : Type 0} (out : H → L) (into : L → H) (ops : Labels L) (out_into : (y : L) → out (into y) ≡ y) where
  pub held_lawful : ((x : H) → into (out x) ≡ x) → Lawful ops → Lawful (held out into ops)
  held_lawful into_out w =
      lawful_along out (held out into ops) ops (λ x y e. sym (into_out x) ∙ ap into e ∙ into_out y) (λ x y. out_into _) (out_into _) (λ g x. out_into _) w

  held_carried : (o : Option ℤ) (x : H) → out (carried (held out into ops) o x) ≡ carried ops o (out x)
  held_carried None x = out_into _
  held_carried (Some g) x = out_into _

  pub held_round : (n : ℕ) (gaps : Gaps) (start : ℕ → H) (start' : ℕ → L) → ((v : ℕ) → v < n → out (start v) ≡ start' v) → (k v : ℕ) → v < n → out (round (held out into ops) n gaps start k v) ≡ round ops n gaps start' k v
  held_round n gaps start start' same k v h =
      round_agree out (held out into ops) ops n gaps gaps start start' (λ p q. out_into _) same k
      (λ j u w _ _ _ z e. held_carried (gaps u w) z ∙ ap (carried ops (gaps u w)) e) k v (omega arith) h

-- a round changes nothing among labels exactly if it changes nothing among those that they stand for
pub quiet_along : {L L' : Type 0} (h : L → L') → ((x y : L) → h x ≡ h y → x ≡ y) → (ops : Labels L) (ops' : Labels L') (n : ℕ) (gaps : Gaps) (start : ℕ → L) (start' : ℕ → L') (k : ℕ) → ((j v : ℕ) → j ≤ k + 1 → v < n → h (round ops n gaps start j v) ≡ round ops' n gaps start' j v) → Quiet ops n gaps start k 1 ↔ Quiet ops' n gaps start' k 1
quiet_along h apart ops ops' n gaps start start' k same = (
  λ q v l. sym (same (k + 1) v (omega arith) l) ∙ ap h (q v l) ∙ same k v (omega arith) l,
  λ q v l. apart _ _ (same (k + 1) v (omega arith) l ∙ q v l ∙ sym (same k v (omega arith) l)),
)
