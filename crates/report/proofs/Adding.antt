-- A text that grows by one line after the other. Assumes nothing.
use Rattle.std.proofs.Common.{◌≡◌, ℕ, suc, ◌-◌, ◌≤◌, List, Some, Option, Ok, ◌++◌, ap, ◌∙◌, sym, refl, arith}
use Rattle.std.specs.declared.fmt.Formatter.{Formatter}
use Rattle.std.specs.Fmt.{HasWritten, DisplaysOnOk}
use Rattle.std.proofs.Output.{has_written_append, has_written_of_eq, displays_on_ok_of_eq}
use Rattle.report.specs.Parts.{each}

-- the line of k, after the lines before it
pub each_more : {W : Type 0} (took : W → List ℕ → W → Type 0) (text : ℕ → List ℕ) (f g h : Formatter W) (k n : ℕ) → n ≡ k → 1 ≤ k → HasWritten took f (each (k - 1) text) g → (o : Option (List ℕ)) → o ≡ Some (text k) → DisplaysOnOk took g (Ok tt) o h → HasWritten took f (each n text) h
each_more took text f g h k n same some before o told line =
    let j = k - 1 in
    let at : k ≡ suc j = omega (arith, some) in
    let upto : n ≡ suc j = omega arith in
    let all : each j text ++ text k ≡ each n text = ap (λ i. each j text ++ text i) at ∙ sym (ap (λ i. each i text) upto) in
    has_written_of_eq took f _ _ h all (has_written_append took f _ g _ h before (displays_on_ok_of_eq took g h (Ok tt) o (Some (text k)) told line before.plain refl))
