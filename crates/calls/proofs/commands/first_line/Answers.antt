use Rattle.std.proofs.Common.{◌≡◌, ℕ, ◌<◌, List, [], ◌∷◌, ◌++◌, length, get_or, ◌≢◌, Option, Some, None, MatchOption, Bor, refl, inl, inr, arith, subst}
use Rattle.std.specs.Option.{unwrap_or}
use Rattle.std.proofs.lemmas.Str.Pattern.{split_parts}
use Rattle.calls.specs.Steps.{FirstLine}
use Rattle.calls.proofs.commands.first_line.Goals as goal

first_line_of : (text : List ℕ) (r : Option (Bor (List ℕ) × Bor (List ℕ))) (d : Bor (List ℕ) × Bor (List ℕ)) → MatchOption r ((i : ℕ) → i < length text → get_or text i 0 ≢ 10) (λ x. (text ≡ x.0.now ++ (10 ∷ x.1.now)) × ((i : ℕ) → i < length x.0.now → get_or x.0.now i 0 ≢ 10)) → text ≡ d.0.now → d.1.now ≡ [] → FirstLine text (unwrap_or r d).0.now (unwrap_or r d).1.now
first_line_of text None d h e f = (subst (λ l. (i : ℕ) → i < length l → get_or l i 0 ≢ 10) e h, inr (e, f))
first_line_of text (Some x) d h e f = (h.1, inl h.0)

pub returns : goal.returns
returns c =
    let parts = split_parts 10 c.args.text.now c.split_once.result c.split_once.ensures.cases (omega arith) in
    rw c.unwrap_or.ensures (first_line_of c.args.text.now c.split_once.result _ parts refl refl)
