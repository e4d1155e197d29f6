-- What `?` and `ok_or` hand on. Assumes nothing.
use Rattle.std.proofs.Common.{◌≡◌, IsErrAnd, Some, None, Option, Ok, Err, Result, MatchOption, MatchResult, sym, refl, subst}
use Rattle.std.specs.Option.{ok_or}

-- what holds of an error holds of the result that hands it on
pub handed_on : {T E : Type 0} (P : Result T E → Type 0) (r : Result T E) (e : E) → IsErrAnd r (λ y. y ≡ e) → P (Err e) → P r
handed_on P (Ok x) e h q = absurd h
handed_on P (Err y) e h q = subst (λ t. P (Err t)) (sym h) q

-- an option whose facts are known, or else a refusal
pub or_refused : {X E : Type 0} {N M : Type 0} {P Q : X → Type 0} (o : Option X) (e : E) (r : Result X E) → r ≡ ok_or o e → MatchOption o N P → (N → M) → ((x : X) → P x → Q x) → MatchResult r Q (λ y. (y ≡ e) × M)
or_refused {E = E} {M = M} {Q = Q} None e r is h f k = subst (λ r. MatchResult r Q (λ (y : E). (y ≡ e) × M)) (sym is) (refl, f h)
or_refused {E = E} {M = M} {Q = Q} (Some x) e r is h f k = subst (λ r. MatchResult r Q (λ (y : E). (y ≡ e) × M)) (sym is) (k x h)
