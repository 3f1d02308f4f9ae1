-- What a `?` hands on is the error that was reported.
use Rattle.std.proofs.Common.{◌≡◌, Result, Ok, Err, IsErrAnd, MatchResult, sym, subst}

pub handed_on : {A E : Type 0} {reported : E} (P : A → Type 0) (Q : E → Type 0) (r : Result A E) → IsErrAnd r (λ fault. fault ≡ reported) → Q reported → MatchResult r P Q
handed_on P Q (Ok done) exit is = absurd exit
handed_on P Q (Err fault) exit is = subst Q (sym exit) is
