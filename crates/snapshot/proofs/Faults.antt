-- What `?` gives back.
use Rattle.std.proofs.Common.{◌≡◌, sym, subst, Result, Ok, Err, IfErr}
use Rattle.std.specs.Prelude.{IsErrAnd}

-- It is the fault, of which this is so.
pub failed : {T E : Type 0} (r : Result T E) (e : E) (P : E → Type 0) → IsErrAnd r (λ f. f ≡ e) → P e → IfErr r P
failed (Ok x) e P h p = tt
failed (Err f) e P h p = subst P (sym h) p
