-- What holds whatever a call gave.
use Rattle.std.proofs.Common.{◌≡◌, ◌⊎◌, inl, inr, refl}
use Rattle.model.specs.declared.replies.End.{End}
use Rattle.model.specs.declared.replies.End.TheVariants.{Whole, Device, Memory}
use Rattle.std.specs.Prelude.{IfOk, IfSome, None, OnErr, Option, Result, Err, Ok, Some}

-- What holds in any case holds where a call fails.
pub whatever : {T E P : Type 0} (r : Result T E) → P → OnErr r P
whatever (Ok x) h = tt
whatever (Err e) h = h

-- what follows from what holds of a value that may be there
pub if_some : {X : Type 0} (P Q : X → Type 0) (o : Option X) → ((x : X) → P x → Q x) → IfSome o P → IfSome o Q
if_some P Q None h e = tt
if_some P Q (Some x) h e = h x e

-- What follows from what holds of a call's value holds where the call succeeds.
pub if_ok : {T E : Type 0} (P Q : T → Type 0) (r : Result T E) → ((x : T) → P x → Q x) → IfOk r P → IfOk r Q
if_ok P Q (Ok x) h e = h x e
if_ok P Q (Err x) h e = tt

-- what holds unless the end is the device's
pub unless_device : {P : Type 0} (d : End) → ((d ≡ Device → ⊥) → P) → P ⊎ (d ≡ Device)
unless_device Whole h = inl (h (λ e. absurd (cc e)))
unless_device Device h = inr refl
unless_device Memory h = inl (h (λ e. absurd (cc e)))
