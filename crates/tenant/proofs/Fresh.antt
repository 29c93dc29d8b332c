-- Whether a turn that was worked is of the input that a step needs.
use Rattle.std.proofs.Common.{◌≡◌, sym, subst}
use Rattle.std.specs.Prelude.{Option, Some, None}
use Rattle.handler.specs.Inputs.{Input}
use Rattle.tenant.specs.Needs.{IsFresh}

-- A turn of another input than the one that is needed won't do.
pub not_fresh : {S : Type 0} (needed : Option (Input S)) (asked input : Input S)
    → needed ≡ Some asked → (asked ≡ input → ⊥) → IsFresh needed input → ⊥
not_fresh needed asked input e differ fresh = differ (subst (λ (o : Option (Input _)). IsFresh o input) e fresh)

-- A turn of the input that is needed will do.
pub fresh_same : {S : Type 0} (needed : Option (Input S)) (asked input : Input S)
    → needed ≡ Some asked → asked ≡ input → IsFresh needed input
fresh_same needed asked input e same = subst (λ (o : Option (Input _)). IsFresh o input) (sym e) same

-- Where no turn is needed, a turn of any input will do.
pub fresh_none : {S : Type 0} (needed : Option (Input S)) (input : Input S) → needed ≡ None → IsFresh needed input
fresh_none needed input e = subst (λ (o : Option (Input _)). IsFresh o input) (sym e) tt
