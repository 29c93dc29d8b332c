-- Worked examples: what is kept of a unit's past after some steps of a tenant of sample units.
use Rattle.std.proofs.Common.{◌≡◌, refl}
use Rattle.std.specs.Prelude.{ℕ, List, [], ◌∷◌, ◌++◌, Option, Some, None, codes}
use Rattle.model.specs.declared.kept.Kept.{Kept}
use Rattle.model.specs.declared.steps.TenantStep.TheVariants.{Checkpoint}
use Rattle.model.specs.Alone.{Event}
use Rattle.model.specs.Keeping.{keeping, kept_at}
use Rattle.model.specs.Sample.{sample}
use Rattle.model.specs.Steps.{first_refusal, at_unit, at_up}
use Rattle.model.proofs.Rows.{asks, deliver, flush, opening, post}

abbrev kept : ℕ → ℕ → ℕ → Option Kept
kept records shelved letters = Some (record { records = records; shelved = shelved; letters = letters })

abbrev kept_after : List Event → ℕ → Option Kept
kept_after events unit = kept_at sample (keeping sample events) unit

-- one unit, which is flushed and has a checkpoint
abbrev one : List Event
one = opening ((codes "echo") ∷ []) ∷ post 0 0 (codes "a") ∷ post 0 1 (codes "b") ∷ post 0 2 (codes "c") ∷ flush 0 3
    ∷ asks (Checkpoint 0) ∷ []

one_unit : kept_after one 0 ≡ kept 0 1 0
unfolding first_refusal at_unit at_up
one_unit = refl

one_more : kept_after (one ++ post 0 3 (codes "d") ∷ flush 0 1 ∷ []) 0 ≡ kept 1 1 0
unfolding first_refusal at_unit at_up
one_more = refl

no_unit : kept_after one 1 ≡ None
unfolding first_refusal at_unit at_up
no_unit = refl

-- a checkpoint that is not firm is no base until its sender's interval is stable
abbrev two : List Event
two = opening ((codes "relay") ∷ (codes "echo") ∷ []) ∷ post 0 0 (codes "x") ∷ deliver 0 ∷ flush 1 1
    ∷ asks (Checkpoint 1) ∷ []

not_firm : kept_after two 1 ≡ kept 1 1 1
unfolding first_refusal at_unit at_up
not_firm = refl

receiver_then : kept_after (two ++ flush 0 1 ∷ []) 1 ≡ kept 0 1 0
unfolding first_refusal at_unit at_up
receiver_then = refl

sender_then : kept_after (two ++ flush 0 1 ∷ []) 0 ≡ kept 1 0 0
unfolding first_refusal at_unit at_up
sender_then = refl

-- a checkpoint of a beginning, which is always firm
begun_once : kept_after (opening ((codes "echo") ∷ []) ∷ asks (Checkpoint 0) ∷ []) 0 ≡ kept 0 1 0
unfolding first_refusal at_unit at_up
begun_once = refl

begun_twice : kept_after (opening ((codes "echo") ∷ []) ∷ asks (Checkpoint 0) ∷ asks (Checkpoint 0) ∷ []) 0
    ≡ kept 0 1 0
unfolding first_refusal at_unit at_up
begun_twice = refl

-- another takes its place
begun_then : kept_after (opening ((codes "echo") ∷ []) ∷ asks (Checkpoint 0) ∷ post 0 0 (codes "a") ∷ flush 0 1
    ∷ asks (Checkpoint 0) ∷ []) 0 ≡ kept 0 1 0
unfolding first_refusal at_unit at_up
begun_then = refl

-- without one a beginning is none
not_begun : kept_after (opening ((codes "echo") ∷ []) ∷ []) 0 ≡ kept 0 0 0
unfolding first_refusal at_unit at_up
not_begun = refl
