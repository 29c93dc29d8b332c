-- Where the store is asked by a restart or a notice.
use Rattle.std.proofs.Common.{◌≡◌, refl, ℕ, Bool, true, false, cond, not, ◌&&◌, if◌then◌else◌, [], ◌∷◌, length}
use Rattle.std.specs.Prelude.{Option, Some, None, nat_le, nat_lt, slice_get}
use Rattle.model.specs.declared.limits.TheConstants.{MAX_INCARNATION}
use Rattle.model.specs.declared.refusals.Refusal.TheVariants.{Down, Limit, Store, Up}
use Rattle.model.specs.declared.replies.Reply.TheVariants.{Refused}
use Rattle.model.specs.declared.replies.Said.{Said}
use Rattle.model.specs.Records.{IsFetching, notice_fetches, restart_fetches, quiet}
use Rattle.model.specs.Steps.{Outcome, at_unit, at_up, first_refusal, going_back_tests, if_unit, is_device, is_down}
use Rattle.model.specs.Steps.{notice, notice_orphan, notice_rows, outcome_or, path_kept, restart, unless}
use Rattle.model.specs.World.{Member, World, incarnation_of}
use Rattle.tenant.specs.Outcomes.{failing}

-- a store that wasn't asked
pub quiet_asked : (asked : Bool) → IsFetching asked quiet []
quiet_asked asked = record { nothing = (refl, refl); whole = λ e. refl; memory = λ e. cc e }

-- one that was, and failed
pub failing_asked : (asked : Bool) → asked ≡ true → IsFetching asked failing []
failing_asked asked is = record { nothing = (refl, refl); whole = λ e. absurd (cc (is, e)); memory = λ e. cc e }

-- A step that is refused for the store has asked it.

restart_by : (w : World) (o : Outcome) (up limit device : Bool)
    → (outcome_or w o (cond up (Some Up) (cond limit (Some Limit) (cond device (Some Store) None)))).reply
    ≡ Refused Store → (not up && not limit) ≡ true
restart_by w o true limit device e = absurd (cc e)
restart_by w o false true device e = absurd (cc e)
restart_by w o false false device e = refl

notice_by : (w : World) (o rows : Outcome) (up orphan limit device : Bool) → (rows.reply ≡ Refused Store → ⊥)
    → (outcome_or w (if orphan then outcome_or w o (cond limit (Some Limit) (cond device (Some Store) None)) else rows)
    (cond (not up) (Some Down) None)).reply ≡ Refused Store → (up && (orphan && not limit)) ≡ true
notice_by w o rows false orphan limit device never e = absurd (cc e)
notice_by w o rows true false limit device never e = absurd (never e)
notice_by w o rows true true true device never e = absurd (cc e)
notice_by w o rows true true false device never e = refl

module _ (w : World) (u : ℕ) (said : Said) where
  abbrev limit : Bool
  limit = nat_le MAX_INCARNATION (incarnation_of w.table u)

  restart_at : (back : Member → Outcome) (m : Member)
      → (unless w ((m.up, Up) ∷ going_back_tests w u said) (back m)).reply ≡ Refused Store
      → restart_fetches w u (Some m) ≡ true
  unfolding first_refusal
  restart_at back m e = restart_by w (back m) m.up limit (is_device said.end) e

  restart_of : (back : Member → Outcome) (o : Option Member)
      → (if_unit w (λ m. unless w ((m.up, Up) ∷ going_back_tests w u said) (back m)) o).reply ≡ Refused Store
      → restart_fetches w u o ≡ true
  restart_of back None e = absurd (cc e)
  restart_of back (Some m) e = restart_at back m e

  -- A restart that is refused for the store is one that asks the store.
  pub restart_asked : (restart w u said).reply ≡ Refused Store → restart_fetches w u (slice_get w.members u) ≡ true
  unfolding at_unit
  restart_asked e = restart_of _ (slice_get w.members u) e

  notice_at : (m : Member) → (unless w (is_down m ∷ []) (if nat_lt (length (path_kept w m)) (length m.path) then
      notice_orphan w u said m else notice_rows w u m)).reply ≡ Refused Store → notice_fetches w u (Some m) ≡ true
  unfolding first_refusal
  notice_at m e = notice_by w _ (notice_rows w u m)
      m.up (nat_lt (length (path_kept w m)) (length m.path)) limit (is_device said.end) (λ f. cc f) e

  notice_of : (o : Option Member)
      → (if_unit w (λ m. unless w (is_down m ∷ []) (if nat_lt (length (path_kept w m)) (length m.path) then
      notice_orphan w u said m else notice_rows w u m)) o).reply ≡ Refused Store → notice_fetches w u o ≡ true
  notice_of None e = absurd (cc e)
  notice_of (Some m) e = notice_at m e

  -- A notice that is refused for the store is one that asks the store.
  pub notice_asked : (notice w u said).reply ≡ Refused Store → notice_fetches w u (slice_get w.members u) ≡ true
  unfolding at_up at_unit
  notice_asked e = notice_of (slice_get w.members u) e
