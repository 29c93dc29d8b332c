-- The step `checkpoint`.
use Rattle.std.proofs.Common.{◌≡◌, refl, sym, ◌∙◌, ap, subst, ℕ, zero, suc, ◌-◌, ◌<◌, Bool, true, false, List, [], ◌∷◌}
use Rattle.std.proofs.Common.{length, drop, arith}
use Rattle.std.specs.Prelude.{Option, Some, None, slice_get, slice_set, nat_lt}
use Rattle.std.specs.Option.{is_some}
use Rattle.std.proofs.lemmas.Bool.Decides.{nat_tests}
use Rattle.model.specs.declared.names.Mark.{Mark}
use Rattle.model.specs.declared.records.Record.{Record}
use Rattle.model.specs.declared.refusals.Refusal.{Refusal}
use Rattle.model.specs.declared.refusals.Refusal.TheVariants.{Unlogged}
use Rattle.model.specs.declared.replies.End.TheVariants.{Whole}
use Rattle.model.specs.declared.replies.Reply.TheVariants.{Checkpointed, Refused}
use Rattle.model.specs.declared.steps.TenantStep.TheVariants.{Checkpoint}
use Rattle.model.specs.Handler.{Meaning}
use Rattle.model.specs.World.{World}
use Rattle.model.specs.Steps.{checkpoint, first_refusal}
use Rattle.model.specs.Alone.{Reachable}
use Rattle.model.specs.Alone.Reachable.{stepped}
use Rattle.theory.proofs.ListLaws.{set_get_same, true_lt}
use Rattle.compact.specs.Compact.{Compact, Represents, CompactUnit}
use Rattle.compact.specs.Steps.{StepResult, checkpoint_of, last_mark, or_refused, places as all_of, shelved_unit}
use Rattle.compact.specs.Steps.{with_unit_at}
use Rattle.compact.specs.StepLaws.{StandsCompact}
use Rattle.compact.proofs.Checkpoints.{checkpoints_follow}
use Rattle.compact.proofs.Forgetting.{snapshots_go}
use Rattle.rollback.specs.Units.{IsKept, checkpointed, places}
use Rattle.rollback.proofs.StaysKept.{kept_shelved}
use Rattle.rollback_laws.specs.Seen.{IsSeen}
use Rattle.rollback_laws.proofs.Checkpoints.{checkpoints_are_seen}
use Rattle.rollback_laws.proofs.Places.{places_are_seen}
use Rattle.tenant.specs.Kept.{TenantState, Member, checkpointed_member, up_refusal}
use Rattle.tenant.specs.Represents.{IsMember, Leaves, StandsFor}
use Rattle.tenant.proofs.Follow.{is_up, keeps, leaves, leaves_on, not_up, with_one}

-- the last of two writes at a place stays
set_again : {X : Type 0} (xs : List X) (i : ℕ) (x y : X) → slice_set (slice_set xs i x) i y ≡ slice_set xs i y
set_again [] i x y = refl
set_again (z ∷ xs) zero x y = refl
set_again (z ∷ xs) (suc i) x y = ap (λ ys. z ∷ ys) (set_again xs i x y)

empty : {X : Type 0} (xs : List X) → length xs ≡ 0 → xs ≡ []
empty [] e = refl
empty (x ∷ xs) e = absurd (cc e)

there : {X : Type 0} (o : Option X) → is_some o ≡ true → (x : X) × (o ≡ Some x)
there None e = absurd (cc e)
there (Some x) e = (x, refl)

passes : {S : Type 0} (k : Compact S) (done : StepResult S) (r : Refusal) (b : Bool)
    → b ≡ false → or_refused k done (first_refusal ((b, r) ∷ [])) ≡ done
unfolding first_refusal
passes k done r true e = absurd (cc e)
passes k done r false e = refl

fails : {S : Type 0} (k : Compact S) (done : StepResult S) (r : Refusal) (b : Bool)
    → b ≡ true → or_refused k done (first_refusal ((b, r) ∷ [])) ≡ record { reply = Refused r; state = k }
unfolding first_refusal
fails k done r true e = refl
fails k done r false e = absurd (cc e)

module _ {S : Type 0} (M : Meaning S) (name : List ℕ) (live : ℕ → List ℕ)
    (t : TenantState S) (w : World) (log : List Record) (s : StandsFor M name live t w log) (u : ℕ) where
  abbrev k : Compact S
  k = s.0

  reach : (z : World) → (checkpoint w u).world ≡ Some z → Reachable M z
  reach z f = stepped (record { step = Checkpoint u; said = record { appended = 0; end = Whole } }) s.2.reached f

  -- A checkpoint of a unit that isn't there or isn't up is refused, and the tenant stays as it was.
  pub checkpoint_refused : (r : Refusal)
      → up_refusal (slice_get t.members u) ≡ Some r → Leaves M name live (checkpoint w u) (Refused r) t log
  checkpoint_refused r e = leaves M name live log (checkpoint w u) reach _ (record { reply = Refused r; state = k })
      (checkpoints_follow M name k w log s.2 u) (not_up t live k s.1 u (checkpoint_of k u) r e) t s.1

  module _ (m : Member S) (found : slice_get t.members u ≡ Some m) (up : is_some m.unit_state.progress ≡ true) where
    -- A checkpoint of a unit with volatile records is refused, and the tenant stays as it was.
    pub checkpoint_unlogged : 0 < length m.unit_state.volatile
        → Leaves M name live (checkpoint w u) (Refused Unlogged) t log
    checkpoint_unlogged some =
        let x = keeps t live k s.1 u m found in
        let all = places_are_seen M m.unit_state x.unit x.is.kept x.is.seen in
        let unstable = all.unstable in
        let b = true_lt x.unit.stable (all_of x.unit) (omega (arith, unstable, some)) in
        leaves M name live log (checkpoint w u)
        reach _ (record { reply = Refused Unlogged; state = k }) (checkpoints_follow M name k w log s.2 u)
        (is_up t live k s.1 u (checkpoint_of k u) m x up
        ∙ fails k (record {
          reply = Checkpointed (last_mark u x.unit);
          state =
              with_unit_at k u (shelved_unit x.unit);
        }) Unlogged (nat_lt x.unit.stable (all_of x.unit)) b) t s.1

    not_lt : (a b : ℕ) → b - a ≡ 0 → nat_lt a b ≡ false
    not_lt a b e = grind (arith, nat_tests)

    -- A checkpoint of a unit that is up and has no volatile record is put, as the definitions say.
    pub checkpoint_done : length m.unit_state.volatile ≡ 0
        → (at : Mark) → ((x : CompactUnit S) → IsKept m.unit_state → IsSeen m.unit_state x → at ≡ last_mark u x)
        → Leaves M name live (checkpoint w u)
        (Checkpointed at) (record t { members = slice_set t.members u (checkpointed_member m) }) log
    checkpoint_done none at is =
        let x = keeps t live k s.1 u m found in
        let i = x.is in
        let r = m.unit_state in
        let all = places_are_seen M r x.unit i.kept i.seen in
        let p = there r.progress up in
        let seen = checkpoints_are_seen M r x.unit i.kept i.seen (empty r.volatile none) p.0 p.1 in
        let fewer : CompactUnit S = record (shelved_unit x.unit) { shelf = drop seen.0 (shelved_unit x.unit).shelf } in
        let one : IsMember t live u (checkpointed_member m) fewer = record {
          kept = kept_shelved r (checkpointed r).shelf (places r - 1) r.progress i.kept none refl refl;
          seen = seen.2;
          own = i.own;
          outputs = i.outputs;
          known = i.known;
          stable = i.stable;
          frontier = i.frontier;
          released = i.released;
          places = i.places;
        } in
        let first : Compact S = with_unit_at k u (shelved_unit x.unit) in
        let goes : (z : World) → StandsCompact M name first z log → Represents M name (with_unit_at k u fewer) z log =
        (λ z stands. subst (λ (units : List (CompactUnit S)). Represents M name (record k { units = units }) z log)
        (set_again k.units u (shelved_unit x.unit) fewer)
        (snapshots_go M name first z
        log stands u (shelved_unit x.unit) (set_get_same k.units u (shelved_unit x.unit) x.unit x.at) seen.0)) in
        leaves_on M name live log (checkpoint w u)
        reach _ (record { reply = Checkpointed at; state = first }) (checkpoints_follow M name k w log s.2 u)
        (is_up t live k s.1 u (checkpoint_of k u) m x up
        ∙ passes k (record { reply = Checkpointed (last_mark u x.unit); state = first })
        Unlogged (nat_lt x.unit.stable (all_of x.unit)) (not_lt x.unit.stable (all_of x.unit) (all.unstable ∙ none))
        ∙ (λ j. record { reply = Checkpointed (sym (is x.unit i.kept i.seen) j); state = first }))
        (with_unit_at k u fewer) goes (record t { members = slice_set t.members u (checkpointed_member m) })
        (with_one t live k s.1 u (checkpointed_member m) fewer one)
