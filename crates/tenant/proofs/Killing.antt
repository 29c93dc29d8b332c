-- The step `kill`.
use Rattle.std.proofs.Common.{◌≡◌, ◌⊎◌, ◌^◌, inl, inr, refl, sym, ◌∙◌, ap, subst, ℕ, suc, ◌-◌, ◌≤◌, true, min, List}
use Rattle.std.proofs.Common.{length, arith}
use Rattle.std.specs.Prelude.{Some, slice_get, slice_set, nat_lt}
use Rattle.std.specs.Option.{is_some}
use Rattle.std.proofs.Math.Seq.{take-length}
use Rattle.std.proofs.lemmas.Bool.Decides.{nat_tests}
use Rattle.std.proofs.lemmas.List.{take_all, length-take-le}
use Rattle.std.proofs.lemmas.Option.{slice_get_within}
use Rattle.model.specs.declared.records.Record.{Record}
use Rattle.model.specs.declared.refusals.Refusal.{Refusal}
use Rattle.model.specs.declared.replies.End.TheVariants.{Whole}
use Rattle.model.specs.declared.replies.Reply.TheVariants.{Killed, Refused}
use Rattle.model.specs.declared.steps.TenantStep.TheVariants.{Kill}
use Rattle.model.specs.Handler.{Meaning}
use Rattle.model.specs.World.{World, is_firm}
use Rattle.model.specs.Steps.{kill}
use Rattle.model.specs.Alone.Reachable.{stepped}
use Rattle.model.proofs.Places.{get_below}
use Rattle.theory.proofs.Certificate.{reachable_invariant}
use Rattle.theory.proofs.ListLaws.{bool_cases, take_while_le}
use Rattle.output_commit.specs.declared.held.Held.{Held}
use Rattle.output_commit.specs.Holds.{held_below}
use Rattle.layer_laws.specs.Laws.{held_outputs}
use Rattle.compact.specs.Compact.{Compact, CompactUnit}
use Rattle.compact.specs.Steps.{kill_of, killed_unit, places as all_of}
use Rattle.compact.specs.StepLaws.{StandsCompact}
use Rattle.compact.proofs.Cuts.{cut_hold, cut_member}
use Rattle.compact.proofs.Recovery.{kills_follow}
use Rattle.compact.proofs.Tests.{places_are}
use Rattle.rollback.specs.Units.{killed_recovering, places}
use Rattle.rollback.proofs.StaysKept.{kept_killed}
use Rattle.rollback_laws.proofs.Failures.{kills_are_seen}
use Rattle.rollback_laws.proofs.Places.{places_are_seen}
use Rattle.rollback_laws.proofs.Standing.{units_are_ready}
use Rattle.tenant.specs.Kept.{TenantState, Member, killed_member, outputs_to, up_refusal}
use Rattle.tenant.specs.Represents.{AreLast, IsMember, Leaves, StandsFor}
use Rattle.tenant.proofs.Follow.{is_up, keeps, leaves, not_up, with_one}

-- no output is of an interval that the path does not have
pub whole_hold : {S : Type 0} (M : Meaning S) (name : List ℕ) (k : Compact S) (w : World) (log : List Record)
    → StandsCompact M name k w log
    → (u : ℕ) (x : CompactUnit S) → slice_get k.units u ≡ Some x → held_below x.hold (all_of x) ≡ x.hold
whole_hold M name k w log s u x at =
    let width = s.represents.width in
    let f = get_below w.members u (let a = slice_get_within k.units u x at in omega (arith, a, width)) in
    let m = f.0 in
    let here = s.represents.units u m x f.1 at in
    let logged = ((reachable_invariant M s.reached).chain.sound.units u m f.1).logged in
    let long = length-take-le (length m.path) m.path (omega arith) in
    let same : cut_member m (length m.path) m.stable m.up m.known ≡ m = λ i. record m { path = take-length m.path i } in
    ap (held_below x.hold) (places_are M name w log m x here)
    ∙ cut_hold M name w log s.reached u m f.1 x here (length m.path)
    (take_while_le (is_firm w) m.path) (omega arith) m.stable (omega (arith, logged, long)) m.up m.known
    ∙ ap (held_outputs M w) same
    ∙ sym here.hold

-- a path has as many places as an index tells apart, at most
pub few_places : (n p : ℕ) → n ≡ p → p ≤ 2 ^ 32 → n ≤ 4294967296
few_places n p e h = omega (arith, e, h)

-- a cut to all that is stable
pub hold_cut : (hold : List Held) (stable all : ℕ)
    → held_below hold all ≡ hold → stable ≤ all → all ≤ 4294967296 → held_below hold stable ≡ outputs_to hold stable
hold_cut hold stable all whole h few = elim (bool_cases (nat_lt stable 4294967296)) [
  | inl e ↦ rw e refl
  | inr e ↦
      let same : stable ≡ all =
      elim (dec stable) [ inl q ↦ absurd (cc (sym e ∙ q)) | inr q ↦ omega (arith, q, h, few) ] in
      rw (e, same) whole
]
  where
    dec : (n : ℕ) → (nat_lt n 4294967296 ≡ true) ⊎ (4294967296 ≤ n)
    dec n = grind (arith, nat_tests)

module _ {S : Type 0} (M : Meaning S) (name : List ℕ) (live : ℕ → List ℕ)
    (t : TenantState S) (w : World) (log : List Record) (s : StandsFor M name live t w log) (u : ℕ) where
  abbrev k : Compact S
  k = s.0

  -- A kill of a unit that isn't there or isn't up is refused, and the tenant stays as it was.
  pub kill_refused : (r : Refusal)
      → up_refusal (slice_get t.members u) ≡ Some r → Leaves M name live (kill w u) (Refused r) t log
  kill_refused r e = leaves M name live log (kill w u) (λ z f. stepped (record {
    step = Kill u;
    said = record { appended = 0; end = Whole };
  }) s.2.reached f) _ (record { reply = Refused r; state = k })
      (kills_follow M name k w log s.2 u) (not_up t live k s.1 u (kill_of k u) r e) t s.1

  module _ (m : Member S) (found : slice_get t.members u ≡ Some m) where
    killed_is : (x : CompactUnit S) → slice_get k.units u ≡ Some x
        → IsMember t live u m x → IsMember t live u (killed_member m) (killed_unit x)
    killed_is x at i =
        let r = m.unit_state in
        let seen = kills_are_seen M r x i.kept i.seen in
        let some = i.kept.stable in
        let few : places r ≤ 2 ^ 32 = i.kept.few in
        let all = places_are_seen M r x i.kept i.seen in
        let long = all.long in
        let unstable = all.unstable in
        let ready = units_are_ready M name k w log s.2 u x at r i.kept i.seen in
        let count = ready.live in
        let least : x.stable ≡ min x.stable x.stable = omega arith in
        let low : x.stable ≤ all_of x =
        (let a = i.seen.stable in stable_low x.stable (places r) (length r.volatile) (all_of x) a long) in
        let stable : x.stable ≡ places (killed_recovering r) = least ∙ seen.stable
        ∙ (let z : places (killed_recovering r) - 0 ≡ places (killed_recovering r) = omega arith in z) in
        record {
          kept = kept_killed r (killed_recovering r).outside (killed_recovering r).intervals (killed_recovering
              r).volatile (length r.intervals - length r.volatile) i.kept refl (omega (arith, some)) refl refl;
          seen = seen;
          own = i.own;
          outputs = hold_cut x.hold x.stable (all_of x) (whole_hold M name k w log s.2 u x at)
              low (few_places (all_of x) (places r) long few) ∙ (λ j. outputs_to (i.outputs j) (stable j));
          known = i.known;
          stable = i.stable ∙ ap (λ n. Some n) least;
          frontier = i.frontier;
          released = i.released;
          places = subst (λ (ps : List ℕ). AreLast ps (live u))
              (sym (take_all (x.stable - suc x.base.index) x.live (omega (arith, count)))) i.places;
        }
      where
        stable_low : (a p v n : ℕ) → a ≡ p - v → n ≡ p → a ≤ n
        stable_low a p v n e f = omega (arith, e, f)

    -- A kill of a unit that is up leaves it killed, as the definitions say.
    pub kill_done : is_some m.unit_state.progress ≡ true → Leaves M name live (kill w u)
        (Killed (length m.unit_state.volatile)) (record t { members = slice_set t.members u (killed_member m) }) log
    kill_done e =
        let x = keeps t live k s.1 u m found in
        let all = places_are_seen M m.unit_state x.unit x.is.kept x.is.seen in
        leaves M name live log (kill w u)
        (λ z f. stepped (record { step = Kill u; said = record { appended = 0; end = Whole } }) s.2.reached f) _
        (record { reply = Killed (length m.unit_state.volatile); state = (kill_of k u x.unit).state })
        (kills_follow M name k w log s.2 u)
        (is_up t live k s.1 u (kill_of k u) m x e
        ∙ (λ i. record { reply = Killed (all.unstable i); state = (kill_of k u x.unit).state }))
        (record t { members = slice_set t.members u (killed_member m) })
        (with_one t live k s.1 u (killed_member m) (killed_unit x.unit) (killed_is x.unit x.at x.is))
