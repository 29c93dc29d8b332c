-- The step `status`.
use Rattle.std.proofs.Common.{◌≡◌, sym, ◌∙◌, ap, ℕ, ◌+◌, ◌-◌, Bool, List, length, length-append}
use Rattle.std.specs.Prelude.{Some, None, slice_get}
use Rattle.std.specs.Option.{is_some}
use Rattle.model.specs.declared.names.Mark.{Mark}
use Rattle.model.specs.declared.records.Record.{Record}
use Rattle.model.specs.declared.refusals.Refusal.TheVariants.{NoUnit}
use Rattle.model.specs.declared.replies.End.TheVariants.{Whole}
use Rattle.model.specs.declared.replies.Reply.TheVariants.{Refused, Status}
use Rattle.model.specs.declared.steps.TenantStep.TheVariants.{Status as StatusStep}
use Rattle.model.specs.Handler.{Meaning}
use Rattle.model.specs.World.{World}
use Rattle.model.specs.Steps.{status}
use Rattle.model.specs.Alone.Reachable.{stepped}
use Rattle.compact.specs.Compact.{Compact, CompactUnit}
use Rattle.compact.specs.Steps.{at_unit_of, last_mark, status_of}
use Rattle.compact.proofs.Releases.{statuses_follow}
use Rattle.rollback.specs.Units.{IsKept, stable_places}
use Rattle.rollback_laws.specs.Seen.{IsSeen}
use Rattle.rollback_laws.proofs.Places.{places_are_seen}
use Rattle.tenant.specs.Kept.{TenantState, Member}
use Rattle.tenant.specs.Represents.{Leaves, StandsFor}
use Rattle.tenant.proofs.Follow.{keeps, leaves, no_unit}

module _ {S : Type 0} (M : Meaning S) (name : List ℕ) (live : ℕ → List ℕ)
    (t : TenantState S) (w : World) (log : List Record) (s : StandsFor M name live t w log) (u : ℕ) where
  abbrev k : Compact S
  k = s.0

  -- A status of a unit that isn't there is refused, and the tenant stays as it was.
  pub status_refused : slice_get t.members u ≡ None → Leaves M name live (status M w u) (Refused NoUnit) t log
  status_refused e = leaves M name live log (status M w u) (λ z f. stepped (record {
    step = StatusStep u;
    said =
        record { appended = 0; end = Whole };
  }) s.2.reached f) _ (record { reply = Refused NoUnit; state = k })
      (statuses_follow M name k w log s.2 u) (no_unit t live k s.1 u (status_of k u) e) t s.1

  -- A status of a unit that is there tells of it what the definitions say.
  pub status_done : (m : Member S) → slice_get t.members u ≡ Some m
      → (at : Mark) (held known outside released rows stable : ℕ) (up : Bool) (volatile : ℕ)
      → ((x : CompactUnit S) → IsKept m.unit_state → IsSeen m.unit_state x → at ≡ last_mark u x)
      → held ≡ length m.outputs → known ≡ m.known → outside ≡ m.unit_state.outside
      → ((gone : ℕ) (texts : List (List ℕ)) → slice_get t.gone u ≡ Some gone → slice_get t.released u ≡ Some texts
      → released ≡ gone + length texts) → rows ≡ length t.table → stable ≡ stable_places m.unit_state - 1
      → up ≡ is_some m.unit_state.progress → volatile ≡ length m.unit_state.volatile
      → Leaves M name live (status M w u) (Status up at held known outside released rows stable volatile) t log
  status_done m found at held known outside released rows stable up volatile a b c d e f g h v =
      let x = keeps t live k s.1 u m found in
      let i = x.is in
      let all = places_are_seen M m.unit_state x.unit i.kept i.seen in
      let a' : last_mark u x.unit ≡ at = sym (a x.unit i.kept i.seen) in
      let b' : length x.unit.hold ≡ held = ap length i.outputs ∙ sym b in
      let c' : x.unit.known ≡ known = i.known ∙ sym c in
      let d' : x.unit.outside ≡ outside = i.seen.outside ∙ sym d in
      let out = i.released in
      let e' : length x.unit.released ≡ released =
      ap length out.4 ∙ length-append out.0 out.1 ∙ sym (e (length out.0) out.1 out.2 out.3) in
      let f' : length k.table ≡ rows = ap length s.1.table ∙ sym f in
      let g' : x.unit.stable - 1 ≡ stable = ap (λ n. n - 1) i.seen.stable ∙ sym g in
      let h' : x.unit.up ≡ up = i.seen.up ∙ sym h in
      leaves M name live log (status M w u)
      (λ z f. stepped (record { step = StatusStep u; said = record { appended = 0; end = Whole } }) s.2.reached f) _
      (record { reply = Status up at held known outside released rows stable volatile; state = k })
      (statuses_follow M name k w log s.2 u)
      (ap (at_unit_of k (status_of k u)) x.at ∙ (λ j. record {
        reply =
            Status (h' j) (a' j) (b' j) (c' j) (d' j) (e' j) (f' j) (g' j) ((all.unstable ∙ sym v) j);
        state = k;
      }))
      t s.1
