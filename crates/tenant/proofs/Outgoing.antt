-- The step `release`.
use Rattle.std.proofs.Common.{◌≡◌, sym, ◌∙◌, ap, append_assoc, subst, ℕ, true, List, ◌++◌, map}
use Rattle.std.specs.Prelude.{Some, slice_get}
use Rattle.std.specs.Option.{is_some}
use Rattle.model.specs.declared.records.Record.{Record}
use Rattle.model.specs.declared.refusals.Refusal.{Refusal}
use Rattle.model.specs.declared.replies.End.TheVariants.{Whole}
use Rattle.model.specs.declared.replies.Reply.TheVariants.{Refused, Released}
use Rattle.model.specs.declared.steps.TenantStep.TheVariants.{Release}
use Rattle.model.specs.Handler.{Meaning}
use Rattle.model.specs.World.{World}
use Rattle.model.specs.Steps.{release}
use Rattle.model.specs.Alone.{Reachable}
use Rattle.model.specs.Alone.Reachable.{stepped}
use Rattle.theory.proofs.ListLaws.{set_get_same}
use Rattle.output_commit.specs.declared.held.Held.{Held}
use Rattle.output_commit.specs.Holds.{held_below}
use Rattle.compact.specs.Compact.{Compact}
use Rattle.compact.specs.Steps.{StepResult, release_of, released_unit}
use Rattle.compact.proofs.Releases.{releases_follow}
use Rattle.tenant.specs.Kept.{TenantState, Member, firm_of, firm_texts, released_member, unfirm, up_refusal}
use Rattle.tenant.specs.Kept.{with_firm_out}
use Rattle.tenant.specs.Represents.{IsCompact, IsMember, Leaves, StandsFor}
use Rattle.tenant.proofs.Follow.{is_up, keeps, leaves, not_up, with_one_out}

module _ {S : Type 0} (M : Meaning S) (name : List ℕ) (live : ℕ → List ℕ)
    (t : TenantState S) (w : World) (log : List Record) (s : StandsFor M name live t w log) (u : ℕ) where
  abbrev k : Compact S
  k = s.0

  reach : (z : World) → (release M w u).world ≡ Some z → Reachable M z
  reach z f = stepped (record { step = Release u; said = record { appended = 0; end = Whole } }) s.2.reached f

  -- A release of a unit that isn't there or isn't up is refused, and the tenant stays as it was.
  pub release_refused : (r : Refusal)
      → up_refusal (slice_get t.members u) ≡ Some r → Leaves M name live (release M w u) (Refused r) t log
  release_refused r e = leaves M name live log (release M w u) reach _ (record { reply = Refused r; state = k })
      (releases_follow M name k w log s.2 u) (not_up t live k s.1 u (release_of k u) r e) t s.1

  module _ (m : Member S) (found : slice_get t.members u ≡ Some m) (up : is_some m.unit_state.progress ≡ true) where
    abbrev after : ℕ → List (List ℕ) → TenantState S
    after frontier texts =
        record t { members = with_firm_out t.members u m frontier; released = firm_of t.released u m frontier texts }

    -- A release of a unit that is up leaves its firm outputs released, as the definitions say.
    pub release_done : (v : TenantState S) (texts : List (List ℕ))
        → ((frontier : ℕ) (had : List (List ℕ)) → m.unit ≡ u
        → slice_get t.frontiers u ≡ Some frontier → slice_get t.released u ≡ Some had → v ≡ after frontier had)
        → ((frontier : ℕ) → slice_get t.frontiers u ≡ Some frontier → texts ≡ firm_texts m.outputs frontier)
        → Leaves M name live (release M w u) (Released texts) v log
    release_done v texts is are =
        let x = keeps t live k s.1 u m found in
        let i = x.is in
        let f = x.unit.frontier in
        let out = i.released in
        let had = out.1 in
        let same : v ≡ after f had = is f had i.own i.frontier out.3 in
        let all : List (List ℕ) = had ++ firm_texts m.outputs f in
        let put : slice_get (firm_of t.released u m f had) u ≡ Some all = set_get_same t.released u all had out.3 in
        let given : StepResult S = record { reply = Released texts; state = (release_of k u x.unit).state } in
        let reply : map (λ (h : Held). h.text) (held_below x.unit.hold f) ≡ texts =
        ap (λ os. firm_texts os f) i.outputs ∙ sym (are f i.frontier) in
        let one : IsMember (after f had) live u (released_member m f) (released_unit x.unit) = record {
          kept = i.kept;
          seen = record {
            seat = i.seen.seat;
            up = i.seen.up;
            now = i.seen.now;
            stable = i.seen.stable;
            outside = i.seen.outside;
            base = i.seen.base;
            shelf = i.seen.shelf;
            intervals = i.seen.intervals;
            volatile = i.seen.volatile;
          };
          own = i.own;
          outputs = ap (λ os. unfirm os f) i.outputs;
          known = i.known;
          stable = i.stable;
          frontier = i.frontier;
          released = (
            out.0,
            all,
            out.2,
            put,
            (λ j. out.4 j ++ firm_texts (i.outputs j) f) ∙ append_assoc out.0 had (firm_texts m.outputs f),
          );
          places = i.places;
        } in
        leaves M name live log (release M w u) reach _ given (releases_follow M name k w log s.2 u)
        (is_up t live k s.1 u (release_of k u) m x up
        ∙ (λ j. record { reply = Released (reply j); state = (release_of k u x.unit).state }))
        v (subst (λ (q : TenantState S). IsCompact q live (release_of k u x.unit).state)
        (sym same) (with_one_out t live k s.1 u (released_member m f) (released_unit x.unit) all one))
