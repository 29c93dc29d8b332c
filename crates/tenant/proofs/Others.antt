-- What a tenant stands for stays where the log changes beside it.
use Rattle.std.proofs.Common.{◌≡◌, sym, ◌∙◌, ap, subst, ℕ, ◌+◌, true, false, List, [], ◌++◌, length, take, append-nil}
use Rattle.std.proofs.Common.{arith, map}
use Rattle.std.specs.Prelude.{IfOk, OnErr, Option, Some, Result, Ok, Err, slice_get, bytes_eq}
use Rattle.std.proofs.lemmas.Option.{slice_get_within}
use Rattle.std.proofs.lemmas.List.{length-take}
use Rattle.std.proofs.lemmas.Slice.Eq.{bytes_eq-Decides}
use Rattle.model.specs.declared.records.Record.{Record}
use Rattle.model.specs.Handler.{Meaning}
use Rattle.model.specs.World.{World}
use Rattle.theory.proofs.ListLaws.{get_take}
use Rattle.shared_log.specs.Logged.{Grows, Logged, OthersKept, places_from}
use Rattle.shared_log.proofs.LeftLaws.{appended_grows, same_grows}
use Rattle.compact.proofs.Flushes.{logs_may_grow}
use Rattle.tenant.specs.Bases.{IsBeside}
use Rattle.tenant.specs.Kept.{TenantState}
use Rattle.tenant.specs.Live.{OthersLive}
use Rattle.tenant.specs.Stands.{Stands, live_in}
use Rattle.tenant.specs.Represents.{IsCompact}
use Rattle.tenant.proofs.Logging.{AreOf}
use Rattle.tenant.proofs.Places.{other_places, owns_not, places_behind, places_same, live_same}
use Rattle.tenant.proofs.Standing.{closed, opened}

-- Its records are live as they were.
pub stands_beside : {S : Type 0} (M : Meaning S) (name : List ℕ) (t : TenantState S)
    (w : World) (before after : List (Option Record)) (grown : List Record) → Grows before grown after
    → ((u : ℕ) → live_in name after u ≡ live_in name before u) → Stands M name t w before → Stands M name t w after
stands_beside M name t w before after grown grows same given =
    let s = opened given in
    closed (record {
      whole = s.whole ++ grown;
      left = grows s.whole s.left;
      stands = (
        s.stands.0,
        subst (λ (live : ℕ → List ℕ). IsCompact t live s.stands.0) (λ i u. sym (same u) i) s.stands.1,
        record {
          reached = s.stands.2.reached;
          represents = logs_may_grow M name s.stands.0 w s.whole grown s.stands.2.represents;
        },
      );
    })

-- Records of one tenant that are appended leave the live places of the others as they were.
pub appended_live : (name other : List ℕ) (before after : List (Option Record)) (records : List Record) (n : ℕ)
    → after ≡ before ++ map Some (take n records) → AreOf name records n → bytes_eq other name ≡ false
    → (u : ℕ) → places_from other u 0 after ≡ places_from other u 0 before
appended_live name other before after records n logged of_name differs u =
    ap (places_from other u 0) logged
    ∙ places_behind other u 0 before (map Some (take n records))
    ∙ ap (λ ps. places_from other u 0 before ++ ps) (other_places other
    u (0 + length before) (take n records) (λ i r e. owns_not other u r (λ own unit. not_own i r e own)))
    ∙ append-nil (places_from other u 0 before)
  where
    not_own : (i : ℕ) (r : Record) → slice_get (take n records) i ≡ Some r → r.tenant ≡ other → ⊥
    not_own i r e own =
        let f = get_take records n i r e in
        let within = slice_get_within (take n records) i r e in
        let long = length-take n records in
        let is_name : r.tenant ≡ name =
        (bytes_eq-Decides r.tenant name).0 (of_name i r (omega (arith, within, long)) f.0) in
        let is : bytes_eq other name ≡ true = (bytes_eq-Decides other name).1 (sym own ∙ is_name) in
        cc (is, differs)

-- Records of one tenant are live of no other.
pub appended_beside : {S : Type 0} (M : Meaning S) (name other : List ℕ) (t : TenantState S) (w : World)
    (before after : List (Option Record)) (records : List Record) (n : ℕ) → after ≡ before ++ map Some (take n records)
    → AreOf name records n → bytes_eq other name ≡ false → Stands M other t w before → Stands M other t w after
appended_beside M name other t w before after records n logged of_name differs s =
    stands_beside M other t w before after (take n records) (appended_grows before after (take n records) logged)
    (appended_live name other before after records n logged of_name differs) s

-- A unit's records that go are of no other tenant.
pub returned_beside : {S : Type 0}
    (M : Meaning S) (name other : List ℕ) (u : ℕ) (t : TenantState S) (w : World) (before after : Logged)
    → Grows before.records [] after.records × OthersKept name u before after → bytes_eq other name ≡ false
    → Stands M other t w before.records → Stands M other t w after.records
returned_beside M name other u t w before after kept differs s =
    stands_beside M other t w before.records after.records [] kept.0
    (λ v. live_same before after other v (kept.1 other v (λ h. let is : bytes_eq other name ≡ true =
    (bytes_eq-Decides other name).1 h.0 in cc (is, differs)))) s

-- So it is whether or not the call succeeded.
pub either_beside : {T E : Type 0} (r : Result T E) (name : List ℕ) (u : ℕ) (before after : Logged)
    → IfOk r (λ _. Grows before.records [] after.records × OthersKept name u before after)
    → OnErr r (after.records ≡ before.records)
    → Grows before.records [] after.records × OthersKept name u before after
either_beside (Ok x) name u before after h e = h
either_beside (Err x) name u before after h e =
    (same_grows before.records after.records e, λ n v other. places_same before after e n v)

-- A log that grows by no record and lets go only one tenant's has the live places of the others as they were.
pub beside_live : (name : List ℕ) (before after : Logged)
    → IsBeside name before after → OthersLive name before.records after.records
beside_live name before after b other u differs = live_same before after other u (b.others other u differs)

-- So it has where only one unit's records go.
pub returned_live : (name : List ℕ) (u : ℕ) (before after : Logged)
    → Grows before.records [] after.records × OthersKept name u before after
    → OthersLive name before.records after.records
returned_live name u before after kept other v differs = live_same before after other v (kept.1 other v (λ h.
    let is : bytes_eq other name ≡ true = (bytes_eq-Decides other name).1 h.0 in cc (is, differs)))
