use Rattle.std.proofs.Common.{◌≡◌, ◌<◌, sym, subst, List, ℕ, [], ◌∷◌, take, drop, length, arith}
use Rattle.std.specs.Prelude.{All, Contains, slice_index_or, ◌+◌}
use Rattle.std.proofs.lemmas.List.{take_all, get_or_read}
use Rattle.std.proofs.lemmas.List.Elements.{All-head, All-more, All-nil, All-tail, All-weaker}
use Rattle.shared_log.specs.Filled.{pairs_at}
use Rattle.shared_log.specs.Logged.{IsHeld, places_of, Logged}
use Rattle.shared_log.proofs.LiveLaws.{all_met}
use Rattle.codec.proofs.Each.{at_drop}
use Rattle.snapshot.specs.Logs.{NoneOf}
use Rattle.snapshot.proofs.Room.{none_yet, others_follow, room_yet, tenant_follows}
use Rattle.snapshot.proofs.log.live_places.Goals as goal

abbrev Met : Logged → List ℕ → List ℕ → Type 0
Met log places tenant = (unit place : ℕ) → Contains (places_of tenant unit log) place → Contains places place

one_met : (log : Logged) (old new : List ℕ) (names : List (List ℕ)) (i : ℕ) (tenant : List ℕ) → i < length names
    → ((place : ℕ) → Contains old place → Contains new place) → tenant ≡ slice_index_or names i tenant
    → All (Met log old) (take i names) → Met log new tenant → All (Met log new) (take (i + 1) names)
one_met log old new names i tenant within grown is all own =
    All-more (Met log new) names i [] within
    (All-weaker (Met log old) (Met log new) (λ t h unit place k. grown place (h unit place k)) (take i names) all)
    (subst (Met log new) (get_or_read names i tenant within is []) own)

pub loop-tenant-init : goal.loop-tenant-init
loop-tenant-init c =
    let none = c.new-places.ensures.items in
    record {
      met = λ k d h. absurd (omega (arith, h));
      held = subst (All (IsHeld c.args.log.now.records)) (sym none) (All-nil (IsHeld c.args.log.now.records));
      room = room_yet c.args.log.now.records c.new-places.result.items none;
      later = none_yet c.args.log.now.records c.new-places.result.items c.tenants-names.result.now none;
    }

pub loop-tenant-preserved : goal.loop-tenant-preserved
loop-tenant-preserved c =
    let rs = c.args.log.now.records in
    let old = c.loop-tenant.places.items in
    let names = c.tenants-names.result.now in
    let rest = drop (c.loop-tenant.tenant-index + 1) names in
    let tenant = c.tenant-item.result in
    let left = at_drop names c.loop-tenant.tenant-index tenant c.loop-tenant-test.true c.tenant-item.is in
    let none : All (λ (name : List ℕ). NoneOf name (pairs_at rs old)) (tenant ∷ rest) =
    subst (All (λ (name : List ℕ). NoneOf name (pairs_at rs old))) left c.loop-tenant.invariant.later in
    record {
      met = one_met c.args.log.now c.loop-tenant.places.items c.add_tenant.new.places.items c.tenants-names.result.now
          c.loop-tenant.tenant-index c.tenant-item.result c.loop-tenant-test.true c.in_ok-add_tenant.ensures.grown
          c.tenant-item.is c.loop-tenant.invariant.met c.in_ok-add_tenant.ensures.met;
      held = c.in_ok-add_tenant.ensures.held c.loop-tenant.invariant.held;
      room = tenant_follows c.args.log.now old c.add_tenant.new.places.items tenant 256 c.in_ok-add_tenant.ensures.walk
          (All-head (λ (name : List ℕ). NoneOf name (pairs_at rs old)) tenant rest none) c.loop-tenant.invariant.room;
      later = others_follow c.args.log.now old c.add_tenant.new.places.items tenant 256 names rest
          c.loop-tenant.tenant-index
          c.in_ok-add_tenant.ensures.walk c.tenants-names.ensures.once left
          (All-tail (λ (name : List ℕ). NoneOf name (pairs_at rs old)) tenant rest none);
    }

pub returns-clause-all : goal.returns-clause-all
returns-clause-all c =
    all_met c.args.log.now c.tenants-names.result.now c.loop-tenant.places.items c.tenants-names.ensures.all
    (subst (λ (names : List (List ℕ)). All (Met c.args.log.now c.loop-tenant.places.items) names)
    (take_all c.loop-tenant.tenant-index c.tenants-names.result.now c.loop-tenant-test.false)
    c.loop-tenant.invariant.met)
