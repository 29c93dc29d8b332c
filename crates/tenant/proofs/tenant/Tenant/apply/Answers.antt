use Rattle.std.proofs.Common.{rules, ◌≡◌, ◌<◌, refl, sym, ◌∙◌, ap, subst, ◌++◌, length}
use Rattle.std.specs.Prelude.{slice_get, slice_set}
use Rattle.std.proofs.lemmas.Option.{get_or_from_slice_get, slice_get_read}
use Rattle.theory.proofs.ListLaws.{set_same}
use Rattle.rollback.specs.Units.{recorded}
use Rattle.tenant.specs.Kept.{Member, TenantState, gone_of, received_kept, received_member, released_of}
use Rattle.tenant.proofs.tenant.Tenant.apply.Goals as goal

pub receive-requires-clause-next : goal.receive-requires-clause-next
receive-requires-clause-next g c κs within =
    let items = c.self.inside.members.items in
    let place = c.from.ensures ∙ c.number.ensures in
    let q : Member g.row.H-State.Denot = c.index_mut-member.result.now in
    let here : slice_get c.args.self.now.members c.args.unit ≡ slice_get items c.from.result =
    (λ i. slice_get (ap (λ (t : TenantState _). t.members) (sym c.self.view_is) i) (sym place i)) in
    let inside : c.from.result < length items = subst (λ n. n < length items) (sym place)
    (subst (λ (t : TenantState g.row.H-State.Denot). c.args.unit < length t.members) (sym c.self.view_is)
    c.requires.within) in
    c.requires.next q (here ∙ slice_get_read items (length items) c.from.result q refl inside
    c.index_mut-member.ensures.value)

pub returns-in_err-reserve-clause-err : goal.returns-in_err-reserve-clause-err
returns-in_err-reserve-clause-err g c =
    let inside = c.self.inside in
    let was : TenantState g.row.H-State.Denot = record {
      quota = inside.quota;
      optimism = inside.optimism;
      table = inside.table;
      members = inside.members.items;
      stable_lengths = inside.stable_lengths.items;
      frontiers = inside.frontiers.items;
      gone = gone_of inside.outlet;
      released = released_of inside.outlet;
      letters = inside.letters.items;
    } in
    let same : record was { letters = c.reserve.new.self.items } ≡ c.args.self.now =
    (λ i. record was { letters = c.in_err-reserve.ensures.items i }) ∙ c.self.view_is in
    search (rules, same)

pub returns-in_err-receive-clause-err : goal.returns-in_err-receive-clause-err
returns-in_err-receive-clause-err g c =
    let inside = c.self.inside in
    let items = inside.members.items in
    let place = c.from.ensures ∙ c.number.ensures in
    let q : Member g.row.H-State.Denot = c.index_mut-member.result.now in
    let within : c.from.result < length items = subst (λ n. n < length items) (sym place)
    (subst (λ (t : TenantState g.row.H-State.Denot). c.args.unit < length t.members) (sym c.self.view_is)
    c.requires.within) in
    let members = ap (slice_set items c.from.result) c.in_err-receive.ensures.err
    ∙ set_same items c.from.result q (slice_get_read items (length items) c.from.result q refl within
    c.index_mut-member.ensures.value) in
    let was : TenantState g.row.H-State.Denot = record {
      quota = inside.quota;
      optimism = inside.optimism;
      table = inside.table;
      members = inside.members.items;
      stable_lengths = inside.stable_lengths.items;
      frontiers = inside.frontiers.items;
      gone = gone_of inside.outlet;
      released = released_of inside.outlet;
      letters = inside.letters.items;
    } in
    let same : record was {
      members = slice_set items c.from.result c.receive.new.self;
      letters = c.reserve.new.self.items;
    } ≡ c.args.self.now =
    (λ i. record was { members = members i; letters = c.in_ok-reserve.ensures.items i }) ∙ c.self.view_is in
    search (rules, same)

pub returns-clause-ok : goal.returns-clause-ok
returns-clause-ok g c = λ m there.
    let place = c.from.ensures ∙ c.number.ensures in
    let inside = c.self.inside in
    let items = inside.members.items in
    let here : slice_get items c.from.result ≡ slice_get c.args.self.now.members c.args.unit =
    (λ i. slice_get (ap (λ (t : TenantState _). t.members) c.self.view_is i) (place i)) in
    let q : Member g.row.H-State.Denot = c.index_mut-member.result.now in
    let same : q ≡ m =
    c.index_mut-member.ensures.value ∙ get_or_from_slice_get items c.from.result m q (here ∙ there) in
    let one = received_member g.H.Handler.meaning m (recorded c.args.name.now c.args.plan.logged) c.args.turn.outputs in
    let members = ap (slice_set items c.from.result) (c.in_ok-receive.ensures.ok
    ∙ ap (λ (z : Member g.row.H-State.Denot).
    received_member g.H.Handler.meaning z (recorded c.args.name.now c.args.plan.logged) c.args.turn.outputs) same)
    ∙ ap (λ n. slice_set items n one) place in
    let letters = c.add.ensures ∙ ap (λ ls. ls ++ c.args.plan.made.items) c.in_ok-reserve.ensures.items in
    let was : TenantState g.row.H-State.Denot = record {
      quota = inside.quota;
      optimism = inside.optimism;
      table = inside.table;
      members = inside.members.items;
      stable_lengths = inside.stable_lengths.items;
      frontiers = inside.frontiers.items;
      gone = gone_of inside.outlet;
      released = released_of inside.outlet;
      letters = inside.letters.items;
    } in
    (λ i. record was { members = members i; letters = letters i })
    ∙ (λ i. received_kept g.H.Handler.meaning (c.self.view_is i) c.args.unit m
    (recorded c.args.name.now c.args.plan.logged) c.args.turn.outputs c.args.plan.made.items)
