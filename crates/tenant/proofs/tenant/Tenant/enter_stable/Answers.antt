use Rattle.std.proofs.Common.{◌∙◌, ap, subst}
use Rattle.std.specs.Prelude.{slice_get}
use Rattle.tenant.specs.Kept.{MakesStable, TenantState, gone_of, released_of}
use Rattle.tenant.proofs.Fronts.{flushed_by}
use Rattle.tenant.proofs.tenant.Tenant.enter_stable.Goals as goal

pub returns-clause-makes : goal.returns-clause-makes
returns-clause-makes g c = λ m found.
    let i = c.self.inside in
    let v : TenantState g.row.H-State.Denot = record {
      quota = i.quota;
      optimism = i.optimism;
      table = i.table;
      members = i.members.items;
      stable_lengths = i.stable_lengths.items;
      frontiers = i.frontiers.items;
      gone = gone_of i.outlet;
      released = released_of i.outlet;
      letters = i.letters.items;
    } in
    let new : TenantState g.row.H-State.Denot = record v {
      members = c.mark_stable.new.members.items;
      stable_lengths = c.mark_stable.new.stable_lengths.items;
      frontiers = c.advance_frontiers.new.frontiers.items;
    } in
    subst (λ (t : TenantState g.row.H-State.Denot). MakesStable t c.args.unit c.args.count m new) c.self.view_is
    (flushed_by v c.args.unit c.args.count c.from.result (c.from.ensures ∙ c.number.ensures) m
    (ap (λ (t : TenantState g.row.H-State.Denot). slice_get t.members c.args.unit) c.self.view_is ∙ found)
    c.mark_stable.new.members.items c.mark_stable.new.stable_lengths.items c.advance_frontiers.new.frontiers.items
    c.mark_stable.ensures.members c.mark_stable.ensures.lengths c.advance_frontiers.ensures.len
    c.as_slice-2.result.now c.as_slice.result.now
    c.as_slice-2.ensures.value c.as_slice.ensures.value c.advance_frontiers.ensures.fronts)
