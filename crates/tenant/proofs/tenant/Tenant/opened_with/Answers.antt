use Rattle.std.proofs.Common.{◌≡◌, length, replicate, rules}
use Rattle.tenant.proofs.tenant.Tenant.opened_with.Goals as goal

pub returns : goal.returns
returns g c =
    let width = length c.args.names.now in
    let stables : c.in_ok-stable_lengths.stable_lengths.items ≡ replicate width 1 = search rules in
    let fronts : c.in_ok-frontiers.frontiers.items ≡ replicate width 1 = search rules in
    λ i. record {
      quota = c.args.quota;
      optimism = c.args.optimism;
      table = c.new.ensures i;
      members = c.in_ok-members.ensures i;
      stable_lengths = stables i;
      frontiers = fronts i;
      gone = c.in_ok-outlet.ensures.gone i;
      released = c.in_ok-outlet.ensures.texts i;
      letters = c.new-2.ensures i;
    }
