use Rattle.std.proofs.Common.{◌∙◌}
use Rattle.auditor.proofs.tenant_audit.own_part.Goals as goal

pub returns : goal.returns
returns g c = c.of.ensures ∙ c.requires c.args.tenant.now
