use Rattle.std.proofs.Common.{◌∙◌}
use Rattle.snapshot.proofs.entries.encode_named.Goals as goal

pub returns-clause-code : goal.returns-clause-code
returns-clause-code g c = λ rest. c.in_ok-encode_tenant.ensures.code rest ∙ c.in_ok-encode.ensures.code _

pub returns-clause-fits : goal.returns-clause-fits
returns-clause-fits g c = (c.in_ok-encode.ensures.fits, c.in_ok-encode_tenant.ensures.fits)
