use Rattle.std.proofs.Common.{◌++◌, ◌∙◌, ap, subst, ℕ, ◌<◌, ◌^◌}
use Rattle.codec.specs.Codes.{number_code, each_code}
use Rattle.snapshot.specs.Hosts.{entry_code}
use Rattle.snapshot.proofs.entries.encode_entries.Goals as goal

pub returns-clause-code : goal.returns-clause-code
returns-clause-code g c = λ rest.
    c.in_ok-encode_each_entry.ensures.code rest ∙ c.in_ok-encode.ensures.code _
    ∙ ap (λ (n : ℕ). c.args.out.now.items ++ number_code n
    (each_code (entry_code g.H.Portable.state_code) c.args.tenants.now.entries rest)) c.len-count.ensures.len

pub returns-clause-fits : goal.returns-clause-fits
returns-clause-fits g c = (
  (
    c.in_ok-encode_each_entry.ensures.fits,
    subst (λ (n : ℕ). n < 2 ^ 64) c.len-count.ensures.len c.in_ok-encode.ensures.fits,
  ),
  c.len-count.ensures.unique,
)
