use Rattle.std.proofs.Common.{◌∙◌, subst}
use Rattle.codec.specs.Codes.{Encodes}
use Rattle.snapshot.specs.Tenants.{FitsTenant, tenant_code}
use Rattle.tenant.specs.Kept.{TenantState}
use Rattle.snapshot.proofs.tenants.encode_tenant.Goals as goal

pub returns-clause-code : goal.returns-clause-code
returns-clause-code g c =
    subst (λ (t : TenantState _). Encodes (tenant_code g.H.Portable.state_code) t c.args.out.now.items
    c.encode_letters.new.out.items) c.tenant.view_is
    (λ rest. c.in_ok-encode_letters.ensures.code rest ∙ c.in_ok-encode_lines.ensures.code _
    ∙ c.in_ok-encode_vec-2.ensures.code _ ∙ c.in_ok-encode_vec.ensures.code _
    ∙ c.in_ok-encode_members.ensures.code _ ∙ c.in_ok-encode-3.ensures.code _
    ∙ c.in_ok-encode-2.ensures.code _ ∙ c.in_ok-encode.ensures.code _)

pub returns-clause-fits : goal.returns-clause-fits
returns-clause-fits g c =
    subst (λ (t : TenantState _). FitsTenant g.H.Portable.state_fits t) c.tenant.view_is (record {
      quota = c.in_ok-encode.ensures.fits;
      optimism = c.in_ok-encode-2.ensures.fits;
      table = c.in_ok-encode-3.ensures.fits;
      members = c.in_ok-encode_members.ensures.fits;
      stable_lengths = c.in_ok-encode_vec.ensures.fits;
      frontiers = c.in_ok-encode_vec-2.ensures.fits;
      outlet = c.in_ok-encode_lines.ensures.fits;
      letters = c.in_ok-encode_letters.ensures.fits;
    })
