use Rattle.std.proofs.Common.{◌∙◌}
use Rattle.snapshot.proofs.sealing.encode_head.Goals as goal

pub returns : goal.returns
returns c = λ rest.
    c.in_ok-encode-9.ensures.code rest ∙ c.in_ok-encode-8.ensures.code _ ∙ c.in_ok-encode-7.ensures.code _
    ∙ c.in_ok-encode-6.ensures.code _ ∙ c.in_ok-encode-5.ensures.code _ ∙ c.in_ok-encode-4.ensures.code _
    ∙ c.in_ok-encode-3.ensures.code _ ∙ c.in_ok-encode-2.ensures.code _ ∙ c.in_ok-encode.ensures.code _
