use Rattle.std.proofs.Common.{◌∙◌, ap, subst, List, ℕ, ◌<◌, ◌^◌, length}
use Rattle.sha2.specs.Sha256.{sha256}
use Rattle.codec.specs.Codes.{bytes_code}
use Rattle.snapshot.specs.Hosts.{head_code}
use Rattle.snapshot.proofs.saved.save.Goals as goal

pub returns : goal.returns
returns g c = record {
  body = c.in_ok-body.body.items;
  is_body = c.in_ok-body.ensures;
  digest = subst (λ (b : List ℕ). length (sha256 b) < 2 ^ 64) c.as_slice.ensures.value c.in_ok-all.ensures.digest;
  bytes = c.in_ok-all.ensures.bytes
      ∙ ap (λ (b : List ℕ). head_code (bytes_code (sha256 b) b)) c.as_slice.ensures.value;
}
