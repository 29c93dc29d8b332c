-- What is behind the name of the handler in a host's snapshot.
use Rattle.std.proofs.Common.{◌≡◌, ◌∙◌, ap, subst, List, ℕ, [], ◌<◌, ◌^◌, length}
use Rattle.sha2.specs.Sha256.{sha256}
use Rattle.model.specs.declared.records.Record.{Record}
use Rattle.book.specs.Standing.{Hosted}
use Rattle.tenant.specs.Kept.{TenantState}
use Rattle.codec.specs.Codes.{Code, bytes_code}
use Rattle.snapshot.specs.Hosts.{IsSaved, entries_code, head_code}
use Rattle.snapshot.specs.Logs.{log_code}

-- the bytes of the tenants and of the log
abbrev pub rest_of : {S : Type 0} → Code S → Hosted (TenantState S) → List (ℕ × Record) → List ℕ
rest_of state host pairs = entries_code state host.entries (log_code (length host.log.records, pairs) [])

-- These bytes are a head, the digest of a body, and the body: a name and what is behind it.
pub record IsSealed (named rest all : List ℕ) : Type 0 where
  pub digest : length (sha256 (bytes_code named rest)) < 2 ^ 64
  pub bytes : all ≡ head_code (bytes_code (sha256 (bytes_code named rest)) (bytes_code named rest))

-- So is a host's snapshot.
pub opened : {S : Type 0} (state : Code S) (fits : S → Type 0) (named : List ℕ) (host : Hosted (TenantState S))
    (all : List ℕ) (is : IsSaved state fits named host all)
    → IsSealed named (rest_of state host is.is_body.pairs) all
opened state fits named host all is = record {
  digest = subst (λ (b : List ℕ). length (sha256 b) < 2 ^ 64) is.is_body.bytes is.digest;
  bytes = is.bytes ∙ ap (λ (b : List ℕ). head_code (bytes_code (sha256 b) b)) is.is_body.bytes;
}
