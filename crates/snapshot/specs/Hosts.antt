-- How a host is written as bytes.
use Rattle.std.specs.Prelude.{◌≡◌, ℕ, ◌<◌, ◌^◌, List, [], ◌∷◌, bytes_eq, length}
use Rattle.std.specs.List.{IsDistinct}
use Rattle.std.specs.Map.{keys_of}
use Rattle.sha2.specs.Sha256.{sha256}
use Rattle.model.specs.declared.records.Record.{Record}
use Rattle.tenant.specs.Kept.{TenantState}
use Rattle.book.specs.Standing.{Hosted}
use Rattle.codec.specs.Codes.{Code, FitEach, FitsName, bytes_code, list_code}
use Rattle.snapshot.specs.Logs.{AreWritten, log_code}
use Rattle.snapshot.specs.Tenants.{FitsTenant, tenant_code}

-- ---- the open tenants, where the states of units have these bytes

-- a tenant behind its name
abbrev pub entry_code : {S : Type 0} → Code S → Code (List ℕ × TenantState S)
entry_code state entry rest = bytes_code entry.0 (tenant_code state entry.1 rest)

abbrev pub FitsEntry : {S : Type 0} → (S → Type 0) → List ℕ × TenantState S → Type 0
FitsEntry fits entry = FitsName entry.0 × FitsTenant fits entry.1

-- all of them, in the order of opening
abbrev pub entries_code : {S : Type 0} → Code S → Code (List (List ℕ × TenantState S))
entries_code state entries rest = list_code (entry_code state) entries rest

-- Each has a name of its own.
abbrev pub FitEntries : {S : Type 0} → (S → Type 0) → List (List ℕ × TenantState S) → Type 0
FitEntries fits entries = FitEach (FitsEntry fits) entries × IsDistinct bytes_eq (keys_of entries)

-- ---- a snapshot

-- RECALLSN, and the version of the form
abbrev pub head_code : List ℕ → List ℕ
head_code rest = 82 ∷ 69 ∷ 67 ∷ 65 ∷ 76 ∷ 76 ∷ 83 ∷ 78 ∷ 3 ∷ rest

-- which handler it is about, the tenants, and the log with its live records
abbrev pub body_code : {S : Type 0} → Code S → List ℕ → List (List ℕ × TenantState S) → ℕ × List (ℕ × Record) → List ℕ
body_code state about entries log = bytes_code about (entries_code state entries (log_code log []))

-- The bytes are the body of a host's snapshot about this handler, with the live records in an order in which they can
-- be filled in. Its store counts no failures.
pub record IsBody {S : Type 0} (state : Code S) (fits : S → Type 0) (named : List ℕ) (host : Hosted (TenantState S))
    (all : List ℕ) : Type 0 where
  pub pairs : List (ℕ × Record)
  pub written : AreWritten host.log.records pairs
  pub failures : host.log.failures ≡ 0
  pub entries : FitEntries fits host.entries
  pub about : length named < 2 ^ 64
  pub bytes : all ≡ body_code state named host.entries (length host.log.records, pairs)

-- The bytes are a host's snapshot about this handler: a head, the digest of a body, and the body.
pub record IsSaved {S : Type 0} (state : Code S) (fits : S → Type 0) (named : List ℕ) (host : Hosted (TenantState S))
    (all : List ℕ) : Type 0 where
  pub body : List ℕ
  pub is_body : IsBody state fits named host body
  pub digest : length (sha256 body) < 2 ^ 64
  pub bytes : all ≡ head_code (bytes_code (sha256 body) body)
