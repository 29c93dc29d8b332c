-- How a tenant is written as bytes.
use Rattle.std.specs.Prelude.{◌≡◌, ℕ, ◌<◌, ◌^◌, List, [], ◌∷◌, length}
use Rattle.tenant.specs.Kept.{Member, TenantState}
use Rattle.codec.specs.Codes.{Code, FitEach, FitsQuota, bool_code, list_code, number_code, quota_code, row_code}
use Rattle.codec.specs.Layers.{FitsLetter, FitsTable, letters_code}
use Rattle.snapshot.specs.Parts.{FitsHold, FitsLine, FitsUnit, hold_code, line_code}
use Rattle.snapshot.specs.Parts.{unit_code}

-- ---- a unit with what it holds

abbrev pub member_code : {S : Type 0} → Code S → Code (Member S)
member_code state m rest =
    unit_code state m.unit_state (hold_code (m.unit, m.outputs) (number_code m.known (bool_code m.first_put rest)))

pub record FitsMember {S : Type 0} (fits : S → Type 0) (m : Member S) : Type 0 where
  pub unit_state : FitsUnit fits m.unit_state
  pub hold : FitsHold (m.unit, m.outputs)
  pub known : m.known < 2 ^ 64

-- ---- a tenant

-- how many texts each unit gave up, with those behind them
abbrev pub lines_of : List ℕ → List (List (List ℕ)) → List (ℕ × List (List ℕ))
lines_of [] released = []
lines_of (n ∷ gone) [] = []
lines_of (n ∷ gone) (texts ∷ released) = (n, texts) ∷ lines_of gone released

-- what the units gave up, and what they released behind it
abbrev pub outlet_code : Code (List ℕ × List (List (List ℕ)))
outlet_code outlet rest = list_code line_code (lines_of outlet.0 outlet.1) rest

-- Both are told of the same units.
abbrev pub FitsOutlet : List ℕ × List (List (List ℕ)) → Type 0
FitsOutlet outlet = FitEach FitsLine (lines_of outlet.0 outlet.1) × (length outlet.0 ≡ length outlet.1)

abbrev pub tenant_code : {S : Type 0} → Code S → Code (TenantState S)
tenant_code state t rest =
    quota_code t.quota (number_code t.optimism (list_code row_code t.table (list_code (member_code state) t.members
    (list_code number_code t.stable_lengths (list_code number_code t.frontiers (outlet_code (t.gone, t.released)
    (letters_code t.letters rest)))))))

pub record FitsTenant {S : Type 0} (fits : S → Type 0) (t : TenantState S) : Type 0 where
  pub quota : FitsQuota t.quota
  pub optimism : t.optimism < 2 ^ 32
  pub table : FitsTable t.table
  pub members : FitEach (FitsMember fits) t.members
  pub stable_lengths : FitEach (λ n. n < 2 ^ 64) t.stable_lengths
  pub frontiers : FitEach (λ n. n < 2 ^ 64) t.frontiers
  pub outlet : FitsOutlet (t.gone, t.released)
  pub letters : FitEach FitsLetter t.letters
