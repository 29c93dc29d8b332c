-- The value of an outcome has no float.
use Rattle.std.proofs.Common.{◌≡◌, refl, ℕ, List, false}
use Rattle.std.specs.Prelude.{Result, Ok, Err}
use Rattle.serde_json.specs.Written.{has_float}
use Rattle.model.specs.declared.moves.Flaw.{Flaw}
use Rattle.model.specs.declared.moves.Flaw.TheVariants.{NoUnit, NothingToReceive, OutputsDiffer, NoMemory}
use Rattle.audit.specs.declared.verdict.Verdict.{Verdict}
use Rattle.audit.specs.Line.{outcome_data}

-- The value of an audit's outcome has no float.
pub has_float-outcome : (tenant : List ℕ) (outcome : Result Verdict Flaw)
    → has_float (outcome_data tenant outcome) ≡ false
has_float-outcome tenant (Ok v) = refl
has_float-outcome tenant (Err (NoUnit u)) = refl
has_float-outcome tenant (Err (NothingToReceive u)) = refl
has_float-outcome tenant (Err (OutputsDiffer u)) = refl
has_float-outcome tenant (Err NoMemory) = refl
