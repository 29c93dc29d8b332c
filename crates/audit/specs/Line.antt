-- The text of an outcome.
use Rattle.std.specs.Prelude.{ℕ, List, codes, Result, Ok, Err}
use Rattle.serde_json.specs.Data.{Data, number, unsigned, string, object, no_members, member}
use Rattle.serde_json.specs.Written.{compact_text}
use Rattle.model.specs.declared.moves.Flaw.{Flaw}
use Rattle.model.specs.declared.moves.Flaw.TheVariants.{NoUnit, NothingToReceive, OutputsDiffer, NoMemory}
use Rattle.audit.specs.declared.verdict.Verdict.{Verdict}

-- a flaw of this name, at this unit: the keys are in the order of their bytes
abbrev pub flaw_data : List ℕ → List ℕ → ℕ → Data
flaw_data tenant name unit =
    object (member (codes "audit") (string (codes "no")) (member (codes "flaw") (string name)
    (member (codes "tenant") (string tenant) (member (codes "unit") (number (unsigned unit)) no_members))))

-- the value of the outcome of a tenant's audit
abbrev pub outcome_data : List ℕ → Result Verdict Flaw → Data
outcome_data tenant (Ok v) =
    object (member (codes "audit") (string (codes "ok")) (member (codes "tenant") (string tenant) no_members))
outcome_data tenant (Err (NoUnit u)) = flaw_data tenant (codes "no-unit") u
outcome_data tenant (Err (NothingToReceive u)) = flaw_data tenant (codes "nothing-to-receive") u
outcome_data tenant (Err (OutputsDiffer u)) = flaw_data tenant (codes "outputs-differ") u
outcome_data tenant (Err NoMemory) =
    object (member (codes "audit") (string (codes "memory")) (member (codes "tenant") (string tenant) no_members))

-- the text of the outcome of a tenant's audit, without a line feed
unfoldable pub outcome_text : List ℕ → Result Verdict Flaw → List ℕ
outcome_text tenant outcome = compact_text (outcome_data tenant outcome)
