-- What the verdict of an audit means.
use Rattle.std.specs.Prelude.{◌≡◌, ℕ, ◌+◌, List, [], ◌∷◌, length, map, Result, Ok, Err}
use Rattle.model.specs.declared.names.Seat.{Seat}
use Rattle.model.specs.declared.moves.Move.{Move}
use Rattle.model.specs.declared.moves.Move.TheVariants.{Outside, Letter, Join}
use Rattle.model.specs.declared.moves.Flaw.{Flaw}
use Rattle.model.specs.declared.moves.Flaw.TheVariants.{NoUnit, NothingToReceive, OutputsDiffer, NoMemory}
use Rattle.model.specs.Handler.{Meaning}
use Rattle.model.specs.Lists.{numbers_from}
use Rattle.model.specs.FailureFree.{Network, failure_free, BeginWith}
use Rattle.audit.specs.Released.{DiffersFirst}
use Rattle.audit.specs.declared.verdict.Verdict.{Verdict}

-- the seats' units are numbered 0 upwards
abbrev pub AreNumbered : List Seat → Type 0
AreNumbered seats = map (λ s. s.unit) seats ≡ numbers_from 0 (length seats)

-- how many units join by these moves
abbrev pub joins : List Move → ℕ
joins [] = 0
joins (Outside u text ∷ moves) = joins moves
joins (Letter to source ∷ moves) = joins moves
joins (Join kind ∷ moves) = 1 + joins moves

-- what is told of a run of so many moves, where this was released
abbrev pub Tells : {S : Type 0} → Result (Network S) Flaw → ℕ → List (List (List ℕ)) → Result Verdict Flaw → Type 0
Tells {S} run count released (Ok v) =
    (net : Network S) × (run ≡ Ok net) × BeginWith net.workers released × (v.moves ≡ count)
Tells {S} run count released (Err (OutputsDiffer u)) =
    (net : Network S) × (run ≡ Ok net) × DiffersFirst net.workers released u
Tells run count released (Err (NoUnit u)) = run ≡ Err (NoUnit u)
Tells run count released (Err (NothingToReceive u)) = run ≡ Err (NothingToReceive u)
Tells run count released (Err NoMemory) = Unit {0}

-- A yes: the moves are a run without failures, each unit's outputs in it begin with its list, and
-- the moves are counted. A flaw of a move: the first that cannot be made cannot because of it.
-- Outputs that differ: the moves are such a run, and the unit is the first whose outputs in it do
-- not begin with its list. Where there was no memory, nothing is told.
abbrev pub Audits : {S : Type 0} → Meaning S → List Seat → List Move → List (List (List ℕ)) → Result Verdict Flaw
    → Type 0
Audits M seats moves released result = Tells (failure_free M seats moves) (length moves) released result
