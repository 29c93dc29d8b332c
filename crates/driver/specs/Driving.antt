-- What driving an input writes, and what whoever does the steps is then: a book, or a host.
use Rattle.std.specs.Prelude.{◌≡◌, ◌⊎◌, Bool, true, false, ℕ, List, [], ◌∷◌, ◌++◌, length, codes, Option, Some, None}
use Rattle.std.specs.Prelude.{Result, Ok, Err, IfSome, flat_map}
use Rattle.std.specs.Io.KnownBytes.{Appends, Keeps, IsAtEnd}
use Rattle.serde_json.specs.Data.{Data, string, object, no_members, member}
use Rattle.model.specs.Addresses.{addressed}
use Rattle.model.specs.Failures.{HasRisen}
use Rattle.model.specs.Handler.{Meaning}
use Rattle.model.specs.declared.replies.Reply.{Reply}
use Rattle.model.specs.declared.replies.Reply.TheVariants.{Released}
use Rattle.model.specs.declared.steps.Step.{Step}
use Rattle.model.specs.declared.steps.TenantStep.{TenantStep}
use Rattle.model.specs.declared.steps.TenantStep.TheVariants.{Release as ReleaseOf}
use Rattle.book.specs.Entries.{Ledger}
use Rattle.book.specs.Standing.{Carries, HostState, IsHostOf}
use Rattle.forms.specs.Writing.{data_text, whole}
use Rattle.written.specs.Beginnings.{AppendsBeginning}
use Rattle.lines.specs.Lines.{lines_of, LinesRead}
use Rattle.lines.specs.Parts.{TakesPart}
use Rattle.lines.specs.Serving.{AnsweredLineBy, EntersStep, line_step, reply_line}
use Rattle.lines.specs.declared.fault.ServeFault.{ServeFault}
use Rattle.lines.specs.declared.fault.ServeFault.TheVariants.{Read, Write, NoMemory}
use Rattle.flows.specs.Chores.{chore_step}
use Rattle.flows.specs.declared.chore.Chore.{Chore}

-- ---- the line of a text that left

-- its keys are in the order of their bytes
abbrev pub output_data : List ℕ → ℕ → List ℕ → Data
output_data tenant unit text =
    object (member (codes "output") (string text) (member (codes "tenant") (string tenant)
    (member (codes "unit") (whole unit) no_members)))

-- with its line feed
unfoldable pub output_line : List ℕ → ℕ → List ℕ → List ℕ
output_line tenant unit text = data_text (output_data tenant unit text) ++ 10 ∷ []

-- a line for each text
abbrev pub output_lines : List ℕ → ℕ → List (List ℕ) → List ℕ
output_lines tenant unit texts = flat_map (output_line tenant unit) texts

-- ---- a step of the driver

-- the texts that a reply releases
abbrev pub outputs_of : Reply → List (List ℕ)
outputs_of (Released outputs) = outputs
outputs_of _ = []

-- the lines of the texts that left by a step of this tenant
abbrev pub lines_out : List ℕ → TenantStep → Reply → List ℕ
lines_out tenant (ReleaseOf unit) reply = output_lines tenant unit (outputs_of reply)
lines_out tenant _ reply = []

-- so of a step with its reply
abbrev pub lines_told : Step × Reply → List ℕ
lines_told s = lines_out (addressed s.0).0 (addressed s.0).1 s.1

-- a step of the driver for this tenant
abbrev pub IsDriven : List ℕ → Step × Reply → Type 0
IsDriven tenant s = (chore : Chore) × (s.0 ≡ chore_step tenant chore)

-- steps of the driver were done one after the other, for this tenant
abbrev pub Drives : {B : Type 0} → (B → Step → Reply → B → Type 0) → List ℕ → B → List (Step × Reply) → B → Type 0
Drives Does tenant old [] new = new ≡ old
Drives {B} Does tenant old (s ∷ steps) new =
    IsDriven tenant s × (mid : B) × Does old s.0 s.1 mid × Drives Does tenant mid steps new

-- ---- what is written

-- the writer failed, or there was no memory and it didn't
abbrev pub IsFault : ServeFault → ℕ → ℕ → Type 0
IsFault Read failed failed' = ⊥
IsFault Write failed failed' = HasRisen failed failed'
IsFault NoMemory failed failed' = failed' ≡ failed

-- a beginning of these bytes was written, up to this fault
abbrev pub WroteUntil : ServeFault → List ℕ → Option (List ℕ) → Option (List ℕ) → ℕ → ℕ → Type 0
WroteUntil fault bytes out out' failed failed' = AppendsBeginning out out' bytes × IsFault fault failed failed'

-- these bytes were written, or after a fault a beginning of them
abbrev pub Wrote : {A : Type 0} → Result A ServeFault → List ℕ → Option (List ℕ) → Option (List ℕ) → ℕ → ℕ → Type 0
Wrote (Ok a) bytes out out' failed failed' = Appends out out' bytes × (failed' ≡ failed)
Wrote (Err fault) bytes out out' failed failed' = WroteUntil fault bytes out out' failed failed'

-- some steps of the driver were done, and what is written are the lines of the texts that left by them
abbrev pub Drove : {A B : Type 0} → (B → Step → Reply → B → Type 0) → List ℕ → Result A ServeFault → B → B
    → Option (List ℕ) → Option (List ℕ) → ℕ → ℕ → Type 0
Drove Does tenant result old new out out' failed failed' =
    (steps : List (Step × Reply)) × Drives Does tenant old steps new
    × Wrote result (flat_map lines_told steps) out out' failed failed'

-- so without a fault
abbrev pub DroveOn : {B : Type 0} → (B → Step → Reply → B → Type 0) → List ℕ → B → B
    → Option (List ℕ) → Option (List ℕ) → ℕ → ℕ → Type 0
DroveOn Does tenant old new out out' failed failed' =
    (steps : List (Step × Reply)) × Drives Does tenant old steps new
    × (Appends out out' (flat_map lines_told steps) × (failed' ≡ failed))

-- and so up to this fault
abbrev pub DroveUntil : {B : Type 0} → (B → Step → Reply → B → Type 0) → List ℕ → ServeFault → B → B
    → Option (List ℕ) → Option (List ℕ) → ℕ → ℕ → Type 0
DroveUntil Does tenant fault old new out out' failed failed' =
    (steps : List (Step × Reply)) × Drives Does tenant old steps new
    × WroteUntil fault (flat_map lines_told steps) out out' failed failed'

-- ---- a line

-- the reply to a line, and the steps that the driver did behind it, each with its reply
pub record Round : Type 0 where
  pub reply : Reply
  pub steps : List (Step × Reply)

-- what is written of it
abbrev pub round_text : Round → List ℕ
round_text round = reply_line round.reply ++ flat_map lines_told round.steps

-- the driver carries on for the tenant of the line's step, and not behind a line that is none
abbrev pub CarriesOn : {B : Type 0}
    → (B → Step → Reply → B → Type 0) → Option Step → B → List (Step × Reply) → B → Type 0
CarriesOn Does None old steps new = (steps ≡ []) × (new ≡ old)
CarriesOn Does (Some step) old steps new = Drives Does (addressed step).0 old steps new

-- the line was answered so, and then those steps were done
abbrev pub IsRound : {B : Type 0} → (B → Step → Reply → B → Type 0) → List ℕ → B → Round → B → Type 0
IsRound {B} Does line old round new =
    (mid : B) × AnsweredLineBy Does line old round.reply mid × CarriesOn Does (line_step line) mid round.steps new

-- a round for each line, in order
abbrev pub AreRounds : {B : Type 0} → (B → Step → Reply → B → Type 0) → List (List ℕ) → B → List Round → B → Type 0
AreRounds Does [] old rounds new = (rounds ≡ []) × (new ≡ old)
AreRounds {B} Does (line ∷ lines) old rounds new =
    (round : Round) × (others : List Round) × (mid : B) × (rounds ≡ round ∷ others)
    × IsRound Does line old round mid × AreRounds Does lines mid others new

-- ---- all lines

-- Driving came to the end: each line has its round, and each round is written.
abbrev pub DroveAllBy : {B : Type 0} → (List (List ℕ) → B → List Round → B → Type 0) → Option (List ℕ) → Option (List ℕ)
    → Option (List ℕ) → B → B → ℕ → Type 0
DroveAllBy Driving input out out' old new count =
    (lines : List (List ℕ)) × (rounds : List Round) × IfSome input (λ all. lines_of all ≡ lines)
    × Driving lines old rounds new × Appends out out' (flat_map round_text rounds) × (length lines ≡ count)

-- Driving ended early: the lines read so far have their rounds, of which the last may not be done; what was taken of
-- the input behind them is a part of one line, and what is written is a beginning of the rounds.
abbrev pub DroveSomeBy : {B : Type 0}
    → (List (List ℕ) → B → List Round → B → Type 0) → Option (List ℕ) → Option (List ℕ)
    → Option (List ℕ) → Option (List ℕ) → B → B → Type 0
DroveSomeBy Driving input input' out out' old new =
    (lines : List (List ℕ)) × (rounds : List Round) × (rest : Option (List ℕ)) × LinesRead input rest lines
    × TakesPart rest input' × Driving lines old rounds new × AppendsBeginning out out' (flat_map round_text rounds)

-- by a book
abbrev pub BookDrives : List (List ℕ) → Ledger → List Round → Ledger → Type 0
BookDrives lines old rounds new = AreRounds EntersStep lines old rounds new

-- By a host: whichever book it stood for, these lines have these rounds by that book, and the host stands for it then.
abbrev pub HostDrives : {S : Type 0} → Meaning S → List (List ℕ) → HostState S → List Round → HostState S → Type 0
HostDrives M lines old rounds new = Carries (IsHostOf M) (λ before after. BookDrives lines before rounds after) old new

-- ---- the round of a step

-- a step's round
pub record IsStepRound {B : Type 0} (Does : B → Step → Reply → B → Type 0) (step : Step) (old : B) (round : Round)
    (new : B) : Type 0 where
  pub mid : B
  pub done : Does old step round.reply mid
  pub driven : Drives Does (addressed step).0 mid round.steps new

-- ---- one turn of driving

-- whether a line was left: then it has its round, which is written
abbrev pub Took : {B : Type 0} → (B → Step → Reply → B → Type 0) → Bool → Option (List ℕ) → Option (List ℕ)
    → Option (List ℕ) → Option (List ℕ) → B → B → Type 0
Took Does true input input' out out' old new =
    (line : List ℕ) × (round : Round) × LinesRead input input' (line ∷ []) × IsRound Does line old round new
    × Appends out out' (round_text round)
Took Does false input input' out out' old new = IsAtEnd input × (new ≡ old) × Keeps out out'

-- No line was read, but at most a part of one, or one whose round may be neither done nor all written.
abbrev pub Broken : {B : Type 0} → (B → Step → Reply → B → Type 0) → Option (List ℕ) → Option (List ℕ)
    → Option (List ℕ) → Option (List ℕ) → B → B → Type 0
Broken Does input input' out out' old new =
    (TakesPart input input' × (new ≡ old) × Keeps out out')
    ⊎ ((line : List ℕ) × (round : Round) × LinesRead input input' (line ∷ []) × IsRound Does line old round new
    × AppendsBeginning out out' (round_text round))
