-- What is read of a block of lines, who answers each, and what is written of the answers. An answer is a text: that of
-- a reply, or all that is written behind a line. `Does` says what doing a step leaves, and with which answer.
use Rattle.std.specs.Prelude.{◌≡◌, ◌<◌, ◌≤◌, ◌==◌, ◌⊎◌, ℕ, List, [], ◌∷◌, ◌++◌, length, map, drop, Bool, false, Option}
use Rattle.std.specs.Prelude.{Result, Ok, Err, if◌then◌else◌, flat_map, slice_index_or}
use Rattle.std.specs.Io.KnownBytes.{Appends}
use Rattle.model.specs.Handler.{Meaning}
use Rattle.model.specs.declared.steps.Step.{Step}
use Rattle.book.specs.Standing.{HostState}
use Rattle.forms.specs.declared.fault.LineFault.{LineFault}
use Rattle.forms.specs.declared.fault.LineFault.TheVariants.{NoMemory}
use Rattle.lines.specs.Serving.{HostDoes, reply_line, reply_upon}
use Rattle.dealing.specs.Dealing.{tenant_of}
use Rattle.driver.specs.Driving.{IsStepRound, Round, round_text}
use Rattle.shards.specs.declared.place.Place.{Place}
use Rattle.shards.specs.declared.place.Place.TheVariants.{Here, Dealt}
use Rattle.shards.specs.Kept.{AreReadFrom}

-- what is written of an answer: all of it
abbrev pub whole : List ℕ → List ℕ
whole answer = answer

-- the answer to a line that gives no step
abbrev pub fault_answer : LineFault → List ℕ
fault_answer fault = reply_line (reply_upon fault)

-- A host did a step, and this is written of it: the reply's text and, where the host is driven, the texts of what the
-- driver's steps behind it let out.
abbrev pub Tells : {S : Type 0} → Meaning S → Bool → HostState S → Step → List ℕ → HostState S → Type 0
Tells M drives old step answer new =
    (round : Round) × IsStepRound (HostDoes M) step old round new × (answer ≡ round_text round)
    × (drives ≡ false → round.steps ≡ [])

-- ---- what is read

-- what was read of a line was answered: its step was done, or it was told why there is none
abbrev pub AnswersBy : {B : Type 0}
    → (B → Step → List ℕ → B → Type 0) → Result Step LineFault → B → List ℕ → B → Type 0
AnswersBy Does (Ok step) old answer new = Does old step answer new
AnswersBy Does (Err fault) old answer new = (answer ≡ fault_answer fault) × (new ≡ old)

-- each was answered, in order
abbrev pub AnswersEachBy : {B : Type 0}
    → (B → Step → List ℕ → B → Type 0) → List (Result Step LineFault) → B → List (List ℕ) → B → Type 0
AnswersEachBy Does [] old answers new = (answers ≡ []) × (new ≡ old)
AnswersEachBy {B} Does (r ∷ readings) old answers new =
    (answer : List ℕ) × (others : List (List ℕ)) × (mid : B) × (answers ≡ answer ∷ others)
    × AnswersBy Does r old answer mid × AnswersEachBy Does readings mid others new

-- these steps were done, in order
abbrev pub DoesEach : {B : Type 0} → (B → Step → List ℕ → B → Type 0) → List Step → B → List (List ℕ) → B → Type 0
DoesEach Does [] old answers new = (answers ≡ []) × (new ≡ old)
DoesEach {B} Does (step ∷ steps) old answers new =
    (answer : List ℕ) × (others : List (List ℕ)) × (mid : B) × (answers ≡ answer ∷ others)
    × Does old step answer mid × DoesEach Does steps mid others new

-- ---- who answers

-- the steps that are dealt to a shard, in order
abbrev pub steps_for : (List ℕ → ℕ) → ℕ → List (Result Step LineFault) → List Step
steps_for deal i [] = []
steps_for deal i (Ok step ∷ readings) =
    if deal (tenant_of step) == i then step ∷ steps_for deal i readings else steps_for deal i readings
steps_for deal i (Err fault ∷ readings) = steps_for deal i readings

-- where a line is answered
abbrev pub place_of : (List ℕ → ℕ) → Result Step LineFault → Place
place_of deal (Ok step) = Dealt (deal (tenant_of step))
place_of deal (Err fault) = Here fault

-- these places and lists of steps are what was read, dealt
pub record AreDealt (deal : List ℕ → ℕ) (readings : List (Result Step LineFault)) (places : List Place)
    (steps : List (List Step)) : Type 0 where
  pub places_are : places ≡ map (place_of deal) readings
  pub steps_are : (i : ℕ) → i < length steps → slice_index_or steps i [] ≡ steps_for deal i readings

-- the first so many of these lines are read, and what was read of them is dealt
pub record AreDealtTo (deal : List ℕ → ℕ) (lines : List (Result (List ℕ) LineFault)) (count : ℕ) (places : List Place)
    (steps : List (List Step)) : Type 0 where
  pub readings : List (Result Step LineFault)
  pub are_read : AreReadFrom lines 0 readings
  pub counted : length readings ≡ count
  pub are_dealt : AreDealt deal readings places steps

-- these lines were read and answered, and this holds of what is written of the answers
abbrev pub AnswersLines : {B : Type 0} → (B → Step → List ℕ → B → Type 0) → List (Result (List ℕ) LineFault)
    → B → B → (List ℕ → Type 0) → Type 0
AnswersLines Does lines old new IsWritten =
    (readings : List (Result Step LineFault)) × (answers : List (List ℕ)) × AreReadFrom lines 0 readings
    × (length readings ≡ length lines) × AnswersEachBy Does readings old answers new
    × IsWritten (flat_map whole answers)

-- ---- what is written

-- the first answer, where there is one
abbrev pub first_of : List (List ℕ) → List ℕ
first_of [] = fault_answer NoMemory
first_of (answer ∷ answers) = answer

abbrev pub rest_of : List (List ℕ) → List (List ℕ)
rest_of [] = []
rest_of (answer ∷ answers) = answers

-- the answers of each shard, without the first of this one
abbrev pub after_first : ℕ → (ℕ → List (List ℕ)) → ℕ → List (List ℕ)
after_first i answers j = if i == j then rest_of (answers j) else answers j

-- the answers of all lines in their order, from those of each shard in theirs
abbrev pub merged : List Place → (ℕ → List (List ℕ)) → List (List ℕ)
merged [] answers = []
merged (Here fault ∷ places) answers = fault_answer fault ∷ merged places answers
merged (Dealt i ∷ places) answers = first_of (answers i) ∷ merged places (after_first i answers)

-- Behind these places in a shard's bytes and lengths stand the lines of these answers, or of the first of them where
-- there was no memory for the others.
pub record Told (answers : List (List ℕ)) (bytes lens : List ℕ) (at next : ℕ) : Type 0 where
  pub told : List (List ℕ)
  pub lost : List (List ℕ)
  pub all : answers ≡ told ++ lost
  pub text : drop at bytes ≡ flat_map whole told
  pub lengths : drop next lens ≡ map length told
  pub within : at ≤ length bytes

-- a shard's steps were done, and these are the texts of its answers
pub record RanShard {B : Type 0} (Does : B → Step → List ℕ → B → Type 0) (steps : List Step) (old new : B)
    (bytes lens : List ℕ) : Type 0 where
  pub answers : List (List ℕ)
  pub does : DoesEach Does steps old answers new
  pub told : Told answers bytes lens 0 0

-- the lines of these answers, or of the first of them where memory ran out
pub record ToldSo (is_full : Bool) (answers : List (List ℕ)) (bytes lens : List ℕ) : Type 0 where
  pub told : List (List ℕ)
  pub lost : List (List ℕ)
  pub all : answers ≡ told ++ lost
  pub text : bytes ≡ flat_map whole told
  pub lengths : lens ≡ map length told
  pub none_lost : is_full ≡ false → lost ≡ []

-- one answer more
abbrev pub TellsMore : Bool → Bool → List ℕ → List ℕ → List ℕ → List ℕ → List ℕ → Type 0
TellsMore is_full is_full' answer bytes lens bytes' lens' =
    (answers : List (List ℕ)) → ToldSo is_full answers bytes lens
    → ToldSo is_full' (answers ++ answer ∷ []) bytes' lens'

-- a place that is dealt to one of so many shards
abbrev pub IsBelow : ℕ → Place → Type 0
IsBelow shards (Here fault) = Unit {0}
IsBelow shards (Dealt i) = i < shards

-- the line of the first of these answers was written, and those of the others stand behind these places
pub record WroteFirst (out out' : Option (List ℕ))
    (answers : List (List ℕ)) (bytes lens : List ℕ) (at next : ℕ) : Type 0 where
  pub first : List ℕ
  pub others : List (List ℕ)
  pub all : answers ≡ first ∷ others
  pub written : Appends out out' first
  pub left : Told others bytes lens at next

-- what counts as read of a line: what was read, or where there was no memory for its step, that it was not read
abbrev pub IsReadOr : Result Step LineFault → Result Step LineFault → Type 0
IsReadOr read reading = (reading ≡ read) ⊎ ((step : Step) × (read ≡ Ok step) × (reading ≡ Err NoMemory))

-- no shard has a step to do
abbrev pub AreIdle : List (List Step) → Type 0
AreIdle steps = (i : ℕ) → i < length steps → slice_index_or steps i [] ≡ []

-- what was read of one line more is dealt, and answered at this place
abbrev pub DealsMore : (List ℕ → ℕ) → Result Step LineFault → Place → List (List Step) → List (List Step) → Type 0
DealsMore deal reading place steps steps' =
    (readings : List (Result Step LineFault)) (places : List Place)
    → AreDealt deal readings places steps → AreDealt deal (readings ++ reading ∷ []) (places ++ place ∷ []) steps'

-- the line of this place's answer was written, the first of those that are left of its shard, and this holds of what is
-- left then
pub record WroteOne (out out' : Option (List ℕ))
    (place : Place) (left : ℕ → List (List ℕ)) (Holds : (ℕ → List (List ℕ)) → Type 0) : Type 0 where
  pub answer : List ℕ
  pub others : ℕ → List (List ℕ)
  pub goes_on : (places : List Place) → merged (place ∷ places) left ≡ answer ∷ merged places others
  pub written : Appends out out' answer
  pub holds : Holds others
