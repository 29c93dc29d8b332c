-- How far answering is: which lines are answered, which wait to be, and what is held of the next.
use Rattle.std.specs.Prelude.{◌≡◌, ℕ, List, ◌++◌, length, Bool, true, false, Option, Result, Ok, Err}
use Rattle.std.specs.Prelude.{IfSome, flat_map}
use Rattle.std.specs.Io.KnownBytes.{Appends, Consumes}
use Rattle.model.specs.declared.steps.Step.{Step}
use Rattle.forms.specs.declared.fault.LineFault.{LineFault}
use Rattle.lines.specs.Feeds.{AreReadings}
use Rattle.lines.specs.Lines.{Holds, IsPart, LinesRead, lines_of}
use Rattle.lines.specs.Parts.{Takes, TakesPart}
use Rattle.lines.specs.declared.fault.ServeFault.{ServeFault}
use Rattle.lines.specs.declared.part.Part.{Part}
use Rattle.written.specs.Beginnings.{AppendsBeginning}
use Rattle.shards.specs.Blocks.{AnswersEachBy, whole}
use Rattle.shards.specs.Kept.{AreKept}

-- ---- all lines

-- these lines were given these answers, one each and in order, by what may be read of each
abbrev pub AnsweredEach : {B : Type 0}
    → (B → Step → List ℕ → B → Type 0) → List (List ℕ) → B → List (List ℕ) → B → Type 0
AnsweredEach Does lines old answers new =
    (readings : List (Result Step LineFault)) × AreReadings lines readings × AnswersEachBy Does readings old answers new

-- Answering came to the end: all lines are answered, and each answer is written.
abbrev pub AnsweredAll : {B : Type 0} → (B → Step → List ℕ → B → Type 0) → Option (List ℕ) → Option (List ℕ)
    → Option (List ℕ) → B → B → ℕ → Type 0
AnsweredAll Does input out out' old new count =
    (lines : List (List ℕ)) × (answers : List (List ℕ)) × IfSome input (λ all. lines_of all ≡ lines)
    × AnsweredEach Does lines old answers new × Appends out out' (flat_map whole answers) × (length lines ≡ count)

-- Answering ended early: the lines read so far are answered, what was taken of the input behind them is a part of one
-- line, and what is written is a beginning of their answers.
abbrev pub AnsweredSome : {B : Type 0} → (B → Step → List ℕ → B → Type 0) → Option (List ℕ) → Option (List ℕ)
    → Option (List ℕ) → Option (List ℕ) → B → B → Type 0
AnsweredSome Does input input' out out' old new =
    (lines : List (List ℕ)) × (answers : List (List ℕ)) × (rest : Option (List ℕ)) × LinesRead input rest lines
    × TakesPart rest input' × AnsweredEach Does lines old answers new
    × AppendsBeginning out out' (flat_map whole answers)

-- ---- on the way

-- what is known of input and output, and the hosts
pub record Ends (B : Type 0) : Type 0 where
  pub input : Option (List ℕ)
  pub out : Option (List ℕ)
  pub hosts : B

-- what is held of the line that goes on, and what is kept of the lines before it that are not answered yet
pub record Waiting : Type 0 where
  pub held : List ℕ
  pub is_long : Bool
  pub lines : List (Result (List ℕ) LineFault)
  pub count : ℕ

-- Since the input began these lines were answered, and the lines that were read behind them wait. Behind those a part
-- of one line was taken.
pub record ReadSoFar (begin input : Option (List ℕ)) (answered : List (List ℕ)) (waiting : Waiting) : Type 0 where
  pub queued : List (List ℕ)
  pub rest : Option (List ℕ)
  pub text : List ℕ
  pub read : LinesRead begin rest (answered ++ queued)
  pub are_kept : AreKept queued waiting.lines
  pub part : IsPart text
  pub taken : Consumes rest input text
  pub holds : Holds waiting.held waiting.is_long text
  pub counted : length (answered ++ queued) ≡ waiting.count

-- Of the lines that were read since the start the first are answered and their answers written, and the others wait.
pub record Underway {B : Type 0}
    (Does : B → Step → List ℕ → B → Type 0) (start now : Ends B) (waiting : Waiting) : Type 0 where
  pub answered : List (List ℕ)
  pub answers : List (List ℕ)
  pub served : AnsweredEach Does answered start.hosts answers now.hosts
  pub written : Appends start.out now.out (flat_map whole answers)
  pub heard : ReadSoFar start.input now.input answered waiting

-- answering ended early
abbrev pub Stopped : {B : Type 0} → (B → Step → List ℕ → B → Type 0) → Ends B → Ends B → Type 0
Stopped Does start now = AnsweredSome Does start.input now.input start.out now.out start.hosts now.hosts

-- A part of a line was read, and this is held of the line then. Whatever was heard before is so with the part taken.
abbrev pub TakesOn : Part → Waiting → Waiting → Type 0
TakesOn part old new =
    (begin input input' : Option (List ℕ)) (answered : List (List ℕ)) (held : List ℕ) (is_long : Bool)
    → Takes part input input' held is_long old.held old.is_long
    → ReadSoFar begin input answered (record { held = held; is_long = is_long; lines = old.lines; count = old.count })
    → ReadSoFar begin input' answered new

-- what one turn of answering came to: it goes on, or it is at its end, or it stopped early
abbrev pub Turns : {B : Type 0} → (B → Step → List ℕ → B → Type 0) → Result Bool ServeFault → Ends B → Ends B → Waiting
    → Type 0
Turns Does (Ok false) start now waiting = Underway Does start now waiting
Turns Does (Ok true) start now waiting =
    AnsweredAll Does start.input start.out now.out start.hosts now.hosts waiting.count
Turns Does (Err fault) start now waiting = Stopped Does start now
