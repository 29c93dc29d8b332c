-- What serving an input writes, and what whoever does the steps is then: a book, or a host.
use Rattle.std.specs.Prelude.{◌≡◌, ◌≢◌, ◌<◌, ◌⊎◌, ℕ, List, [], ◌∷◌, ◌++◌, length, map, Bool, true, false, nat_le}
use Rattle.std.specs.Prelude.{if◌then◌else◌, Option, Some, None, IfSome, flat_map}
use Rattle.std.specs.Io.KnownBytes.{Appends, Keeps, IsAtEnd}
use Rattle.model.specs.declared.limits.TheConstants.{MAX_LINE_BYTES}
use Rattle.model.specs.declared.refusals.Refusal.TheVariants.{BadLine, Memory}
use Rattle.model.specs.declared.replies.Entry.{Entry}
use Rattle.model.specs.declared.replies.Reply.{Reply}
use Rattle.model.specs.declared.replies.Reply.TheVariants.{Stopped, Refused}
use Rattle.model.specs.declared.replies.Who.{Who}
use Rattle.model.specs.declared.replies.Who.TheVariants.{Caller}
use Rattle.model.specs.declared.steps.Step.{Step}
use Rattle.model.specs.Handler.{Meaning}
use Rattle.book.specs.Entries.{Ledger, IsEntered}
use Rattle.book.specs.Standing.{Carries, EntersHonestly, HostState, IsHostOf}
use Rattle.forms.specs.declared.fault.LineFault.{LineFault}
use Rattle.forms.specs.declared.fault.LineFault.TheVariants.{Bad, NoMemory}
use Rattle.forms.specs.Reading.{step_of_line}
use Rattle.forms.specs.Writing.{reply_text}
use Rattle.lines.specs.Lines.{lines_of, LinesRead}
use Rattle.lines.specs.Parts.{TakesPart}
use Rattle.written.specs.Beginnings.{AppendsBeginning}

-- ---- one line

-- the step of a line, or none: a line that is too long is no step
unfoldable pub line_step : List ℕ → Option Step
line_step line = if nat_le (length line) MAX_LINE_BYTES then step_of_line line else None

-- the reply to a line that gave no step
abbrev pub reply_upon : LineFault → Reply
reply_upon Bad = Refused BadLine
reply_upon NoMemory = Refused Memory

-- there was no memory to read the line, and nothing changed
abbrev pub IsUnread : {B : Type 0} → B → Reply → B → Type 0
IsUnread old reply new = (reply ≡ Refused Memory) × (new ≡ old)

-- A line that is no step was told to be bad, and a step was done so, or the line was not read for want of memory.
abbrev pub AnsweredStepBy : {B : Type 0} → (B → Step → Reply → B → Type 0) → Option Step → B → Reply → B → Type 0
AnsweredStepBy Does None old reply new = IsUnread old reply new ⊎ ((reply ≡ Refused BadLine) × (new ≡ old))
AnsweredStepBy Does (Some step) old reply new = IsUnread old reply new ⊎ Does old step reply new

-- a line was answered, and one that is too long was told to be bad whatever memory there was
abbrev pub AnsweredLineBy : {B : Type 0} → (B → Step → Reply → B → Type 0) → List ℕ → B → Reply → B → Type 0
AnsweredLineBy Does line old reply new =
    AnsweredStepBy Does (line_step line) old reply new × (MAX_LINE_BYTES < length line → reply ≡ Refused BadLine)

-- a step of a caller was entered in a book
abbrev pub EntersStep : Ledger → Step → Reply → Ledger → Type 0
EntersStep old step reply new = IsEntered old Caller step reply new

-- the same by a book
abbrev pub AnsweredStep : Option Step → Ledger → Reply → Ledger → Type 0
AnsweredStep step old reply new = AnsweredStepBy EntersStep step old reply new

abbrev pub AnsweredLine : List ℕ → Ledger → Reply → Ledger → Type 0
AnsweredLine line old reply new = AnsweredLineBy EntersStep line old reply new

-- a reply's line, with its line feed
abbrev pub reply_line : Reply → List ℕ
reply_line r = reply_text r ++ 10 ∷ []

-- ---- all lines

-- these lines were given these replies, one each and in order
abbrev pub ServesBy : {B : Type 0} → (B → Step → Reply → B → Type 0) → List (List ℕ) → B → List Reply → B → Type 0
ServesBy Does [] old replies new = (replies ≡ []) × (new ≡ old)
ServesBy {B} Does (line ∷ lines) old replies new =
    (reply : Reply) × (others : List Reply) × (mid : B) × (replies ≡ reply ∷ others)
    × AnsweredLineBy Does line old reply mid × ServesBy Does lines mid others new

-- the same by a book
abbrev pub Serves : List (List ℕ) → Ledger → List Reply → Ledger → Type 0
Serves lines old replies new = ServesBy EntersStep lines old replies new

-- Serving came to the end: all lines are answered, and each reply is written.
abbrev pub ServedAllBy : {B : Type 0}
    → (List (List ℕ) → B → List Reply → B → Type 0) → Option (List ℕ) → Option (List ℕ)
    → Option (List ℕ) → B → B → ℕ → Type 0
ServedAllBy Serving input old_out new_out old new count =
    (lines : List (List ℕ)) × (replies : List Reply) × IfSome input (λ all. lines_of all ≡ lines)
    × Serving lines old replies new
    × Appends old_out new_out (flat_map reply_line replies) × (length lines ≡ count)

-- Serving ended early: the lines read so far are answered, what was taken of the input behind them is a part of one
-- line, and what is written is a beginning of their replies.
abbrev pub ServedSomeBy : {B : Type 0}
    → (List (List ℕ) → B → List Reply → B → Type 0) → Option (List ℕ) → Option (List ℕ)
    → Option (List ℕ) → Option (List ℕ) → B → B → Type 0
ServedSomeBy Serving input input' old_out new_out old new =
    (lines : List (List ℕ)) × (replies : List Reply) × (rest : Option (List ℕ)) × LinesRead input rest lines
    × TakesPart rest input' × Serving lines old replies new
    × AppendsBeginning old_out new_out (flat_map reply_line replies)

-- the same by a book
abbrev pub ServedAll : Option (List ℕ) → Option (List ℕ) → Option (List ℕ) → Ledger → Ledger → ℕ → Type 0
ServedAll input old_out new_out old new count = ServedAllBy Serves input old_out new_out old new count

abbrev pub ServedSome : Option (List ℕ) → Option (List ℕ) → Option (List ℕ) → Option (List ℕ) → Ledger → Ledger → Type 0
ServedSome input input' old_out new_out old new = ServedSomeBy Serves input input' old_out new_out old new

-- what a host does at a step of a caller
abbrev pub HostDoes : {S : Type 0} → Meaning S → HostState S → Step → Reply → HostState S → Type 0
HostDoes M old step reply new = (who : Who) → Carries (IsHostOf M) (EntersHonestly M who step reply) old new

-- By a host: whichever book it stood for, these lines were given these replies by that book, and the host stands for it
-- then.
abbrev pub HostServes : {S : Type 0} → Meaning S → List (List ℕ) → HostState S → List Reply
    → HostState S → Type 0
HostServes M lines old replies new = Carries (IsHostOf M) (λ before after. Serves lines before replies after) old new

-- ---- where no reply is for want of memory

-- the reply is not for want of memory
abbrev pub IsRemembered : Reply → Type 0
IsRemembered reply = (reply ≢ Refused Memory) × (reply ≢ Stopped 0 Memory)

-- an entry without what the store said
abbrev pub told : Entry → Who × Step × Reply
told entry = (entry.who, entry.step, entry.reply)

-- what a line adds before the entries of the later ones: a step is a caller's, with its reply
abbrev pub entered_before : Option Step → Reply → List (Who × Step × Reply) → List (Who × Step × Reply)
entered_before None reply others = others
entered_before (Some step) reply others = (Caller, step, reply) ∷ others

-- one entry for each line that is a step, in order
abbrev pub entered : List (List ℕ) → List Reply → List (Who × Step × Reply)
entered [] replies = []
entered (line ∷ lines) [] = []
entered (line ∷ lines) (reply ∷ replies) = entered_before (line_step line) reply (entered lines replies)

-- the reply to a line that is no step
abbrev pub IsBadOr : Option Step → Reply → Type 0
IsBadOr None reply = reply ≡ Refused BadLine
IsBadOr (Some step) reply = Unit {0}

-- one reply for each line, and `bad-line` to each that is no step
abbrev pub AreReplies : List (List ℕ) → List Reply → Type 0
AreReplies [] replies = replies ≡ []
AreReplies (line ∷ lines) [] = ⊥
AreReplies (line ∷ lines) (reply ∷ replies) = IsBadOr (line_step line) reply × AreReplies lines replies

-- the history grew by one entry for each line that is a step, in order, by the caller, with that step and its reply,
-- and the other lines were told to be bad
abbrev pub EntersEach : List (List ℕ) → Ledger → List Reply → Ledger → Type 0
EntersEach lines old replies new =
    AreReplies lines replies × (entries : List Entry) × (new.history ≡ old.history ++ entries)
    × (map told entries ≡ entered lines replies)

-- ---- one turn of serving

-- a line was read and answered
abbrev pub TookLine : {B : Type 0} → (B → Step → Reply → B → Type 0) → Option (List ℕ) → Option (List ℕ)
    → Option (List ℕ) → Option (List ℕ) → B → B → Type 0
TookLine Does input input' out out' old new =
    (line : List ℕ) × (reply : Reply) × LinesRead input input' (line ∷ []) × AnsweredLineBy Does line old reply new
    × Appends out out' (reply_line reply)

-- no line was left
abbrev pub TookNone : {B : Type 0} → Option (List ℕ) → Option (List ℕ) → Option (List ℕ) → B → B → Type 0
TookNone input out out' old new = IsAtEnd input × (new ≡ old) × Keeps out out'

-- whether a line was left
abbrev pub Took : {B : Type 0} → (B → Step → Reply → B → Type 0) → Bool → Option (List ℕ) → Option (List ℕ)
    → Option (List ℕ) → Option (List ℕ) → B → B → Type 0
Took Does true input input' out out' old new = TookLine Does input input' out out' old new
Took Does false input input' out out' old new = TookNone input out out' old new

-- No line was read, but at most a part of one, or one that was answered and whose reply may not all be written.
abbrev pub Broken : {B : Type 0} → (B → Step → Reply → B → Type 0) → Option (List ℕ) → Option (List ℕ)
    → Option (List ℕ) → Option (List ℕ) → B → B → Type 0
Broken Does input input' out out' old new =
    (TakesPart input input' × (new ≡ old) × Keeps out out')
    ⊎ ((line : List ℕ) × (reply : Reply) × LinesRead input input' (line ∷ []) × AnsweredLineBy Does line old reply new
    × AppendsBeginning out out' (reply_line reply))
