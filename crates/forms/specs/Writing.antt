-- The text of a reply.
use Rattle.std.specs.Prelude.{ℕ, List, Bool, map, codes, Option, Some, None}
use Rattle.serde_json.specs.Data.{Data, null, boolean, number, unsigned, string, array, object, Items, no_items, item}
use Rattle.serde_json.specs.Data.{no_members, member}
use Rattle.serde_json.specs.View.{items_of}
use Rattle.serde_json.specs.Written.{compact_text}
use Rattle.model.specs.Refusals.{refusal_name}
use Rattle.model.specs.declared.names.Mark.{Mark}
use Rattle.model.specs.declared.names.Source.{Source}
use Rattle.model.specs.declared.names.Source.TheVariants.{Outside, Unit as FromUnit}
use Rattle.model.specs.declared.records.Record.{Record}
use Rattle.model.specs.declared.names.Start.{Start}
use Rattle.model.specs.declared.refusals.Refusal.{Refusal}
use Rattle.model.specs.declared.replies.Reply.{Reply}
use Rattle.model.specs.declared.replies.Reply.TheVariants.{Opened, Joined, Accepted, Flushed, Checkpointed, Killed}
use Rattle.model.specs.declared.replies.Reply.TheVariants.{Restarted, Noticed, Released, Status, Stopped, Refused}

-- a number
abbrev pub whole : ℕ → Data
whole n = number (unsigned n)

-- a list of numbers
abbrev pub wholes : List ℕ → Items
wholes ns = items_of (map whole ns)

-- a list of texts
abbrev pub texts : List (List ℕ) → Items
texts ts = items_of (map string ts)

-- two numbers
abbrev pub pair : ℕ → ℕ → Data
pair a b = array (item (whole a) (item (whole b) no_items))

-- the mark of an interval
abbrev pub mark_data : Mark → Data
mark_data at = pair at.incarnation at.index

-- the start of an incarnation
abbrev pub start_data : Start → Data
start_data row = pair row.incarnation row.index

-- the row of a notice, where there is one
abbrev pub row_data : Option Start → Data
row_data None = null
row_data (Some row) = start_data row

-- the name of a refusal
abbrev pub name_data : Refusal → Data
name_data refusal = string (refusal_name refusal)

-- ---- the value of each reply: its keys are in the order of their bytes

-- an accepted receipt
abbrev pub accepted_data : Mark → ℕ → List ℕ → Data
accepted_data at held letters =
    object (member (codes "at") (mark_data at) (member (codes "held") (whole held)
    (member (codes "letters") (array (wholes letters)) (member (codes "ok") (string (codes "accepted")) no_members))))

-- a snapshot that is shelved
abbrev pub checkpointed_data : Mark → Data
checkpointed_data at =
    object (member (codes "at") (mark_data at) (member (codes "ok") (string (codes "checkpoint")) no_members))

-- a restart
abbrev pub restarted_data : Start → Data
restarted_data row =
    object (member (codes "ok") (string (codes "restart")) (member (codes "row") (start_data row) no_members))

-- a notice
abbrev pub noticed_data : Option Start → Data
noticed_data row =
    object (member (codes "ok") (string (codes "notice")) (member (codes "row") (row_data row) no_members))

-- the outputs released
abbrev pub released_data : List (List ℕ) → Data
released_data outputs = object
    (member (codes "ok") (string (codes "released")) (member (codes "outputs") (array (texts outputs)) no_members))

-- what a unit is at
abbrev pub status_data : Mark → ℕ → ℕ → ℕ → ℕ → ℕ → ℕ → Bool → ℕ → Data
status_data at held known outside released rows stable up volatile =
    object (member (codes "at") (mark_data at) (member (codes "held") (whole held) (member (codes "known") (whole known)
    (member (codes "ok") (string (codes "status")) (member (codes "outside") (whole outside)
    (member (codes "released") (whole released) (member (codes "rows") (whole rows)
    (member (codes "stable") (whole stable) (member (codes "up") (boolean up)
    (member (codes "volatile") (whole volatile) no_members))))))))))

-- the value of a reply
abbrev pub reply_data : Reply → Data
reply_data (Opened units) =
    object (member (codes "ok") (string (codes "open")) (member (codes "units") (whole units) no_members))
reply_data (Joined unit) =
    object (member (codes "ok") (string (codes "join")) (member (codes "unit") (whole unit) no_members))
reply_data (Accepted at held letters) = accepted_data at held letters
reply_data (Flushed count) =
    object (member (codes "count") (whole count) (member (codes "ok") (string (codes "flush")) no_members))
reply_data (Checkpointed at) = checkpointed_data at
reply_data (Killed lost) =
    object (member (codes "lost") (whole lost) (member (codes "ok") (string (codes "kill")) no_members))
reply_data (Restarted row) = restarted_data row
reply_data (Noticed row) = noticed_data row
reply_data (Released outputs) = released_data outputs
reply_data (Status up at held known outside released rows stable volatile) =
    status_data at held known outside released rows stable up volatile
reply_data (Stopped count refusal) =
    object (member (codes "count") (whole count) (member (codes "no") (name_data refusal) no_members))
reply_data (Refused refusal) = object (member (codes "no") (name_data refusal) no_members)

-- a reply that tells what a unit is at
abbrev pub IsStatus : Reply → Type 0
IsStatus (Status up at held known outside released rows stable volatile) = Unit {0}
IsStatus _ = ⊥

-- the compact text of a value
unfoldable pub data_text : Data → List ℕ
data_text d = compact_text d

-- the text of a reply, without a line feed
abbrev pub reply_text : Reply → List ℕ
reply_text r = data_text (reply_data r)

-- ---- the value of a record

-- who sent what was received
abbrev pub from_data : Source → Data
from_data Outside = string (codes "outside")
from_data (FromUnit unit) = whole unit

-- a letter, where it was one
abbrev pub letter_data : Option ℕ → Data
letter_data None = null
letter_data (Some letter) = whole letter

-- a dependency vector
abbrev pub marks : List Mark → Items
marks ms = items_of (map mark_data ms)

-- a record that is logged: its keys are in the order of their bytes
abbrev pub record_data : Record → Data
record_data r =
    object (member (codes "from") (from_data r.source) (member (codes "letter") (letter_data r.letter)
    (member (codes "mark") (mark_data r.mark) (member (codes "number") (whole r.number)
    (member (codes "tenant") (string r.tenant) (member (codes "text") (string r.text)
    (member (codes "unit") (whole r.unit) (member (codes "vector") (array (marks r.vector)) no_members))))))))

-- the text of a record, without a line feed
abbrev pub record_text : Record → List ℕ
record_text r = data_text (record_data r)
