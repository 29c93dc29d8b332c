-- How the values of the layers are written as bytes.
use Rattle.std.specs.Prelude.{◌≤◌, ◌<◌, ◌^◌, List, drop, length, reverse}
use Rattle.model.specs.declared.names.Mark.{Mark}
use Rattle.model.specs.declared.names.Row.{Row}
use Rattle.session.specs.declared.exchange.Exchange.{Exchange}
use Rattle.session.specs.Counts.{Counts}
use Rattle.output_commit.specs.declared.held.Held.{Held}
use Rattle.incarnation.specs.Filed.{Ordered}
use Rattle.compact.specs.Compact.{Content, Interval, CompactLetter}
use Rattle.spent_letters.specs.declared.letter.SpentLetter.{SpentLetter}
use Rattle.spent_letters.specs.Stretches.{packed, IsPacked, Packed, Stretch}
use Rattle.unit_steps.specs.SentLetters.{front}
use Rattle.codec.specs.Codes.{Code, FitEach, FitMarks, FitsMark, FitsRow, FitsSome, FitsText, byte_code, bytes_code}
use Rattle.codec.specs.Codes.{list_code, mark_code, marks_code, number_code, option_code}

-- ---- counts

abbrev pub exchange_code : Code Exchange
exchange_code x rest = number_code x.taken (number_code x.sent rest)

abbrev pub FitsExchange : Exchange → Type 0
FitsExchange x = (x.taken < 2 ^ 64) × (x.sent < 2 ^ 64)

abbrev pub counts_code : Code Counts
counts_code c rest = number_code c.outside (list_code exchange_code c.units rest)

abbrev pub FitCounts : Counts → Type 0
FitCounts c = (c.outside < 2 ^ 64) × FitEach FitsExchange c.units

-- ---- intervals, outputs and letters

abbrev pub FitsVector : List Mark → Type 0
FitsVector v = FitMarks v × (length v ≤ 256)

abbrev pub interval_code : Code Interval
interval_code i rest = marks_code i.vector (option_code number_code i.letter rest)

abbrev pub FitsInterval : Interval → Type 0
FitsInterval i = FitsVector i.vector × FitsSome (λ l. l < 2 ^ 32) i.letter

abbrev pub held_code : Code Held
held_code h rest = mark_code h.mark (bytes_code h.text rest)

abbrev pub FitsHeld : Held → Type 0
FitsHeld h = FitsMark h.mark × FitsText h.text

abbrev pub content_code : Code Content
content_code c rest = number_code c.number (bytes_code c.text (marks_code c.vector rest))

abbrev pub FitsContent : Content → Type 0
FitsContent c = (c.number < 2 ^ 64) × FitsText c.text × FitsVector c.vector

abbrev pub letter_code : Code CompactLetter
letter_code l rest = byte_code l.source (byte_code l.receiver (option_code content_code l.content rest))

abbrev pub FitsLetter : CompactLetter → Type 0
FitsLetter l = (l.source < 256) × (l.receiver < 256) × FitsSome FitsContent l.content

-- ---- the letters of a tenant

abbrev pub spent_code : Code SpentLetter
spent_code s rest = byte_code s.source (byte_code s.receiver rest)

abbrev pub FitsSpent : SpentLetter → Type 0
FitsSpent s = (s.source < 256) × (s.receiver < 256)

-- its first letters, and how many more there are: where it begins is told by those before it
abbrev pub stretch_code : Code Stretch
stretch_code s rest = list_code spent_code s.head (number_code s.more rest)

abbrev pub FitsStretch : Stretch → Type 0
FitsStretch s = FitEach FitsSpent s.head × (s.more < 2 ^ 64)

abbrev pub packed_code : Code Packed
packed_code p rest = list_code stretch_code (reverse p.stretches) (list_code spent_code p.tail rest)

abbrev pub FitParts : Packed → Type 0
FitParts p = FitEach FitsStretch (reverse p.stretches) × FitEach FitsSpent p.tail

abbrev pub FitsPacked : Packed → Type 0
FitsPacked p = IsPacked p × FitParts p

-- the letters behind those at the front whose contents are forgotten
abbrev pub behind : List CompactLetter → List CompactLetter
behind cs = drop (length (front cs)) cs

abbrev pub letters_code : Code (List CompactLetter)
letters_code cs rest = packed_code (packed (front cs)) (list_code letter_code (behind cs) rest)

-- ---- the table of rows

abbrev pub FitsTable : List Row → Type 0
FitsTable rows = FitEach FitsRow rows × Ordered rows
