-- What a unit took from each source and sent to each unit.
use Rattle.std.specs.Prelude.{ℕ, ◌+◌, ◌^◌, ◌<◌, ◌≤◌, List, length, replicate, slice_index_or, slice_set}
use Rattle.model.specs.declared.names.Source.{Source}
use Rattle.model.specs.declared.names.Source.TheVariants.{Outside, Unit as FromUnit}
use Rattle.model.specs.Lists.{padded}
use Rattle.session.specs.declared.exchange.Exchange.{Exchange}

-- how many receipts were from outside, and what was exchanged with each unit, unit 0 first
pub record Counts : Type 0 where
  pub outside : ℕ
  pub units : List Exchange

abbrev pub nothing : Exchange
nothing = record { taken = 0; sent = 0 }

-- nothing taken and nothing sent, in a tenant of n units
abbrev pub no_counts : ℕ → Counts
no_counts n = record { outside = 0; units = replicate n nothing }

-- what was exchanged with a unit; nothing where it has no entry
abbrev pub exchanged : Counts → ℕ → Exchange
exchanged c unit = slice_index_or c.units unit nothing

-- how many receipts were from the source
abbrev pub taken_from : Counts → Source → ℕ
taken_from c Outside = c.outside
taken_from c (FromUnit unit) = (exchanged c unit).taken

-- how many letters went to the unit
abbrev pub sent_to : Counts → ℕ → ℕ
sent_to c unit = (exchanged c unit).sent

-- the outside always is a source that is counted, a unit where it has an entry
abbrev pub IsCounted : Counts → Source → Type 0
IsCounted c Outside = Unit {0}
IsCounted c (FromUnit unit) = unit < length c.units

-- one more receipt from the source can be counted, and so many letters to each unit
pub record HasRoom (c : Counts) (source : Source) (letters : ℕ) : Type 0 where
  pub counted : IsCounted c source
  pub taken : taken_from c source + 1 < 2 ^ 64
  pub sent : (unit : ℕ) → sent_to c unit + letters < 2 ^ 64

-- after one more receipt from the source
abbrev pub advanced : Counts → Source → Counts
advanced c Outside = record c { outside = c.outside + 1 }
advanced c (FromUnit unit) =
    let x = exchanged c unit in
    record c { units = slice_set c.units unit (record x { taken = x.taken + 1 }) }

-- after one more letter to the unit
abbrev pub sent_one : Counts → ℕ → Counts
sent_one c unit =
    let x = exchanged c unit in
    record c { units = slice_set c.units unit (record x { sent = x.sent + 1 }) }

-- the counts of a tenant that has n units now
abbrev pub widened_counts : Counts → ℕ → Counts
widened_counts c n = record c { units = padded nothing c.units n }

-- no unit was sent more letters
abbrev pub NoneSentMore : List Exchange → ℕ → Type 0
NoneSentMore units most = (unit : ℕ) → (slice_index_or units unit nothing).sent ≤ most
