-- The whole input of a turn.
use Rattle.std.specs.Prelude.{ℕ, List}
use Rattle.model.specs.declared.names.Seat.{Seat}
use Rattle.model.specs.declared.names.Source.{Source}
use Rattle.model.specs.Handler.{Turn, Meaning}

-- whose turn it is, the state before it, where the receipt is from, and its text
pub record Input (S : Type 0) : Type 0 where
  pub seat : Seat
  pub state : S
  pub source : Source
  pub text : List ℕ

-- what the input's turn means
abbrev pub turn_upon_input : {S : Type 0} → Meaning S → Input S → Turn S
turn_upon_input M i = M.handle i.seat i.state i.source i.text

-- an input with a turn
pub record Worked (S : Type 0) : Type 0 where
  pub input : Input S
  pub turn : Turn S
