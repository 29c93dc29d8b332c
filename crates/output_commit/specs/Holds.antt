-- What holds, tickets and outlets give.
use Rattle.std.specs.Prelude.{◌≡◌, ℕ, Bool, false, nat_lt, List, [], ◌∷◌, ◌++◌, map, slice_index, slice_index_or}
use Rattle.std.specs.List.{take_while}
use Rattle.model.specs.declared.names.Mark.{Mark}
use Rattle.output_commit.specs.declared.held.Held.{Held}

-- a unit's held outputs in order, and how many more can be held without a growth
pub record HeldOutputs : Type 0 where
  pub unit : ℕ
  pub outputs : List Held
  pub room : ℕ

-- one output that may leave: of which unit and interval, and its text
pub record Issued : Type 0 where
  pub unit : ℕ
  pub output : Held

-- what a unit released: how many texts were given up, the texts behind those, and how many more can follow without a
-- growth
pub record Line : Type 0 where
  pub gone : ℕ
  pub texts : List (List ℕ)
  pub room : ℕ

-- the outputs of one interval
abbrev pub held_of : Mark → List (List ℕ) → List Held
held_of mark texts = map (λ text. record { mark = mark; text = text }) texts

-- the interval of the first output is below the unit's frontier
abbrev pub first_is_firm : ℕ → List Held → Bool
first_is_firm frontier [] = false
first_is_firm frontier (o ∷ outputs) = nat_lt o.mark.index frontier

abbrev pub front_is_firm : HeldOutputs → List ℕ → Bool
front_is_firm h frontiers = first_is_firm (slice_index frontiers h.unit) h.outputs

-- the outputs at the front that are of intervals below the index
abbrev pub held_below : List Held → ℕ → List Held
held_below outputs index = take_while (λ o. nat_lt o.mark.index index) outputs

abbrev pub no_line : Line
no_line = record { gone = 0; texts = []; room = 0 }

-- the list of a unit
abbrev pub line_of : List Line → ℕ → Line
line_of lines unit = slice_index_or lines unit no_line

-- how many of its texts a unit gave up
abbrev pub gone_of : List Line → ℕ → ℕ
gone_of lines unit = (line_of lines unit).gone

-- what a unit released behind those; nothing where it has no list
abbrev pub line_texts : List Line → ℕ → List (List ℕ)
line_texts lines unit = (line_of lines unit).texts

-- this text left, behind what the unit had released
abbrev pub IsOut : List Line → ℕ → List ℕ → List Line → Type 0
IsOut before unit text after = line_texts after unit ≡ line_texts before unit ++ text ∷ []

abbrev pub room_of : List Line → ℕ → ℕ
room_of lines unit = (line_of lines unit).room
