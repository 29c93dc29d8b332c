-- State intervals, named here nodes, and what follows from them: turns, letters and pasts.
-- A list of nodes has the newest first, and a node is named by its place: how many nodes were made before it.
use Rattle.std.specs.Prelude.{◌≡◌, ℕ, ◌+◌, true, cond, ◌==◌, nat_lt, List, [], ◌∷◌, ◌++◌, length, Option, Some, None}
use Rattle.std.specs.Prelude.{slice_get}
use Rattle.std.specs.List.{filter, count_by, sum_by}
use Rattle.model.specs.declared.names.Seat.{Seat}
use Rattle.model.specs.declared.names.Source.TheVariants.{Outside, Unit as FromUnit}
use Rattle.model.specs.Handler.{Turn, Meaning}
use Rattle.model.specs.Lists.{has, from_end}

-- why a node was made: its unit began, or received from outside this text under this number,
-- or received the letter of this number, which the node at this place sent
pub data Cause : Type 0 where
  began : Cause
  outside : ℕ → List ℕ → Cause
  letter : ℕ → ℕ → Cause

-- One state interval of a unit, which sits at this seat. `before` is the place of the one before it
-- on its path, and `units` is how many units the tenant had when the node was made.
pub record Node : Type 0 where
  pub unit : ℕ
  pub seat : Seat
  pub incarnation : ℕ
  pub index : ℕ
  pub before : Option ℕ
  pub cause : Cause
  pub units : ℕ

abbrev pub no_node : Node
no_node = record {
  unit = 0;
  seat = record { unit = 0; kind = 0; home = 0 };
  incarnation = 0;
  index = 0;
  before = None;
  cause = began;
  units = 0;
}

abbrev pub node_at : List Node → ℕ → Node
node_at nodes x = from_end nodes x no_node

-- a letter: the place and the unit of its sender, its receiver, its text and its session number
pub record Message : Type 0 where
  pub sender : ℕ
  pub source : ℕ
  pub receiver : ℕ
  pub text : List ℕ
  pub number : ℕ

-- a node's place, if there is one, and those of the nodes before it on its path
abbrev pub line : List Node → Option ℕ → List ℕ
line [] x = []
line (n ∷ older) None = []
line (n ∷ older) (Some x) = cond (x == length older) (x ∷ line older n.before) (line older (Some x))

-- ---- turns and letters

-- The turns of some nodes, the newest first; of each node the sends that count,
-- which are those to units that the tenant had; and the letters, in the order of their numbers.
pub record Execution (S : Type 0) : Type 0 where
  pub turns : List (Turn S)
  pub sends : List (List (ℕ × List ℕ))
  pub letters : List Message

-- the turn that begins a unit has no effects
abbrev pub begun : {S : Type 0} → Meaning S → Seat → Turn S
begun M seat = record { state = M.begin seat; sends = []; outputs = [] }

-- the turn of a node at a place, or of a beginning
abbrev pub turn_at : {S : Type 0} → Meaning S → Seat → List (Turn S) → Option ℕ → Turn S
turn_at M seat turns None = begun M seat
turn_at M seat turns (Some x) = from_end turns x (begun M seat)

-- the turn upon a letter, if there is one
abbrev pub turn_upon : {S : Type 0} → Meaning S → Seat → S → Option Message → Turn S
turn_upon M seat state None = begun M seat
turn_upon M seat state (Some m) = M.handle seat state (FromUnit m.source) m.text

-- the turn of a node with this cause, after this state
abbrev pub turn_of : {S : Type 0} → Meaning S → Seat → List Message → S → Cause → Turn S
turn_of M seat letters state began = begun M seat
turn_of M seat letters state (outside number text) = M.handle seat state Outside text
turn_of M seat letters state (letter m sender) = turn_upon M seat state (slice_get letters m)

-- the sends that count: a send to a unit that the tenant did not have goes nowhere
abbrev pub sends_within : {S : Type 0} → ℕ → Turn S → List (ℕ × List ℕ)
sends_within units t = filter (λ s. nat_lt s.0 units) t.sends

-- how many of these sends are to a unit
abbrev pub count_to : ℕ → List (ℕ × List ℕ) → ℕ
count_to u sends = count_by (λ s. s.0 == u) sends

-- how many sends to a unit the nodes at these places made
abbrev pub count_along : List (List (ℕ × List ℕ)) → ℕ → List ℕ → ℕ
count_along sends u places = sum_by (λ x. count_to u (from_end sends x [])) places

-- The letters of one node. A session number is the count of earlier sends to the same unit
-- by the nodes before the sender on its path, and before it in its own turn.
abbrev pub letters_of : ℕ → ℕ → (ℕ → ℕ) → List (ℕ × List ℕ) → List (ℕ × List ℕ) → List Message
letters_of place unit earlier done [] = []
letters_of place unit earlier done (s ∷ sends) =
    record { sender = place; source = unit; receiver = s.0; text = s.1; number = earlier s.0 + count_to s.0 done }
    ∷ letters_of place unit earlier (done ++ s ∷ []) sends

-- the turn of one more node, after those of the older ones
abbrev pub next_turn : {S : Type 0} → Meaning S → Seat → Execution S → Option ℕ → Cause → Turn S
next_turn M seat e before cause = turn_of M seat e.letters (turn_at M seat e.turns before).state cause

-- the turns, sends and letters after one more node
abbrev pub extended : {S : Type 0} → Meaning S → Execution S → List Node → Node → Execution S
extended M e older n =
    let turn = next_turn M n.seat e n.before n.cause in
    let sends = sends_within n.units turn in
    record {
      turns = turn ∷ e.turns;
      sends = sends ∷ e.sends;
      letters = e.letters
          ++ letters_of (length older) n.unit (λ u. count_along e.sends u (line older n.before)) [] sends;
    }

-- the turns, sends and letters of all nodes
abbrev pub execution : {S : Type 0} → Meaning S → List Node → Execution S
execution M [] = record { turns = []; sends = []; letters = [] }
execution M (n ∷ older) = extended M (execution M older) older n

-- ---- pasts

abbrev pub place_before : Option ℕ → List ℕ
place_before None = []
place_before (Some x) = x ∷ []

-- the place of the sender of a node's letter, if the node received one
abbrev pub sender_of : Cause → List ℕ
sender_of began = []
sender_of (outside number text) = []
sender_of (letter m sender) = sender ∷ []

-- what a node depends on at first hand: the node before it, and the sender of its letter
abbrev pub parents : Node → List ℕ
parents n = place_before n.before ++ sender_of n.cause

-- These nodes with all that they depend on, the newest first:
-- with each node that is wanted its parents are wanted too.
abbrev pub past_of_all : List Node → List ℕ → List ℕ
past_of_all [] wanted = []
past_of_all (n ∷ older) wanted =
    let is_wanted = has wanted (length older) in
    cond is_wanted (length older ∷ []) [] ++ past_of_all older (cond is_wanted (parents n) [] ++ wanted)

-- the past of a node: itself and all that it depends on
abbrev pub past : List Node → ℕ → List ℕ
past nodes x = past_of_all nodes (x ∷ [])

-- The past as a relation: x depends on y where y is x,
-- or a parent of a node on which x depends.
pub data DependsOn (nodes : List Node) (x : ℕ) : ℕ → Type 0 where
  itself : DependsOn nodes x x
  through : {y z : ℕ} → DependsOn nodes x y → has (parents (node_at nodes y)) z ≡ true → DependsOn nodes x z
