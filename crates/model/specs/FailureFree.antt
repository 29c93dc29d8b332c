-- Runs without failures: units that only take texts from outside and letters from plain queues.
use Rattle.std.specs.Prelude.{◌≡◌, ℕ, ◌+◌, Bool, cond, ◌&&◌, ◌==◌, nat_lt, nat_le, List, [], ◌∷◌, ◌++◌, length, take}
use Rattle.std.specs.Prelude.{Option, Some, None, Result, Ok, Err, slice_get, slice_set, map}
use Rattle.std.specs.List.{filter, flat_map}
use Rattle.model.specs.declared.limits.TheConstants.{MAX_UNITS}
use mathlib.Core.List.{IsPrefix}
use Rattle.model.specs.declared.names.Seat.{Seat}
use Rattle.model.specs.declared.names.Source.{Source}
use Rattle.model.specs.declared.names.Source.TheVariants.{Outside, Unit as FromUnit}
use Rattle.model.specs.declared.moves.Move.{Move}
use Rattle.model.specs.declared.moves.Move.TheVariants.{Outside as Takes, Letter as TakesLetter, Join as Joins}
use Rattle.model.specs.declared.moves.Flaw.{Flaw}
use Rattle.model.specs.declared.moves.Flaw.TheVariants.{NoUnit, NothingToReceive}
use Rattle.model.specs.Handler.{Turn, Meaning}
use Rattle.model.specs.Lists.{numbers_from}
use Rattle.model.specs.Nodes.{Node, Cause, began, outside, letter, node_at}
use Rattle.model.specs.World.{World, Member, executed, receipts, stable_path, is_firm}

-- a unit at work: its seat and state, what it received, and what it put out
pub record Worker (S : Type 0) : Type 0 where
  pub seat : Seat
  pub state : S
  pub received : List (Source × List ℕ)
  pub outputs : List (List ℕ)

-- a text on its way from one unit to another
pub record Packet : Type 0 where
  pub source : ℕ
  pub target : ℕ
  pub text : List ℕ

-- all units, and what is on its way between them, in the order of sending
pub record Network (S : Type 0) : Type 0 where
  pub workers : List (Worker S)
  pub packets : List Packet

abbrev pub is_between : ℕ → ℕ → Packet → Bool
is_between source target p = (p.source == source) && (p.target == target)

-- the text of the first packet from one unit to the other, if there is one
abbrev pub next_text : ℕ → ℕ → List Packet → Option (List ℕ)
next_text source target [] = None
next_text source target (p ∷ packets) =
    cond (is_between source target p) (Some p.text) (next_text source target packets)

-- the packets without that one
abbrev pub without_next : ℕ → ℕ → List Packet → List Packet
without_next source target [] = []
without_next source target (p ∷ packets) =
    cond (is_between source target p) packets (p ∷ without_next source target packets)

-- what a unit sends to units that are there
abbrev pub packets_of : {S : Type 0} → ℕ → ℕ → Turn S → List Packet
packets_of u units turn =
    map (λ s. record { source = u; target = s.0; text = s.1 }) (filter (λ s. nat_lt s.0 units) turn.sends)

-- a unit works on one receipt
abbrev pub works_on : {S : Type 0} → Meaning S → Network S → Worker S → Source → List ℕ → Network S
works_on M net a source text =
    let turn = M.handle a.seat a.state source text in
    record {
      workers = slice_set net.workers a.seat.unit (record {
        seat = a.seat;
        state = turn.state;
        received = a.received ++ (source, text) ∷ [];
        outputs = a.outputs ++ turn.outputs;
      });
      packets = net.packets ++ packets_of a.seat.unit (length net.workers) turn;
    }

-- a unit takes a letter, if there is one; the network is without it
abbrev pub takes_next : {S : Type 0} → Meaning S → Network S → Worker S → ℕ → ℕ → Option (List ℕ)
    → Result (Network S) Flaw
takes_next M net a to source None = Err (NothingToReceive to)
takes_next M net a to source (Some text) = Ok (works_on M net a (FromUnit source) text)

abbrev pub new_worker : {S : Type 0} → Meaning S → Seat → Worker S
new_worker M seat = record { seat = seat; state = M.begin seat; received = []; outputs = [] }

-- a unit takes a text from outside, if it is there
abbrev pub takes_text : {S : Type 0} → Meaning S → Network S → ℕ → List ℕ → Option (Worker S) → Result (Network S) Flaw
takes_text M net u text None = Err (NoUnit u)
takes_text M net u text (Some a) = Ok (works_on M net a Outside text)

-- a unit takes the next letter of another, if both are there
abbrev pub takes_letter : {S : Type 0} → Meaning S → Network S → ℕ → ℕ → Option (Worker S) → Result (Network S) Flaw
takes_letter M net to source None = Err (NoUnit to)
takes_letter M net to source (Some a) =
    cond (nat_lt source (length net.workers))
    (takes_next M (record net {
      packets = without_next source to net.packets;
    }) a to source (next_text source to net.packets))
    (Err (NoUnit source))

-- one move, or why it cannot be made
abbrev pub moved : {S : Type 0} → Meaning S → Network S → Move → Result (Network S) Flaw
moved M net (Takes u text) = takes_text M net u text (slice_get net.workers u)
moved M net (TakesLetter to source) = takes_letter M net to source (slice_get net.workers to)
moved M net (Joins kind) =
    let units = length net.workers in
    cond (nat_le MAX_UNITS units) (Err (NoUnit MAX_UNITS))
    (Ok (record net {
      workers = net.workers ++ new_worker M (record { unit = units; kind = kind; home = units + 1 }) ∷ [];
    }))

abbrev pub if_moved : {S : Type 0} → Result (Network S) Flaw → (Network S → Result (Network S) Flaw)
    → Result (Network S) Flaw
if_moved (Err flaw) rest = Err flaw
if_moved (Ok net) rest = rest net

-- all moves in order, or why the first that cannot be made cannot
abbrev pub run_from : {S : Type 0} → Meaning S → Network S → List Move → Result (Network S) Flaw
run_from M net [] = Ok net
run_from M net (m ∷ moves) = if_moved (moved M net m) (λ next. run_from M next moves)

-- a run of units at these seats
abbrev pub failure_free : {S : Type 0} → Meaning S → List Seat → List Move → Result (Network S) Flaw
failure_free M seats moves = run_from M (record { workers = map (new_worker M) seats; packets = [] }) moves

-- ---- a run beside a world

-- the receipts on a unit's path within its stable length
abbrev pub logged : {S : Type 0} → Meaning S → World → Member → List (Source × List ℕ)
logged M w m = receipts (executed M w).letters w.nodes (stable_path m)

-- there is a unit for each of the run, and what it received in the run begins what is logged of it
abbrev pub FitsAll : {S : Type 0} → Meaning S → World → List (Worker S) → List Member → Type 0
FitsAll M w [] [] = Unit {0}
FitsAll M w (a ∷ workers) [] = ⊥
FitsAll M w [] (m ∷ members) = ⊥
FitsAll M w (a ∷ workers) (m ∷ members) = IsPrefix a.received (logged M w m) × FitsAll M w workers members

abbrev pub Fits : {S : Type 0} → Meaning S → World → Network S → Type 0
Fits M w net = FitsAll M w net.workers w.members

-- each unit's outputs begin with its list
abbrev pub BeginWith : {S : Type 0} → List (Worker S) → List (List (List ℕ)) → Type 0
BeginWith [] [] = Unit {0}
BeginWith (a ∷ workers) [] = ⊥
BeginWith [] (r ∷ released) = ⊥
BeginWith (a ∷ workers) (r ∷ released) = IsPrefix r a.outputs × BeginWith workers released

-- ---- the certificate

-- the move that a firm node stands for; the beginnings of the first units stand for none
abbrev pub move_of : List Node → ℕ → Node → Cause → List Move
move_of nodes opening n began = cond (nat_lt n.unit opening) [] (Joins n.seat.kind ∷ [])
move_of nodes opening n (outside number text) = Takes n.unit text ∷ []
move_of nodes opening n (letter m sender) = TakesLetter n.unit (node_at nodes sender).unit ∷ []

-- how many units the tenant was opened with
abbrev pub opening_units : List Member → ℕ
opening_units [] = 0
opening_units (m ∷ members) = m.seat.home

-- the seats that the tenant was opened with
abbrev pub opening_seats : World → List Seat
opening_seats w = take (opening_units w.members) (map (λ m. m.seat) w.members)

-- the move of the node at this place, if it is firm
abbrev pub move_at : World → ℕ → List Move
move_at w x = let n = node_at w.nodes x in
    cond (is_firm w x) (move_of w.nodes (opening_units w.members) n n.cause) []

-- the receipts of the firm nodes and the joins, in the order of creation
abbrev pub certificate : World → List Move
certificate w = flat_map (move_at w) (numbers_from 0 (length w.nodes))

-- The certificate is a run without failures of the opening's seats, it fits the world,
-- and each unit's outputs in it begin with what the unit released.
abbrev pub CertificateHolds : {S : Type 0} → Meaning S → World → Type 0
CertificateHolds {S} M w = (net : Network S) × (failure_free M (opening_seats w) (certificate w) ≡ Ok net)
    × Fits M w net × BeginWith net.workers (map (λ m. m.released) w.members)
