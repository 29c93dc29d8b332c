-- Words on a run without failures, as far as it has come.
use Rattle.std.specs.Prelude.{◌≡◌, ℕ, ◌<◌, List, [], ◌∷◌, ◌++◌, length, map, nat_lt, slice_index_or, Some, None, Result}
use Rattle.std.specs.Prelude.{Ok, Err}
use Rattle.std.specs.List.{filter, remove}
use Rattle.model.specs.declared.names.Source.{Source}
use Rattle.model.specs.declared.moves.Flaw.{Flaw}
use Rattle.model.specs.declared.moves.Flaw.TheVariants.{NoUnit, NothingToReceive, OutputsDiffer, NoMemory}
use Rattle.model.specs.Handler.{Turn}
use Rattle.model.specs.Lists.{numbers_from}
use Rattle.model.specs.FailureFree.{Worker, Packet, next_text, without_next}

-- the workers' units are numbered 0 upwards
abbrev pub AreInOrder : {S : Type 0} → List (Worker S) → Type 0
AreInOrder workers = map (λ a. a.seat.unit) workers ≡ numbers_from 0 (length workers)

-- a unit once it took this receipt and did this upon it
abbrev pub after_turn : {S : Type 0} → Worker S → Source → List ℕ → Turn S → Worker S
after_turn a source text turn = record {
  seat = a.seat;
  state = turn.state;
  received = a.received ++ (source, text) ∷ [];
  outputs = a.outputs ++ turn.outputs;
}

-- what these sends of a unit send to units that are there
abbrev pub packets_from : ℕ → ℕ → List (ℕ × List ℕ) → List Packet
packets_from u units sends =
    map (λ s. record { source = u; target = s.0; text = s.1 }) (filter (λ s. nat_lt s.0 units) sends)

-- no packet is from one unit to the other
abbrev pub IsNowhere : ℕ → ℕ → List Packet → Type 0
IsNowhere source target packets =
    (next_text source target packets ≡ None) × (without_next source target packets ≡ packets)

-- the i-th packet is the first from one unit to the other
abbrev pub IsFirst : ℕ → ℕ → List Packet → ℕ → Type 0
IsFirst source target packets i =
    (i < length packets)
    × ((p : Packet) → p ≡ slice_index_or packets i p → next_text source target packets ≡ Some p.text)
    × (without_next source target packets ≡ remove packets i)

-- what was made is what the definition gives, unless there was no memory for it
abbrev pub Makes : {X : Type 0} → Result X Flaw → Result X Flaw → Type 0
Makes (Ok x) expected = expected ≡ Ok x
Makes (Err (NoUnit u)) expected = expected ≡ Err (NoUnit u)
Makes (Err (NothingToReceive u)) expected = expected ≡ Err (NothingToReceive u)
Makes (Err (OutputsDiffer u)) expected = ⊥
Makes (Err NoMemory) expected = Unit {0}
