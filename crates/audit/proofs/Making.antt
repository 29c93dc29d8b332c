-- Moves as the code makes them.
use Rattle.std.proofs.Common.{◌≡◌, refl, sym, ◌∙◌, ap, subst, ℕ, suc, ◌+◌, ◌<◌, true, false, cond, List, [], ◌∷◌, ◌++◌}
use Rattle.std.proofs.Common.{length, map, get_or, drop, arith, zero-add, length-set}
use Rattle.std.proofs.lemmas.List.{drop_more, length-map}
use Rattle.std.specs.Prelude.{Option, Some, None, Result, Ok, Err, slice_get, slice_set, nat_lt, nat_le, Bool}
use Rattle.model.specs.declared.names.Seat.{Seat}
use Rattle.model.specs.declared.names.Source.{Source}
use Rattle.model.specs.declared.names.Source.TheVariants.{Outside, Unit as FromUnit}
use Rattle.model.specs.declared.moves.Move.{Move}
use Rattle.model.specs.declared.moves.Move.TheVariants.{Outside as Takes, Letter as TakesLetter, Join as Joins}
use Rattle.model.specs.declared.moves.Flaw.{Flaw}
use Rattle.model.specs.declared.moves.Flaw.TheVariants.{NoUnit, NothingToReceive, OutputsDiffer, NoMemory}
use Rattle.model.specs.Lists.{numbers_from}
use Rattle.model.specs.Handler.{Turn, Meaning}
use Rattle.model.specs.FailureFree.{Worker, Packet, Network, works_on, new_worker, moved, takes_text, takes_letter}
use Rattle.model.specs.FailureFree.{takes_next, next_text, without_next, if_moved, run_from}
use Rattle.audit.specs.Working.{AreInOrder, after_turn, packets_from, Makes}
use Rattle.audit.specs.Audits.{joins, AreNumbered}
use Rattle.audit.proofs.Orders.{numbered_at, numbered_set, numbered_more, length_more}

-- Of workers in order, the one at a place is the unit of that number.
pub unit_at : {S : Type 0} (workers : List (Worker S)) (u : ℕ) (a : Worker S) → AreInOrder workers
    → slice_get workers u ≡ Some a → a.seat.unit ≡ u
unit_at workers u a order found = numbered_at (λ b. b.seat.unit) 0 workers u a order found ∙ zero-add u

module _ {S : Type 0} (M : Meaning S) (net : Network S) (u : ℕ) (source : Source) (text : List ℕ) (a : Worker S) where
  worked_plain : (workers : List (Worker S)) (packets : List Packet) (turn : Turn S) (sends : List (ℕ × List ℕ))
      → AreInOrder net.workers → slice_get net.workers u ≡ Some a
      → turn ≡ M.handle a.seat a.state source text → workers ≡ slice_set net.workers u (after_turn a source text turn)
      → sends ≡ turn.sends → packets ≡ net.packets ++ packets_from u (length net.workers) sends
      → (let it : Network S = record { workers = workers; packets = packets } in it) ≡ works_on M net a source text
  worked_plain workers packets turn sends order found e f g h =
      rw (f, h, g, e, unit_at net.workers u a order found) refl

  -- What the code makes of a unit's turn is the network that the definition makes of it.
  pub worked : (ws now workers : List (Worker S)) (ps packets : List Packet) (units i n : ℕ) (turn : Turn S)
      (sends sent : List (ℕ × List ℕ))
      → ws ≡ net.workers → ps ≡ net.packets → AreInOrder net.workers → slice_get net.workers u ≡ Some a
      → units ≡ length ws → n ≡ u → i ≡ n → now ≡ ws
      → ((b : Worker S) → slice_get now i ≡ Some b → turn ≡ M.handle b.seat b.state source text)
      → ((b : Worker S) → slice_get ws i ≡ Some b → workers ≡ slice_set ws i (after_turn b source text turn))
      → sends ≡ turn.sends → sent ≡ sends → packets ≡ ps ++ packets_from u units sent
      → (let it : Network S = record { workers = workers; packets = packets } in it) ≡ works_on M net a source text
  worked ws now workers ps packets units i n turn sends sent w p order found k m j v does takes g s h =
      worked_plain workers packets turn sends order found
      (does a (rw (v, w, j, m) found))
      ((takes a (rw (w, j, m) found)) ∙ rw (w, j, m) refl)
      g
      (h ∙ rw (p, k, w, s) refl)

-- ---- what a move keeps

-- the units are in order, and n more
abbrev pub StayInOrder : {S : Type 0} → ℕ → Network S → Network S → Type 0
StayInOrder n net next = AreInOrder next.workers × (length next.workers ≡ length net.workers + n)

module _ {S : Type 0} (M : Meaning S) (net next : Network S) (order : AreInOrder net.workers) where
  works_kept : (packets : List Packet) (u : ℕ) (a : Worker S) (source : Source) (text : List ℕ)
      → slice_get net.workers u ≡ Some a
      → (let made : Result (Network S) Flaw = Ok (works_on M (record net { packets = packets }) a source text) in
      made) ≡ Ok next → StayInOrder 0 net next
  works_kept packets u a source text found e =
      let it : works_on M (record net { packets = packets }) a source text ≡ next = cc in
      let there : slice_get net.workers a.seat.unit ≡ Some a =
      subst (λ (n : ℕ). slice_get net.workers n ≡ Some a) (sym (unit_at net.workers u a order found)) found in
      let worker : Worker S = after_turn a source text (M.handle a.seat a.state source text) in
      let len = length-set net.workers a.seat.unit worker in
      subst (λ n. StayInOrder 0 net n) it (
        numbered_set (λ b. b.seat.unit) net.workers a.seat.unit a worker there refl ∙ order
            ∙ ap (numbers_from 0) (sym len),
        omega (arith, len),
      )

  text_kept : (u : ℕ) (text : List ℕ) (o : Option (Worker S)) → slice_get net.workers u ≡ o
      → takes_text M net u text o ≡ Ok next → StayInOrder 0 net next
  text_kept u text None found e = cc
  text_kept u text (Some a) found e = works_kept net.packets u a Outside text found e

  next_kept : (packets : List Packet) (to source : ℕ) (a : Worker S) (o : Option (List ℕ))
      → slice_get net.workers to ≡ Some a
      → takes_next M (record net { packets = packets }) a to source o ≡ Ok next → StayInOrder 0 net next
  next_kept packets to source a None found e = cc
  next_kept packets to source a (Some text) found e = works_kept packets to a (FromUnit source) text found e

  there_kept : (to source : ℕ) (a : Worker S) (b : Bool) → slice_get net.workers to ≡ Some a
      → cond b (takes_next M (record net { packets = without_next source to net.packets }) a to source
      (next_text source to net.packets)) (Err (NoUnit source)) ≡ Ok next → StayInOrder 0 net next
  there_kept to source a true found e =
      next_kept (without_next source to net.packets) to source a (next_text source to net.packets) found e
  there_kept to source a false found e = cc

  letter_kept : (to source : ℕ) (o : Option (Worker S)) → slice_get net.workers to ≡ o
      → takes_letter M net to source o ≡ Ok next → StayInOrder 0 net next
  letter_kept to source None found e = cc
  letter_kept to source (Some a) found e = there_kept to source a (nat_lt source (length net.workers)) found e

  join_kept : (seat : Seat) (b : Bool) → seat.unit ≡ length net.workers
      → cond b (Err (NoUnit 16)) (Ok (record net { workers = net.workers ++ new_worker M seat ∷ [] })) ≡ Ok next
      → StayInOrder 1 net next
  join_kept seat true u e = cc
  join_kept seat false u e =
      let workers : List (Worker S) = net.workers ++ new_worker M seat ∷ [] in
      let it : (let made : Network S = record net { workers = workers } in made) ≡ next = cc in
      let len = length_more net.workers (new_worker M seat) in
      subst (λ n. StayInOrder 1 net n) it (
        numbered_more (λ b. b.seat.unit) 0 net.workers (new_worker M seat) order
            (u ∙ sym (zero-add (length net.workers))),
        omega (arith, len),
      )

  pub move_kept : (m : Move) → moved M net m ≡ Ok next → StayInOrder (joins (m ∷ [])) net next
  move_kept (Takes u text) e = text_kept u text (slice_get net.workers u) refl e
  move_kept (TakesLetter to source) e = letter_kept to source (slice_get net.workers to) refl e
  move_kept (Joins kind) e =
      join_kept (record { unit = length net.workers; kind = kind; home = length net.workers + 1 })
      (nat_le 16 (length net.workers)) refl e

-- ---- all moves

-- Behind a move that was made, units are in order and the moves left come to the same result.
pub move_made : {S : Type 0} (M : Meaning S) (net next : Network S) (all : Result (Network S) Flaw)
    (moves : List Move) (i : ℕ) (m : Move)
    → AreInOrder net.workers × (run_from M net (drop i moves) ≡ all) → i < length moves → m ≡ get_or moves i m
    → moved M net m ≡ Ok next
    → AreInOrder next.workers × (run_from M next (drop (i + 1) moves) ≡ all)
move_made M net next all moves i m was h e made =
    ((move_kept M net next was.0 m made).0, rw (drop_more moves i m h, ← e, made) at was.1)

flaw_stays : {X : Type 0} (f : Flaw) (one all : Result X Flaw) → Makes {X = X} (Err f) one
    → (one ≡ Err f → all ≡ Err f) → Makes {X = X} (Err f) all
flaw_stays (NoUnit u) one all e k = k e
flaw_stays (NothingToReceive u) one all e k = k e
flaw_stays (OutputsDiffer u) one all e k = absurd e
flaw_stays NoMemory one all e k = tt

pub move_fails : {S : Type 0} (M : Meaning S) (net : Network S) (all : Result (Network S) Flaw) (moves : List Move)
    (i : ℕ) (m : Move) (f : Flaw)
    → AreInOrder net.workers × (run_from M net (drop i moves) ≡ all) → i < length moves → m ≡ get_or moves i m
    → Makes {X = Network S} (Err f) (moved M net m)
    → Makes {X = Network S} (Err f) all
move_fails M net all moves i m f was h e fails =
    flaw_stays f (moved M net m) all fails (λ q. sym was.1 ∙ rw (drop_more moves i m h, ← e, q) refl)

joins_more : (m : Move) (moves : List Move) → joins (m ∷ moves) ≡ joins (m ∷ []) + joins moves
joins_more (Takes u text) moves = omega arith
joins_more (TakesLetter to source) moves = omega arith
joins_more (Joins kind) moves = omega arith

pub all_kept : {S : Type 0} (M : Meaning S) (net : Network S) (moves : List Move) (last : Network S)
    → AreInOrder net.workers → run_from M net moves ≡ Ok last → StayInOrder (joins moves) net last
all_kept {S} M net [] last order e =
    let it : net ≡ last = cc in
    subst (λ (n : Network S). StayInOrder 0 net n) it (order, omega arith)
all_kept {S} M net (m ∷ moves) last order e =
    by (moved M net m) refl e (λ next order' q. all_kept M next moves last order' q)
  where
    by : (r : Result (Network S) Flaw) → moved M net m ≡ r → if_moved r (λ next. run_from M next moves) ≡ Ok last
        → ((next : Network S) → AreInOrder next.workers → run_from M next moves ≡ Ok last
        → StayInOrder (joins moves) next last)
        → StayInOrder (joins (m ∷ moves)) net last
    by (Err flaw) made q rest = cc
    by (Ok next) made q rest =
        let one = move_kept M net next order m made in
        let more = rest next one.0 q in
        let counts = joins_more m moves in
        (more.0, omega (arith, one.1, more.1, counts))

-- ---- before any move

workers_order : {S : Type 0} (M : Meaning S) (k : ℕ) (seats : List Seat)
    → map (λ s. s.unit) seats ≡ numbers_from k (length seats)
    → map (λ a. a.seat.unit) (map (new_worker M) seats) ≡ numbers_from k (length (map (new_worker M) seats))
workers_order M k [] e = refl
workers_order M k (s ∷ seats) e =
    let first : s.unit ≡ k = cc in
    let rest : map (λ s. s.unit) seats ≡ numbers_from (suc k) (length seats) = cc in
    rw first (ap (λ ns. k ∷ ns) (workers_order M (suc k) seats rest))

-- New workers at numbered seats are in order.
pub workers_in_order : {S : Type 0} (M : Meaning S) (seats : List Seat) (workers : List (Worker S))
    → AreNumbered seats → workers ≡ map (new_worker M) seats → AreInOrder workers
workers_in_order M seats workers order e = rw e (workers_order M 0 seats order)

-- Behind a run the workers are in order, one for each seat and one for each join.
pub run_kept : {S : Type 0} (M : Meaning S) (seats : List Seat) (moves : List Move) (workers : List (Worker S))
    (packets : List Packet) (last : Network S)
    → AreNumbered seats → workers ≡ map (new_worker M) seats
    → run_from M (record { workers = workers; packets = packets }) moves ≡ Ok last
    → AreInOrder last.workers × (length last.workers ≡ length seats + joins moves)
run_kept {S} M seats moves workers packets last order e run =
    let kept = all_kept M (record { workers = workers; packets = packets }) moves last
    (workers_in_order M seats workers order e) run in
    let len : length workers ≡ length seats = ap length e ∙ length-map seats (new_worker M) in
    (kept.0, omega (arith, kept.1, len))
