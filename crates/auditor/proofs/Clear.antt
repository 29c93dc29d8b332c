-- The audit of a book's tenant finds no flaw.
use Rattle.std.proofs.Common.{◌≡◌, refl, sym, ◌∙◌, ap, subst, ℕ, zero, suc, ◌+◌, ◌≤◌, List, [], ◌∷◌, ◌++◌, length}
use Rattle.std.proofs.Common.{map, take, arith}
use Rattle.std.proofs.lemmas.List.{length-map, take_all}
use Rattle.std.specs.Prelude.{Option, Some, None, Result, Ok, Err, slice_get, option_map}
use Rattle.model.specs.Alone.{Event, alone}
use Rattle.model.specs.FailureFree.{Worker, Network, BeginWith, failure_free, new_worker, opening_units}
use Rattle.model.specs.Handler.{Meaning}
use Rattle.model.specs.History.{own, pairs}
use Rattle.model.specs.Lists.{numbers_from}
use Rattle.model.specs.World.{World, Member}
use Rattle.model.specs.declared.moves.Flaw.{Flaw}
use Rattle.model.specs.declared.moves.Flaw.TheVariants.{NoUnit, NothingToReceive, OutputsDiffer, NoMemory}
use Rattle.model.specs.declared.moves.Move.{Move}
use Rattle.model.specs.declared.names.Seat.{Seat}
use Rattle.model.specs.declared.replies.Entry.{Entry}
use Rattle.theory.proofs.Certificate.{reachable_invariant}
use Rattle.theory.proofs.Courses.{courses_reach}
use Rattle.theory.proofs.LettersExact.{take_more}
use Rattle.audit.proofs.Making.{run_kept}
use Rattle.audit.specs.Audits.{AreNumbered, Audits, joins}
use Rattle.audit.specs.Released.{DiffersFirst}
use Rattle.audit.specs.declared.verdict.Verdict.{Verdict}
use Rattle.book.specs.Certificates.{CertifiesAt, certificate_at, seats_at}
use Rattle.book.specs.History.{released_at, world_of}
use Rattle.auditor.specs.Lists.{IsClear, lists_at}

-- ---- the lists, taken one by one

get_map : {X Y : Type 0} (f : X → Y) (xs : List X) (u : ℕ) → slice_get (map f xs) u ≡ option_map f (slice_get xs u)
get_map f [] u = refl
get_map f (x ∷ xs) zero = refl
get_map f (x ∷ xs) (suc u) = get_map f xs u

released_is : (w : Option World) (u : ℕ) → released_at w u ≡ slice_get (lists_at w) u
released_is None u = refl
released_is (Some w) u = sym (get_map (λ m. m.released) w.members u)

take_none : {X : Type 0} (xs : List X) (u : ℕ) → slice_get xs u ≡ None → take u xs ≡ take (suc u) xs
take_none [] zero e = refl
take_none [] (suc u) e = refl
take_none (y ∷ xs) zero e = cc
take_none (y ∷ xs) (suc u) e = ap (λ ys. y ∷ ys) (take_none xs u e)

pub first_lists : (w : Option World) → [] ≡ take 0 (lists_at w)
first_lists w = refl

-- The texts that a unit released are the next list behind those of the units before it.
pub list_found : (w : Option World) (u : ℕ) (texts : List (List ℕ)) (lists : List (List (List ℕ)))
    → released_at w u ≡ Some texts → lists ≡ take u (lists_at w) → lists ++ texts ∷ [] ≡ take (u + 1) (lists_at w)
list_found w u texts lists found so_far = let e : u + 1 ≡ suc u = omega arith in
    rw (so_far, e) (sym (take_more (lists_at w) u texts (sym (released_is w u) ∙ found)))

-- Where a unit isn't there, its place adds no list to those before it.
pub list_missing : (w : Option World) (u : ℕ) (lists : List (List (List ℕ)))
    → released_at w u ≡ None → lists ≡ take u (lists_at w) → lists ≡ take (u + 1) (lists_at w)
list_missing w u lists found so_far = let e : u + 1 ≡ suc u = omega arith in
    rw e (so_far ∙ take_none (lists_at w) u (sym (released_is w u) ∙ found))

-- ---- seats in order, and no more units than there may be

numbered_seats : (members : List Member) (o k : ℕ)
    → ((u : ℕ) (m : Member) → slice_get members u ≡ Some m → m.seat.unit ≡ k + u)
    → map (λ s. s.unit) (take o (map (λ m. m.seat) members))
    ≡ numbers_from k (length (take o (map (λ m. m.seat) members)))
numbered_seats members zero k h = refl
numbered_seats [] (suc o) k h = refl
numbered_seats (m ∷ members) (suc o) k h =
    let first : m.seat.unit ≡ k = let e = h 0 m refl in omega (arith, e) in
    let rest = numbered_seats members o (suc k) (λ u n f. let e = h (suc u) n f in omega (arith, e)) in
    rw first (ap (λ ns. k ∷ ns) rest)

module _ {S : Type 0} (M : Meaning S) where
  world_numbered : (events : List Event) (w : Option World) → (alone M events).world ≡ w → AreNumbered (seats_at w)
  world_numbered events None e = refl
  world_numbered events (Some w) e =
      let g = reachable_invariant M (courses_reach M events w e) in
      numbered_seats w.members (opening_units w.members) 0 (λ u m f. let e =
      (g.chain.sound.units u m f).seated in omega (arith, e))

  world_few : (events : List Event) (w : Option World) → (alone M events).world ≡ w → length (lists_at w) ≤ 16
  world_few events None e = omega arith
  world_few events (Some w) e =
      let g = reachable_invariant M (courses_reach M events w e) in
      let few = g.counted.few in
      let len = length-map w.members (λ m. m.released) in
      omega (arith, few, len)

  -- The first 16 lists of what a tenant's units released are all of them.
  pub all_lists : (tenant : List ℕ) (history : List Entry)
      → take 16 (lists_at (world_of M tenant history)) ≡ lists_at (world_of M tenant history)
  all_lists tenant history = take_all 16 _ (world_few (own tenant (pairs history)) (world_of M tenant history) refl)

  -- The seats of a tenant's opening are numbered from 0 on.
  pub seats_numbered : (tenant : List ℕ) (history : List Entry) (seats : List Seat)
      → seats ≡ seats_at (world_of M tenant history) → AreNumbered seats
  seats_numbered tenant history seats e =
      subst AreNumbered (sym e) (world_numbered (own tenant (pairs history)) (world_of M tenant history) refl)

  -- ---- the run that the certificate is

  -- the moves are a run, and what was released begins its outputs
  abbrev Holds : List Seat → List Move → List (List (List ℕ)) → Type 0
  Holds seats moves lists = (net : Network S) × (failure_free M seats moves ≡ Ok net) × BeginWith net.workers lists

  certified_holds : (w : Option World) (moves : List Move)
      → CertifiesAt M w moves → Holds (seats_at w) moves (lists_at w)
  certified_holds None moves e = rw e (record { workers = []; packets = [] }, refl, tt)
  certified_holds (Some w) moves c = rw c.0 (c.1.0, c.1.1, c.1.3)

  begin_length : (workers : List (Worker S)) (lists : List (List (List ℕ)))
      → BeginWith workers lists → length lists ≡ length workers
  begin_length [] [] h = refl
  begin_length (a ∷ workers) [] h = absurd h
  begin_length [] (r ∷ lists) h = absurd h
  begin_length (a ∷ workers) (r ∷ lists) h = ap suc (begin_length workers lists h.1)

  begin_or_differ : (workers : List (Worker S)) (lists : List (List (List ℕ))) (u : ℕ)
      → BeginWith workers lists → DiffersFirst workers lists u → ⊥
  begin_or_differ [] lists u h d = d
  begin_or_differ (a ∷ workers) [] u h d = d
  begin_or_differ (a ∷ workers) (r ∷ lists) zero h d = d h.0
  begin_or_differ (a ∷ workers) (r ∷ lists) (suc u) h d = begin_or_differ workers lists u h.1 d.1

  module _ (tenant : List ℕ) (history : List Entry)
      (seats : List Seat) (moves : List Move) (lists : List (List (List ℕ)))
      (is_seats : seats ≡ seats_at (world_of M tenant history))
      (certifies : CertifiesAt M (world_of M tenant history) moves)
      (is_lists : lists ≡ lists_at (world_of M tenant history)) where
    held : Holds seats moves lists
    held = rw (is_seats, is_lists) (certified_holds (world_of M tenant history) moves certifies)

    -- There is one list for each seat of the opening and for each join of the certificate.
    pub a_list_each : length lists ≡ length seats + joins moves
    a_list_each =
        let kept = run_kept M seats
        moves (map (new_worker M) seats) [] held.0 (seats_numbered tenant history seats is_seats) refl held.1 in
        begin_length held.0.workers lists held.2 ∙ kept.1

    is_certificate : (w : Option World) → CertifiesAt M w moves → moves ≡ certificate_at w
    is_certificate None e = e
    is_certificate (Some w) c = c.0

    -- The audit of a tenant's certificate finds no flaw.
    pub clear : (result : Result Verdict Flaw)
        → Audits M seats moves lists result → IsClear (world_of M tenant history) result
    clear (Ok v) h = h.3 ∙ ap length (is_certificate (world_of M tenant history) certifies)
    clear (Err (OutputsDiffer u)) h =
        let same : held.0 ≡ h.0 = let e = sym held.1 ∙ h.1 in cc in
        begin_or_differ h.0.workers lists u (subst (λ (net : Network S). BeginWith net.workers lists) same held.2) h.2
    clear (Err (NoUnit u)) h = let e = sym held.1 ∙ h in cc
    clear (Err (NothingToReceive u)) h = let e = sym held.1 ∙ h in cc
    clear (Err NoMemory) h = tt
