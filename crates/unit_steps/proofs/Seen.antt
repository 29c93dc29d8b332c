-- What is computed at one unit is what the steps of the compact state compute.
use Rattle.std.proofs.Common.{◌≡◌, refl, ◌∙◌, ap, ℕ, zero, suc, ◌+◌, ◌-◌, Bool, true, false, List, [], ◌∷◌, ◌++◌}
use Rattle.std.proofs.Common.{length, map, drop}
use Rattle.std.specs.Prelude.{Option, Some, None, slice_set, slice_index_or, nat_le}
use Rattle.std.specs.Option.{is_some}
use Rattle.model.specs.declared.names.Row.{Row}
use Rattle.model.specs.declared.names.Mark.{Mark}
use Rattle.model.specs.declared.names.Source.{Source}
use Rattle.model.specs.declared.names.Source.TheVariants.{Outside, Unit as FromUnit}
use Rattle.model.specs.declared.refusals.Refusal.{Refusal}
use Rattle.model.specs.declared.refusals.Refusal.TheVariants.{Limit, Quota as OverQuota, TooMuch}
use Rattle.model.specs.Handler.{Meaning}
use Rattle.model.specs.Steps.{first_refusal, is_long}
use Rattle.session.specs.Counts.{taken_from}
use Rattle.compact.specs.Compact.{Compact, Content, Interval, CompactLetter, Progress, CompactUnit}
use Rattle.depvector.specs.Vectors.{joined, widened}
use Rattle.compact.specs.Laws.{firm_front}
use Rattle.compact.specs.Steps.{Receipt, last_vector, letter_refusal, next_mark, next_vector, or_next, post_refusal}
use Rattle.compact.specs.Steps.{tests_of_number, tests_of_room}
use Rattle.compact.proofs.Receipts.{refusal_append}
use Rattle.model.specs.World.{incarnation_of}
use Rattle.rollback.specs.Units.{IsKept, Recovering, unknown}
use Rattle.rollback_laws.specs.Seen.{HasPlaces, IsSeen}
use Rattle.rollback_laws.proofs.Places.{places_are_seen}
use Rattle.unit_steps.specs.Receipts.{arrival_refusal, frontier_of, last_vector_of, letter_refused, mark_upon}
use Rattle.unit_steps.specs.Receipts.{past_tests, receipt_room_tests, vector_upon}
use Rattle.unit_steps.specs.Laws.{FrontiersGoOn, LettersAreRefused, PostsAreRefused, TurnsAreRefused, VectorsAreMade}
use Rattle.unit_steps.specs.Laws.{known_to}

-- a vector is looked up in an interval
vector_at : (intervals : List Interval) (n : ℕ)
    → slice_index_or (map (λ (i : Interval). i.vector) intervals) n [] ≡ (slice_index_or intervals n unknown).vector
vector_at [] n = refl
vector_at (v ∷ intervals) zero = refl
vector_at (v ∷ intervals) (suc n) = vector_at intervals n

module _ {S : Type 0} (M : Meaning S)
    (r : Recovering S) (x : CompactUnit S) (kept : IsKept r) (seen : IsSeen r x) (k : Compact S) where
  there : HasPlaces r x
  there = places_are_seen M r x kept seen

  room : (text : List ℕ) → tests_of_room k x text ≡ receipt_room_tests k.quota.volatile r text
  room text = λ i. (
    nat_le 4294967295 (there.long i - 1),
    Limit,
  ) ∷ (nat_le k.quota.volatile (there.unstable i), OverQuota) ∷ (is_long text, TooMuch) ∷ []

  -- the tests of the number and of room, where the unit is up
  arrives : (source : Source) (number : ℕ) (text : List ℕ) (p : Progress S) → r.progress ≡ Some p
      → first_refusal (tests_of_number (taken_from x.now.sessions source) number ++ tests_of_room k x text)
      ≡ arrival_refusal k.quota.volatile r source number text (Some p)
  arrives source number text p e = rw (seen.now p e, room text) refl

  posts : (number : ℕ) (text : List ℕ) (o : Option (Progress S))
      → r.progress ≡ o → post_refusal k x number text ≡ arrival_refusal k.quota.volatile r Outside number text o
  unfolding first_refusal
  posts number text None e = let down : x.up ≡ false = seen.up ∙ ap is_some e in rw down refl
  posts number text (Some p) e = let up : x.up ≡ true = seen.up ∙ ap is_some e in
      rw up (arrives Outside number text p e)

  abbrev past : List Mark → List (Bool × Refusal)
  past vector = past_tests (known_to k x) k.optimism r vector

  letters : (source : ℕ) (content : Content) (o : Option (Progress S)) → r.progress ≡ o
      → or_next (first_refusal (past content.vector)) (first_refusal
      (tests_of_number (taken_from x.now.sessions (FromUnit source)) content.number ++ tests_of_room k x content.text))
      ≡ or_next (first_refusal (past content.vector))
      (arrival_refusal k.quota.volatile r (FromUnit source) content.number content.text o)
  unfolding first_refusal
  letters source content None e = rw e refl
  letters source content (Some p) e =
      ap (or_next (first_refusal (past content.vector))) (arrives (FromUnit source) content.number content.text p e)

  letter : (c : CompactLetter) (o : Option Content)
      → letter_refusal k x c o ≡ letter_refused (known_to k x) k.optimism k.quota.volatile r c.source o
  letter c None = rw seen.up refl
  letter c (Some content) = rw seen.up (refusal_append (past content.vector)
      (tests_of_number (taken_from x.now.sessions (FromUnit c.source)) content.number
      ++ tests_of_room k x content.text)
      ∙ letters c.source content r.progress refl)

  marks : (u : ℕ) → next_mark k u x ≡ mark_upon k.table u r
  marks u = λ i. record { incarnation = incarnation_of k.table u; index = there.long i }

  last : last_vector x ≡ last_vector_of r
  last = ap (λ intervals. slice_index_or (map (λ (i : Interval). i.vector) intervals) (length intervals - 1) [])
      seen.intervals ∙ vector_at r.intervals (length r.intervals - 1)

  vectors : (u : ℕ) (q : Receipt) → next_vector k u x q ≡ vector_upon k.table (length k.units) u r q.vector
  vectors u q = λ i. slice_set (joined (widened (last i) (length k.units)) q.vector) u (marks u i)

  fronts : (rows : List Row) (stable_lengths : List ℕ) → x.frontier + firm_front rows stable_lengths (map
      (λ i. i.vector) (drop (x.frontier - x.base.index) x.intervals)) ≡ frontier_of rows stable_lengths r x.frontier
  fronts rows stable_lengths = λ i. x.frontier + firm_front
      rows stable_lengths (map (λ v. v.vector) (drop (x.frontier - there.base i) (seen.intervals i)))

-- A turn is refused at one unit as it is on the compact state.
pub turns_are_refused : {S : Type 0} (M : Meaning S) → TurnsAreRefused M
turns_are_refused M k x turn = refl

-- The mark and the vector of the next interval at one unit are those on the compact state.
pub vectors_are_made : {S : Type 0} (M : Meaning S) → VectorsAreMade M
vectors_are_made M r x kept seen k u q =
    record { mark = marks M r x kept seen k u; vector = vectors M r x kept seen k u q }

-- A frontier goes on at one unit as it does on the compact state.
pub frontiers_go_on : {S : Type 0} (M : Meaning S) → FrontiersGoOn M
frontiers_go_on M r x kept seen rows stable_lengths = fronts M r x kept seen (record {
  quota = record {
    volatile = 0;
    held = 0;
    letters = 0;
  };
  optimism = 0;
  table = [];
  units = [];
  letters = [];
}) rows stable_lengths

-- A post is refused at one unit as it is on the compact state.
pub posts_are_refused : {S : Type 0} (M : Meaning S) → PostsAreRefused M
posts_are_refused M r x kept seen k number text = posts M r x kept seen k number text r.progress refl

-- A letter is refused at one unit as it is on the compact state.
pub letters_are_refused : {S : Type 0} (M : Meaning S) → LettersAreRefused M
letters_are_refused M r x kept seen k c = letter M r x kept seen k c c.content
