-- What is computed at one unit is what the steps of the compact state that it keeps compute.
use Rattle.std.specs.Prelude.{◌≡◌, ℕ, List, length}
use Rattle.model.specs.declared.names.Row.{Row}
use Rattle.model.specs.Handler.{Meaning, Turn}
use Rattle.model.specs.Steps.{first_refusal}
use Rattle.compact.specs.Compact.{Compact, CompactLetter, CompactUnit}
use Rattle.compact.specs.Steps.{Receipt, going_on, lengths_of, letter_refusal, next_mark, next_vector, post_refusal}
use Rattle.compact.specs.Steps.{tests_of_turn}
use Rattle.rollback.specs.Units.{IsKept, Recovering}
use Rattle.rollback_laws.specs.Seen.{IsSeen}
use Rattle.unit_steps.specs.Receipts.{TenantView, frontier_of, letter_refused, mark_upon, post_refused, turn_refused}
use Rattle.unit_steps.specs.Receipts.{vector_upon}

-- what the tenant's other units and its table tell this one
abbrev pub known_to : {S : Type 0} → Compact S → CompactUnit S → TenantView
known_to k x = record { table = k.table; rows = x.known; stable_lengths = lengths_of k }

abbrev pub PostsAreRefused : {S : Type 0} → Meaning S → Type 0
PostsAreRefused {S} M = (r : Recovering S) (x : CompactUnit S) → IsKept r → IsSeen r x
    → (k : Compact S) (number : ℕ) (text : List ℕ)
    → post_refusal k x number text ≡ post_refused k.quota.volatile r number text

abbrev pub LettersAreRefused : {S : Type 0} → Meaning S → Type 0
LettersAreRefused {S} M = (r : Recovering S) (x : CompactUnit S) → IsKept r → IsSeen r x → (k : Compact S)
    (c : CompactLetter)
    → letter_refusal k x c c.content
    ≡ letter_refused (known_to k x) k.optimism k.quota.volatile r c.source c.content

abbrev pub TurnsAreRefused : {S : Type 0} → Meaning S → Type 0
TurnsAreRefused {S} M = (k : Compact S) (x : CompactUnit S) (turn : Turn S)
    → first_refusal (tests_of_turn k x turn)
    ≡ turn_refused k.quota (length x.hold) (length k.letters) (length k.units) turn

-- the mark and the vector of the next interval
pub record AreMade {S : Type 0} (k : Compact S) (u : ℕ) (x : CompactUnit S) (r : Recovering S)
    (q : Receipt) : Type 0 where
  pub mark : next_mark k u x ≡ mark_upon k.table u r
  pub vector : next_vector k u x q ≡ vector_upon k.table (length k.units) u r q.vector

abbrev pub VectorsAreMade : {S : Type 0} → Meaning S → Type 0
VectorsAreMade {S} M = (r : Recovering S) (x : CompactUnit S) → IsKept r → IsSeen r x
    → (k : Compact S) (u : ℕ) (q : Receipt) → AreMade k u x r q

abbrev pub FrontiersGoOn : {S : Type 0} → Meaning S → Type 0
FrontiersGoOn {S} M = (r : Recovering S) (x : CompactUnit S) → IsKept r → IsSeen r x
    → (rows : List Row) (stable_lengths : List ℕ)
    → (going_on rows stable_lengths x).frontier ≡ frontier_of rows stable_lengths r x.frontier
