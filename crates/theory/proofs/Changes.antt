-- What a step of an open tenant can do to its world: eight changes.
use Rattle.std.proofs.Common.{◌≡◌, ◌⊎◌, inl, inr, refl, sym, subst, ℕ, ◌+◌, ◌-◌, ◌≤◌, Bool, true, false, cond, not, min}
use Rattle.std.proofs.Common.{List, [], ◌∷◌, length, take, arith, map}
use Rattle.std.specs.Prelude.{Option, Some, None, slice_get, nat_lt, nat_le}
use Rattle.std.proofs.lemmas.Bool.Decides.{nat_tests}
use Rattle.std.proofs.lemmas.Option.{same_Some}
use Rattle.model.specs.declared.limits.TheConstants.{MAX_INCARNATION}
use Rattle.model.specs.declared.refusals.Refusal.{Refusal}
use Rattle.model.specs.declared.names.Source.TheVariants.{Outside, Unit as FromUnit}
use Rattle.model.specs.declared.replies.Said.{Said}
use Rattle.model.specs.declared.steps.TenantStep.{TenantStep}
use Rattle.model.specs.declared.steps.TenantStep.TheVariants.{Open, Join, Post, Deliver, Flush, Checkpoint, Kill}
use Rattle.model.specs.declared.steps.TenantStep.TheVariants.{Restart, Notice, Release, Status}
use Rattle.model.specs.Handler.{Meaning}
use Rattle.model.specs.Nodes.{Cause, outside, letter, Message}
use Rattle.model.specs.World.{World, Member, executed, incarnation_of, is_blind, is_orphan, unstable_units, taken}
use Rattle.model.specs.World.{releasable}
use Rattle.model.specs.Steps.{Outcome, first_refusal, outcome_or, unless, if_unit, at_unit, at_up, if_letter}
use Rattle.model.specs.Steps.{with_member, with_receipt, with_unit, gone_back, path_kept, post, deliver, flush}
use Rattle.model.specs.Steps.{checkpoint, kill, restart, notice, notice_orphan, notice_rows, release, status, join_kind}
use Rattle.model.specs.Steps.{flushed, killed, with_known, with_released}
use Rattle.model.specs.Alone.{step_open}
use Rattle.model.specs.declared.names.Seat.{Seat}
use Rattle.theory.proofs.ListLaws.{number_is}

-- Why a receipt may be taken: it is from outside, or its letter was made, its sender is neither blind
-- nor an orphan by the rows that the unit knows, and few enough units have unstable nodes in its past.
-- Its number is the count of those taken from its source.
pub data MayTake {S : Type 0} (M : Meaning S) (w : World) (u : ℕ) (m : Member) : Cause → Type 0 where
  from_outside : (text : List ℕ) → MayTake M w u m (outside (taken w.nodes m.path Outside) text)
  from_letter : (l : ℕ) (msg : Message) → slice_get (executed M w).letters l ≡ Some msg → msg.receiver ≡ u
      → is_blind w.nodes (take m.known w.table) msg.sender ≡ false
      → is_orphan w.nodes (take m.known w.table) msg.sender ≡ false
      → nat_lt w.optimism (length (unstable_units w msg.sender)) ≡ false
      → msg.number ≡ taken w.nodes m.path (FromUnit msg.source)
      → MayTake M w u m (letter l msg.sender)

-- the eight ways in which a step can leave the world
pub data Change {S : Type 0} (M : Meaning S) (v : World) : World → Type 0 where
  unchanged : Change M v v
  receives : (u : ℕ) (m : Member) (cause : Cause)
      → slice_get v.members u ≡ Some m → m.up ≡ true → MayTake M v u m cause → Change M v (with_receipt v u m cause)
  flushes : (u k : ℕ) (m : Member)
      → slice_get v.members u ≡ Some m → k ≤ length m.path - m.stable → Change M v (with_member v u (flushed m k))
  dies : (u : ℕ) (m : Member) → slice_get v.members u ≡ Some m → Change M v (with_member v u (killed m))
  goes_back : (u : ℕ) (m : Member) → slice_get v.members u ≡ Some m
      → nat_le MAX_INCARNATION (incarnation_of v.table u) ≡ false → Change M v (gone_back v u m (path_kept v m))
  learns : (u : ℕ) (m : Member) → slice_get v.members u ≡ Some m
      → length m.path ≤ length (path_kept v m) → Change M v (with_member v u (with_known m (length v.table)))
  releases : (u : ℕ) (m : Member) → slice_get v.members u ≡ Some m
      → Change M v (with_member v u (with_released m (map (λ o. o.1) (releasable M v m))))
  joins : (kind : ℕ) → nat_le 16 (length v.members) ≡ false → Change M v (with_unit (length v.members + 1) v kind)

-- the seat of one more unit
abbrev pub new_seat : ℕ → World → ℕ → Seat
new_seat home w kind = record { unit = length w.members; kind = kind; home = home }

-- every test passes
abbrev pub Passed : List (Bool × Refusal) → Type 0
Passed [] = Unit {0}
Passed (t ∷ tests) = (t.0 ≡ false) × Passed tests

-- where no test refuses, all pass
pub none_refuses : (tests : List (Bool × Refusal)) → first_refusal tests ≡ None → Passed tests
unfolding first_refusal
none_refuses [] e = tt
none_refuses (t ∷ tests) e = go (none_refuses tests) t.0 refl e
  where
    go : (first_refusal tests ≡ None → Passed tests)
        → (b : Bool) → t.0 ≡ b → cond b (Some t.1) (first_refusal tests) ≡ None → (t.0 ≡ false) × Passed tests
    go rest true q h = absurd (cc h)
    go rest false q h = (q, rest h)

-- an outcome behind tests leaves the world, or all tests pass
pub unless_cases : (v w : World) (tests : List (Bool × Refusal)) (out : Outcome)
    → (unless v tests out).world ≡ Some w → (v ≡ w) ⊎ (Passed tests × (out.world ≡ Some w))
unless_cases v w tests out e = go (first_refusal tests) refl e
  where
    go : (o : Option Refusal) → first_refusal tests ≡ o
        → (outcome_or v out o).world ≡ Some w → (v ≡ w) ⊎ (Passed tests × (out.world ≡ Some w))
    go None q h = inr (none_refuses tests q, h)
    go (Some r) q h = inl (same_Some v w h)

-- so does one behind the look-up of a unit, or the unit is found
pub if_unit_cases : (v w : World) (f : Member → Outcome) (o : Option Member)
    → (if_unit v f o).world ≡ Some w → (v ≡ w) ⊎ ((m : Member) × (o ≡ Some m) × ((f m).world ≡ Some w))
if_unit_cases v w f None e = inl (same_Some v w e)
if_unit_cases v w f (Some m) e = inr (m, refl, e)

module _ {S : Type 0} (M : Meaning S) (v w : World) where
  -- the change from v to w, where they may be the same
  stays : v ≡ w → Change M v w
  stays e = subst (λ x. Change M v x) e unchanged

  changes_to : (x : World) → Change M v x → Some x ≡ Some w → Change M v w
  changes_to x c e = subst (λ y. Change M v y) (same_Some x w e) c

  unless_change : (tests : List (Bool × Refusal)) (out : Outcome)
      → (Passed tests → out.world ≡ Some w → Change M v w) → (unless v tests out).world ≡ Some w → Change M v w
  unless_change tests out f e = elim (unless_cases v w tests out e) [ inl h ↦ stays h | inr h ↦ f h.0 h.1 ]

  at_unit_change : (u : ℕ) (f : Member → Outcome) → ((m : Member) → slice_get v.members u ≡ Some m
      → (f m).world ≡ Some w → Change M v w) → (at_unit v u f).world ≡ Some w → Change M v w
  unfolding at_unit
  at_unit_change u f g e =
      elim (if_unit_cases v w f (slice_get v.members u) e) [ inl h ↦ stays h | inr h ↦ g h.0 h.1 h.2 ]

  is_up : (b : Bool) → not b ≡ false → b ≡ true
  is_up true e = refl
  is_up false e = sym e

  at_up_change : (u : ℕ) (f : Member → Outcome) → ((m : Member) → slice_get v.members u ≡ Some m
      → m.up ≡ true → (f m).world ≡ Some w → Change M v w) → (at_up v u f).world ≡ Some w → Change M v w
  unfolding at_up
  at_up_change u f g e =
      at_unit_change u _ (λ m found. unless_change _ (f m) (λ passed q. g m found (is_up m.up passed.0) q)) e

  post_change : (u number : ℕ) (text : List ℕ) → (post M v u number text).world ≡ Some w → Change M v w
  post_change u number text e = at_unit_change u _ (λ m found. unless_change _ _ (λ passed q.
      let is : number ≡ taken v.nodes m.path Outside = number_is number _ passed.1.0 passed.1.1.0 in
      changes_to _ (receives u m (outside number text) found (is_up m.up passed.0) (rw is (from_outside text))) q)) e

  deliver_change : (l : ℕ) → (deliver M v l).world ≡ Some w → Change M v w
  deliver_change l e = letter_change (slice_get (executed M v).letters l) refl e
    where
      letter_change : (o : Option Message)
          → slice_get (executed M v).letters l ≡ o → (if_letter M v l o).world ≡ Some w → Change M v w
      letter_change None made q = stays (same_Some v w q)
      letter_change (Some msg) made q = at_unit_change msg.receiver _ (λ m found. unless_change _ _ (λ passed k.
          let is : msg.number ≡ taken v.nodes m.path (FromUnit msg.source) =
          number_is msg.number _ passed.1.1.1.1.0 passed.1.1.1.1.1.0 in
          changes_to _ (receives msg.receiver m (letter l msg.sender) found
          (is_up m.up passed.0) (from_letter l msg made refl passed.1.0 passed.1.1.0 passed.1.1.1.0 is)) k)) q

  flush_change : (u : ℕ) (said : Said) → (flush v u said).world ≡ Some w → Change M v w
  flush_change u said e = at_up_change u _ (λ m found up q.
      changes_to _ (flushes u (min said.appended (length m.path - m.stable)) m found (omega arith)) q) e

  checkpoint_change : (u : ℕ) → (checkpoint v u).world ≡ Some w → Change M v w
  checkpoint_change u e = at_up_change u _ (λ m found up. unless_change _ _ (λ passed q. changes_to _ unchanged q)) e

  kill_change : (u : ℕ) → (kill v u).world ≡ Some w → Change M v w
  kill_change u e = at_up_change u _ (λ m found up q. changes_to _ (dies u m found) q) e

  restart_change : (u : ℕ) (said : Said) → (restart v u said).world ≡ Some w → Change M v w
  restart_change u said e =
      at_unit_change u _ (λ m found. unless_change _ _ (λ passed q. changes_to _ (goes_back u m found passed.1.0) q)) e

  notice_change : (u : ℕ) (said : Said) → (notice v u said).world ≡ Some w → Change M v w
  notice_change u said e = at_up_change
      u _ (λ m found up q. learn_or_go_back m found (nat_lt (length (path_kept v m)) (length m.path)) refl q) e
    where
      learn_or_go_back : (m : Member)
          → slice_get v.members u ≡ Some m → (b : Bool) → nat_lt (length (path_kept v m)) (length m.path) ≡ b
          → (cond b (notice_orphan v u said m) (notice_rows v u m)).world ≡ Some w → Change M v w
      learn_or_go_back m found true is q =
          unless_change _ _ (λ passed k. changes_to _ (goes_back u m found passed.0) k) q
      learn_or_go_back m found false is q = changes_to _ (learns u m found (grind (arith, nat_tests, is))) q

  release_change : (u : ℕ) → (release M v u).world ≡ Some w → Change M v w
  release_change u e = at_up_change u _ (λ m found up q. changes_to _ (releases u m found) q) e

  status_change : (u : ℕ) → (status M v u).world ≡ Some w → Change M v w
  status_change u e = at_unit_change u _ (λ m found q. stays (same_Some v w q)) e

  join_change : (o : Option ℕ) → (join_kind v o).world ≡ Some w → Change M v w
  join_change None e = stays (same_Some v w e)
  join_change (Some kind) e = unless_change _ _ (λ passed q. changes_to _ (joins kind passed.0) q) e

  -- what a step does is one of those
  pub step_changes : (step : TenantStep) (said : Said) → (step_open M v step said).world ≡ Some w → Change M v w
  step_changes (Open kinds quota optimism) said e = stays (same_Some v w e)
  step_changes (Join kind) said e = join_change (M.kind kind) e
  step_changes (Post unit number text) said e = post_change unit number text e
  step_changes (Deliver l) said e = deliver_change l e
  step_changes (Flush unit) said e = flush_change unit said e
  step_changes (Checkpoint unit) said e = checkpoint_change unit e
  step_changes (Kill unit) said e = kill_change unit e
  step_changes (Restart unit) said e = restart_change unit said e
  step_changes (Notice unit) said e = notice_change unit said e
  step_changes (Release unit) said e = release_change unit e
  step_changes (Status unit) said e = status_change unit e
