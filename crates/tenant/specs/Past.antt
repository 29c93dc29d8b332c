-- What a tenant keeps of its world's past.
use Rattle.std.specs.Prelude.{◌≡◌, ℕ, ◌+◌, ◌++◌, Bool, false, List, length, map, Option, Some, None}
use Rattle.std.specs.Prelude.{option_map, slice_get, is_none}
use Rattle.std.specs.List.{filter}
use Rattle.model.specs.declared.kept.Kept.{Kept as Amount}
use Rattle.model.specs.declared.replies.Reply.{Reply}
use Rattle.model.specs.declared.replies.Said.{Said}
use Rattle.model.specs.declared.steps.TenantStep.{TenantStep}
use Rattle.model.specs.declared.records.Record.{Record}
use Rattle.model.specs.Alone.{step_open}
use Rattle.model.specs.Handler.{Meaning}
use Rattle.model.specs.Keeping.{Shelf, after_open, all_based, base_count, based, changed, firm_length}
use Rattle.model.specs.Keeping.{received_for_good, shelves_after}
use Rattle.model.specs.World.{Member as MemberOf, World}
use Rattle.compact.specs.Compact.{CompactLetter}
use Rattle.unit_steps.specs.SentLetters.{is_whole_to}
use Rattle.rollback.specs.Units.{Recovering}
use Rattle.tenant.specs.Kept.{TenantState, Member, live_count}
use Rattle.tenant.specs.Outcomes.{done}
use Rattle.tenant.specs.Stands.{Stands}

-- the checkpoints of a unit by their indices, where one was put at its beginning or not
abbrev pub shelf_of : {S : Type 0} → Bool → Recovering S → Shelf
shelf_of first_put r = record { base = r.base; first_put = first_put; others = map (λ s. s.index) r.shelf.others }

abbrev pub shelves_of : {S : Type 0} → TenantState S → List Shelf
shelves_of t = map (λ m. shelf_of m.first_put m.unit_state) t.members

-- The tenant's units have these checkpoints, and a letter is without content just where an interval up to its
-- receiver's base received it.
pub record IsKeeping {S : Type 0} (t : TenantState S) (w : World) (shelves : List Shelf) : Type 0 where
  pub shelved : shelves_of t ≡ shelves
  pub letters : (l : ℕ) (c : CompactLetter) (m : MemberOf) (s : Shelf) → slice_get t.letters l ≡ Some c
      → slice_get w.members c.receiver ≡ Some m → slice_get shelves c.receiver ≡ Some s
      → is_none c.content ≡ received_for_good w m s l

-- The same, closed: whoever stands above passes it on.
unfoldable pub KeepsPast : {S : Type 0} → TenantState S → World → List Shelf → Type 0
KeepsPast t w shelves = IsKeeping t w shelves

-- A step keeps what the rules leave: where it is of this world, and leaves that one.
abbrev pub KeepsOn : {S : Type 0} → Meaning S → List ℕ → TenantState S → TenantStep → Said → Reply → TenantState S
    → List (Option Record) → Type 0
KeepsOn M name t step said reply v records =
    (w z : World) (shelves : List Shelf) → Stands M name t w records → step_open M w step said ≡ done reply z
    → KeepsPast t w shelves → KeepsPast v z (shelves_after z step reply shelves)

-- A tenant that was opened with this reply keeps all, whatever checkpoints were said to be there before.
abbrev pub OpensPast : {S : Type 0} → Reply → TenantState S → Type 0
OpensPast reply t = (z : World) (shelves : List Shelf) → KeepsPast t z (after_open reply shelves)

-- No letter gave up its content, and those that were made have theirs.
pub record AddsLetters {S : Type 0} (t v : TenantState S) : Type 0 where
  pub made : List CompactLetter
  pub letters : v.letters ≡ t.letters ++ made
  pub whole : (i : ℕ) (c : CompactLetter) → slice_get made i ≡ Some c → is_none c.content ≡ false

-- The checkpoints changed so.
pub record Shelves {S : Type 0} (change : List Shelf → List Shelf) (t v : TenantState S) : Type 0 where
  pub shelves : shelves_of v ≡ change (shelves_of t)
  pub letters : AddsLetters t v

-- They stayed.
abbrev pub SameShelves : {S : Type 0} → TenantState S → TenantState S → Type 0
SameShelves t v = Shelves (λ shelves. shelves) t v

-- the base of the unit at this place moves, if the unit is there
abbrev pub based_one : World → ℕ → Option MemberOf → List Shelf → List Shelf
based_one w u None shelves = shelves
based_one w u (Some m) shelves = changed (based (firm_length w m)) u shelves

-- The bases of all units moved as far as they are firm.
abbrev pub Bases : {S : Type 0} → Meaning S → List ℕ → TenantState S → List (Option Record) → TenantState S → Type 0
Bases M name t records v = (w : World) (shelves : List Shelf) → Stands M name t w records → KeepsPast t w shelves
    → KeepsPast v w (all_based w w.members shelves)

-- ---- how much that is

-- how many checkpoints a unit has
abbrev pub shelved_count : {S : Type 0} → Member S → ℕ
shelved_count m = length m.unit_state.shelf.others + base_count m.unit_state.base m.first_put

abbrev pub amount_of : {S : Type 0} → List CompactLetter → ℕ → Member S → Amount
amount_of letters u m = record {
  records = live_count m.unit_state;
  shelved = shelved_count m;
  letters = length (filter (is_whole_to u) letters);
}

-- how much is kept of this unit's past, if the unit is there
abbrev pub kept_by : {S : Type 0} → TenantState S → ℕ → Option Amount
kept_by t u = option_map (amount_of t.letters u) (slice_get t.members u)
