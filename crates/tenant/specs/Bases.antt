-- What a tenant gives up once a unit's base moves on.
use Rattle.std.specs.Prelude.{◌≡◌, ℕ, ◌-◌, false, List, [], drop, min, take, Option, Some, None, option_map, slice_get}
use Rattle.std.specs.Prelude.{slice_set, bytes_eq}
use Rattle.std.specs.List.{fold}
use Rattle.checkpoint.specs.Shelves.{nearest_of}
use Rattle.compact.specs.Compact.{Interval, CompactLetter}
use Rattle.compact.specs.Forgetting.{without_content}
use Rattle.rollback.specs.Units.{Recovering, forgotten, places}
use Rattle.shared_log.specs.Logged.{Grows, Logged, OthersKept, places_of}
use Rattle.tenant.specs.Kept.{TenantState, Member}

-- the index of the greatest snapshot below the frontier, if there is one
abbrev pub next_base : {S : Type 0} → Recovering S → ℕ → Option ℕ
next_base r frontier = option_map (λ s. s.index) (nearest_of r.shelf (min (frontier - 1) (places r - 1)))

-- the intervals behind the base, up to the one of this index
abbrev pub passed : {S : Type 0} → Recovering S → ℕ → List Interval
passed r base = take (base - r.base) (drop 1 r.intervals)

-- ---- letters

abbrev pub emptied_at : List CompactLetter → ℕ → Option CompactLetter → List CompactLetter
emptied_at letters l None = letters
emptied_at letters l (Some c) = slice_set letters l (without_content c)

-- without the content of the letter of this number, if there is one
abbrev pub emptied_by : List CompactLetter → Option ℕ → List CompactLetter
emptied_by letters None = letters
emptied_by letters (Some l) = emptied_at letters l (slice_get letters l)

-- without the contents of those that these intervals received
abbrev pub emptied_all : List CompactLetter → List Interval → List CompactLetter
emptied_all letters intervals = fold (λ ls i. emptied_by ls i.letter) letters intervals

-- ---- one unit, whose base moves to the snapshot of this index, if there is one

abbrev pub rebased_member : {S : Type 0} → Member S → ℕ → Member S
rebased_member m base = record m { unit_state = forgotten m.unit_state base }

abbrev pub moved_member : {S : Type 0} → Member S → Option ℕ → Member S
moved_member m None = m
moved_member m (Some base) = rebased_member m base

abbrev pub moved_letters : {S : Type 0} → List CompactLetter → Recovering S → Option ℕ → List CompactLetter
moved_letters letters r None = letters
moved_letters letters r (Some base) = emptied_all letters (passed r base)

-- how many of its live records are given up
abbrev pub given_up : {S : Type 0} → Recovering S → Option ℕ → ℕ
given_up r None = 0
given_up r (Some base) = base - r.base

-- the tenant then
abbrev pub moved_kept : {S : Type 0} → TenantState S → ℕ → Member S → Option ℕ → TenantState S
moved_kept t u m base = record t {
  members = slice_set t.members u (moved_member m base);
  letters = moved_letters t.letters m.unit_state base;
}

-- ---- the log

-- The first of this unit's live records are live no more.
pub record LetsGo (name : List ℕ) (unit count : ℕ) (before after : Logged) : Type 0 where
  pub own : places_of name unit after ≡ drop count (places_of name unit before)
  pub others : OthersKept name unit before after
  pub grows : Grows before.records [] after.records
  pub failures : after.failures ≡ before.failures

-- It took no record, and the records of other tenants are live as they were.
pub record IsBeside (name : List ℕ) (before after : Logged) : Type 0 where
  pub others : (other : List ℕ) (unit : ℕ) → bytes_eq other name ≡ false
      → places_of other unit after ≡ places_of other unit before
  pub grows : Grows before.records [] after.records
  pub failures : after.failures ≡ before.failures
