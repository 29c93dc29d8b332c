-- Kill, flush and frontier.
use Rattle.std.proofs.Common.{◌≡◌, refl, sym, ◌∙◌, ap, ℕ, ◌+◌, ◌-◌, ◌≤◌, min, [], length, take, drop, arith, map}
use Rattle.std.proofs.Common.{length-drop}
use Rattle.std.specs.Prelude.{nat_lt}
use Rattle.std.specs.List.{take_while}
use Rattle.std.proofs.lemmas.List.{length-take-le}
use Rattle.theory.proofs.ListLaws.{true_lt}
use Rattle.model.specs.Handler.{Meaning}
use Rattle.volatile_log.specs.Logs.{records_below}
use Rattle.compact.specs.Compact.{Snapshot, CompactUnit}
use Rattle.compact.specs.Steps.{flushed_unit, from_outside, killed_unit}
use Rattle.rollback.specs.Units.{Recovering, IsKept, killed_recovering, marked_stable}
use Rattle.rollback.proofs.Cuts.{below_is, all_pass}
use Rattle.rollback_laws.specs.Seen.{IsSeen, shelved_as}
use Rattle.rollback_laws.specs.Laws.{FlushesAreSeen, FrontiersAreSeen, KillsAreSeen}
use Rattle.rollback_laws.proofs.Places.{base_is, shelf_low, some_stable, stable_is}

module _ {S : Type 0} (r : Recovering S) (x : CompactUnit S) (k : IsKept r) (s : IsSeen r x) where
  abbrev kept : ℕ
  kept = length r.intervals - length r.volatile

  cut : x.stable - x.base.index ≡ kept
  cut = let a = base_is r x k s in let b = stable_is r x k s in let c = some_stable r x k s in omega (arith, a, b, c)

  killed_stable : min x.stable x.stable ≡ r.base + length (take kept r.intervals)
  killed_stable =
      let l = length-take-le kept r.intervals (omega arith) in
      let b = stable_is r x k s in
      let c = some_stable r x k s in
      omega (arith, l, b, c)

  -- no snapshot goes
  killed_shelf : r.shelf.others ≡ map shelved_as (take_while (λ (t : Snapshot S). nat_lt t.index x.stable) x.shelf)
  killed_shelf = s.shelf ∙ ap (map shelved_as) (sym (all_pass (λ (t : Snapshot S). nat_lt t.index x.stable)
      x.shelf (λ i t e. true_lt t.index x.stable (shelf_low r x k s i t e))))

  -- no volatile record stays
  killed_volatile : records_below x.volatile x.stable ≡ []
  killed_volatile =
      let st = (r.base + length r.intervals) - length r.volatile in
      let none : st - st ≡ 0 = omega arith in
      (λ i. records_below (s.volatile i) (s.stable i))
      ∙ below_is r.volatile st st k.marks ∙ ap (λ n. take n r.volatile) none

  kill_seen : IsSeen (killed_recovering r) (killed_unit x)
  kill_seen = record {
    seat = s.seat;
    up = refl;
    now = λ p e. cc;
    stable = let a = killed_stable in omega (arith, a);
    outside = λ i. s.outside i - from_outside (drop (cut i) (s.intervals i));
    base = s.base;
    shelf = killed_shelf;
    intervals = λ i. take (cut i) (s.intervals i);
    volatile = killed_volatile;
  }

  flush_seen : (place count : ℕ)
      → count ≤ length r.volatile → IsSeen (marked_stable r count) (flushed_unit place count x)
  flush_seen place count few = record {
    seat = s.seat;
    up = s.up;
    now = s.now;
    stable = let a : length (drop count r.volatile) ≡ length r.volatile - count = length-drop count r.volatile in
        let b = stable_is r x k s in let c = some_stable r x k s in omega (arith, a, b, c, few);
    outside = s.outside;
    base = s.base;
    shelf = s.shelf;
    intervals = s.intervals;
    volatile = ap (drop count) s.volatile;
  }

module _ {S : Type 0} (M : Meaning S) where
  -- A recovery unit that is killed keeps the compact unit that is killed.
  pub kills_are_seen : KillsAreSeen M
  kills_are_seen r x k s = kill_seen r x k s

  -- A recovery unit that marks intervals as stable keeps the compact unit that is flushed.
  pub flushes_are_seen : FlushesAreSeen M
  flushes_are_seen r x k s place count few = flush_seen r x k s place count few

  -- A recovery unit still keeps the compact unit whose frontier goes on.
  pub frontiers_are_seen : FrontiersAreSeen M
  frontiers_are_seen r x s rows stable_lengths = record {
    seat = s.seat;
    up = s.up;
    now = s.now;
    stable = s.stable;
    outside = s.outside;
    base = s.base;
    shelf = s.shelf;
    intervals = s.intervals;
    volatile = s.volatile;
  }
