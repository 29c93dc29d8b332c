-- How much of a path is kept, by the first orphan.
use Rattle.std.proofs.Common.{◌≡◌, refl, sym, ◌∙◌, ap, ℕ, ◌+◌, ◌-◌, ◌<◌, ◌≤◌, Bool, true, false, cond, not, length}
use Rattle.std.proofs.Common.{drop, arith}
use Rattle.std.specs.Prelude.{Option, Some, None, MatchOption, slice_get, nat_lt, option_map}
use Rattle.std.specs.List.{position, position_or_len, prefix_len, take_while}
use Rattle.std.proofs.lemmas.Bool.Decides.{nat_tests}
use Rattle.std.proofs.lemmas.List.Sums.{prefix_len-le-length}
use Rattle.std.proofs.lemmas.List.Folds.{length-prefix_len}
use Rattle.theory.proofs.ListLaws.{get_take}
use Rattle.model.specs.Handler.{Meaning}
use Rattle.orphan.specs.Tests.{is_orphan_by}
use Rattle.layer_laws.proofs.Fronts.{same_prefix}
use Rattle.compact.specs.Compact.{Compact, Interval, CompactUnit}
use Rattle.compact.specs.Steps.{kept_places, places as all_of, vectors_behind}
use Rattle.compact.proofs.Words.{front_goes_on}
use Rattle.rollback.specs.Units.{Recovering, IsKept}
use Rattle.rollback_laws.specs.Seen.{IsSeen}
use Rattle.rollback_laws.specs.Laws.{FirstOrphansAreSeen, OrphansAreSeen}
use Rattle.rollback_laws.proofs.Places.{base_is, places_are}

module _ {S : Type 0} (r : Recovering S) (x : CompactUnit S)
    (k : IsKept r) (s : IsSeen r x) (c : Compact S) (low : x.base.index ≤ x.frontier) (high : x.frontier ≤ all_of x)
    (clean : (i : ℕ) (v : Interval) → i < x.frontier - x.base.index
    → slice_get r.intervals i ≡ Some v → is_orphan_by c.table v.vector ≡ false) where
  abbrev is_kept : Interval → Bool
  is_kept v = not (is_orphan_by c.table v.vector)

  abbrev front : ℕ
  front = x.frontier - x.base.index

  abbrev first : ℕ
  first = position_or_len (λ (v : Interval). is_orphan_by c.table v.vector) r.intervals

  -- what comes before the first orphan among the vectors behind the frontier
  behind_is : length (take_while (λ v. not (is_orphan_by c.table v)) (vectors_behind x))
      ≡ prefix_len is_kept (drop front r.intervals)
  behind_is =
      length-prefix_len (λ v. not (is_orphan_by c.table v)) (vectors_behind x)
      ∙ same_prefix is_kept (λ v. not (is_orphan_by c.table v))
      (λ (v : Interval). v.vector) (drop front x.intervals) (λ i v e. refl)
      ∙ ap (λ vs. prefix_len is_kept (drop front vs)) s.intervals

  -- all before the frontier are kept
  whole_is : first ≡ front + prefix_len is_kept (drop front r.intervals)
  whole_is =
      let h : x.frontier ≤ x.base.index + length x.intervals = high in
      let long : length x.intervals ≡ length r.intervals = ap length s.intervals in
      sym (length-prefix_len is_kept r.intervals)
      ∙ front_goes_on is_kept front r.intervals (omega (arith, h, long)) (λ i v e. let t =
      get_take r.intervals front i v e in ap not (clean i v t.1 t.0))
      ∙ ap (λ n. front + n) (length-prefix_len is_kept (drop front r.intervals))

  kept_is : kept_places c x ≡ r.base + first
  kept_is =
      let a = behind_is in
      let b = whole_is in
      let d = base_is r x k s in
      ap (λ n. x.frontier + n) a ∙ counted (prefix_len is_kept (drop front r.intervals)) first b d
    where
      counted : (m f : ℕ) → f ≡ (x.frontier - x.base.index) + m → x.base.index ≡ r.base → x.frontier + m ≡ r.base + f
      counted m f b d = omega (arith, b, d, low)

  first_is : (o : Option ℕ) → o ≡ option_map (λ i. r.base + i)
      (position (λ (v : Interval). is_orphan_by c.table v.vector) r.intervals)
      → MatchOption o (kept_places c x ≡ all_of x) (λ target. kept_places c x ≡ target)
  first_is o e = go (nat_lt first (length r.intervals)) refl o e
    where
      go : (b : Bool) → nat_lt first (length r.intervals) ≡ b
          → (o : Option ℕ) → o ≡ option_map (λ i. r.base + i) (cond b (Some first) None)
          → MatchOption o (kept_places c x ≡ all_of x) (λ target. kept_places c x ≡ target)
      go true t o e = rw e kept_is
      go false t o e = rw e (kept_is ∙ ap (λ n. r.base + n)
          (past first (length r.intervals) t (prefix_len-le-length is_kept r.intervals)) ∙ sym (places_are r x k s))
        where
          past : (m n : ℕ) → nat_lt m n ≡ false → m ≤ n → m ≡ n
          past m n e h = grind (arith, nat_tests)

module _ {S : Type 0} (M : Meaning S) where
  -- As much is kept of a path as comes before the first orphan that the recovery unit has.
  pub orphans_are_seen : OrphansAreSeen M
  orphans_are_seen r x k s c low high clean = kept_is r x k s c low high clean

  -- What the search for the first orphan finds is how much is kept of the path.
  pub first_orphans_are_seen : FirstOrphansAreSeen M
  first_orphans_are_seen r x k s c low high clean o e = first_is r x k s c low high clean o e
