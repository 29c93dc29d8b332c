-- The first orphan among a path's vectors is where the path is cut.
use Rattle.std.proofs.Common.{◌≡◌, refl, sym, ◌∙◌, ap, ℕ, ◌<◌, ◌≤◌, Bool, true, false, cond, not, List, length, take}
use Rattle.std.proofs.Common.{arith, map}
use Rattle.std.specs.Prelude.{Some, None, slice_get, nat_lt, MatchOption}
use Rattle.std.specs.List.{prefix_len, position, position_or_len}
use Rattle.std.proofs.lemmas.List.{length-map}
use Rattle.std.proofs.lemmas.Bool.Decides.{nat_tests}
use Rattle.std.proofs.lemmas.List.Sums.{prefix_len-le-length}
use Rattle.std.proofs.Math.Seq.{take-length}
use Rattle.model.specs.Handler.{Meaning}
use Rattle.model.specs.Records.{vector_of}
use Rattle.model.specs.World.{is_orphan}
use Rattle.theory.proofs.ListLaws.{lt_true}
use Rattle.theory.proofs.Certificate.{reachable_invariant}
use Rattle.theory.proofs.VectorLaw.{vectors_tell}
use Rattle.orphan.specs.Tests.{is_orphan_by}
use Rattle.layer_laws.specs.Laws.{FirstOrphanCuts}
use Rattle.layer_laws.proofs.Fronts.{same_prefix}

-- the first place that passes is where a front of those that fail ends
cut_at : {Y : Type 0} (p : Y → Bool) (ys : List Y) (path : List ℕ) (n : ℕ)
    → length ys ≡ length path → position_or_len p ys ≡ n → n ≤ length path
    → MatchOption (position p ys) (take n path ≡ path) (λ i. (take n path ≡ take i path) × (i < length path))
cut_at p ys path n long is le = go (nat_lt (position_or_len p ys) (length ys)) refl
  where
    go : (b : Bool) → nat_lt (position_or_len p ys) (length ys) ≡ b
        → MatchOption (cond b (Some (position_or_len p ys)) None) (take n path ≡ path) (λ i. (take n path ≡ take i path)
        × (i < length path))
    go true e = let t = lt_true (position_or_len p ys) (length ys) e in
        (ap (λ k. take k path) (sym is), omega (arith, t, long))
    go false e = let all : n ≡ length path =
        not_below (position_or_len p ys) (length ys) n (length path) e is long le in
        ap (λ k. take k path) all ∙ take-length path
      where
        not_below : (a b n m : ℕ) → nat_lt a b ≡ false → a ≡ n → b ≡ m → n ≤ m → n ≡ m
        not_below a b n m e is long le = grind (arith, nat_tests)

module _ {S : Type 0} (M : Meaning S) where
  -- A unit's path is kept up to the first place whose vector is an orphan's.
  pub first_orphan_cuts : FirstOrphanCuts M
  first_orphan_cuts w r u m found =
      let s = (reachable_invariant M r).chain.sound in
      let same : (i x : ℕ) → slice_get m.path i ≡ Some x → not (is_orphan_by
      (take (length w.table) w.table) (vector_of w.nodes x)) ≡ not (is_orphan w.nodes w.table x) =
      (λ i x e. ap not (sym (vectors_tell M w r (length w.table) x ((s.units u m found).made i x e)).1
      ∙ ap (λ t. is_orphan w.nodes t x) (take-length w.table))) in
      cut_at (is_orphan_by (take (length w.table) w.table))
      (map (vector_of w.nodes) m.path) m.path (prefix_len (λ x. not (is_orphan w.nodes w.table x)) m.path)
      (length-map m.path (vector_of w.nodes))
      (same_prefix (λ x. not (is_orphan w.nodes w.table x))
      (λ v. not (is_orphan_by (take (length w.table) w.table) v)) (vector_of w.nodes) m.path same)
      (prefix_len-le-length (λ x. not (is_orphan w.nodes w.table x)) m.path)
