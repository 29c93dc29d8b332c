use Rattle.std.proofs.Common.{◌≡◌, ℕ, ◌<◌, [], map}
use Rattle.std.specs.Prelude.{slice_index_or}
use Rattle.workers.specs.Interleaves.{replies_by}
use Rattle.workers.proofs.matched.all_receipts.Given as goal

abbrev pub invariant-loop-feed : goal.invariant-loop-feed
invariant-loop-feed l = (f : ℕ)
    → f < l.feed → replies_by f l.history ≡ slice_index_or (map (λ v. v.items) l.receipts) f []
