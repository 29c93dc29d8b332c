use Rattle.std.proofs.Common.{◌≡◌, ℕ, length}
use Rattle.incarnation.specs.Filed.{filed_at}
use Rattle.incarnation.proofs.table.make_files.Given as goal

-- what is filed stays
abbrev pub invariant-loop : goal.invariant-loop
invariant-loop l = record {
  long : length l.files.items ≡ l.counter;
  same : (u : ℕ) → filed_at l.files.items u ≡ filed_at l.initial.files.items u;
}
